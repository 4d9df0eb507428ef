-- Texts that are put one behind the other are one text.
use mathlib.Core.Path.{◌≡◌, ap, ap₂, ◌∙◌}
use mathlib.Core.List.{List, ◌++◌}
use Prim.Native.Nat.{ℕ, ◌+◌, ◌-◌, ◌≤◌, ◌<◌}
use native.Mathlib.Omega.{arith}
use borrow.Author.Tests.{le-leb, lt-leb}
use lib.ListN.{length, length-append}
use Rattle.text.specs.Number.{put, hex_text}
use Rattle.text.proofs.Laws.{length_hex}
use Rattle.text.proofs.Putting.{put_put}
use Rattle.script.specs.declared.Kind.{Kind}
use Rattle.script.specs.Grammar.{kind_name}
use Rattle.script.specs.Writing.{Puts, free_at, most_written, again_at}

pub puts_then : {d e o s t : List ℕ} {at m n a b : ℕ} → at + m ≤ length d → Puts d at s m a e → Puts e a t n b o → Puts d at (s ++ t) (m + n) b o
puts_then {d} {e} {o} {s} {t} {at} {m} {n} {a} {b} room x y =
    record {
      place = omega (arith, x.place, y.place, length-append s t);
      few = omega (arith, x.few, y.few);
      text = y.text ∙ ap₂ (λ (l : List ℕ) (k : ℕ). put l k t) x.text x.place ∙ put_put d at s (omega (arith, x.place, x.few)) t;
    }

-- more room than is taken
pub puts_more : {d o t : List ℕ} {at m n r : ℕ} → m ≤ n → Puts d at t m r o → Puts d at t n r o
puts_more h x = record { place = x.place; few = omega (arith, x.few); text = x.text }

-- the same text
pub puts_as : {d o s t : List ℕ} {at m r : ℕ} → s ≡ t → Puts d at s m r o → Puts d at t m r o
puts_as {d} {o} {s} {t} {at} {m} {r} e x =
    record { place = x.place ∙ ap (λ (l : List ℕ). at + length l) e; few = x.few; text = x.text ∙ ap (put d at) e }

-- what `put` answers, and what the printers of numbers do
pub puts_all : {d o t : List ℕ} {at r : ℕ} → (r ≡ at + length t) × (o ≡ put d at t) → Puts d at t (length t) r o
puts_all x = record { place = x.0; few = omega (arith, x.0); text = x.1 }

pub puts_few : {d o t : List ℕ} {at m r : ℕ} → (r ≡ at + length t) × (r ≤ at + m) × (o ≡ put d at t) → Puts d at t m r o
puts_few x = record { place = x.0; few = x.1; text = x.2 }

pub puts_hex : {d o : List ℕ} {at r : ℕ} (n : ℕ) → (r ≡ at + 16) × (o ≡ put d at (hex_text n)) → Puts d at (hex_text n) 16 r o
puts_hex n x = record { place = omega (arith, x.0, length_hex n); few = omega (arith, x.0); text = x.1 }

-- a kind's name is short
pub few_kind : (k : Kind) → length (kind_name k) ≤ 7
few_kind Kind.Null = omega arith
few_kind Kind.Bool = omega arith
few_kind Kind.Whole = omega arith
few_kind Kind.Decimal = omega arith

-- a place with room behind it: behind what waits
pub free_behind : (room at : ℕ) (d : List ℕ) → room ≤ length d → at ≤ length d - room → (at ≡ free_at room at d) × (at + room ≤ length d)
free_behind room at d h k = (rw (le-leb (at + room) (length d) (omega arith)), omega arith)

-- at the front of a buffer that is written out
pub free_front : (room at : ℕ) (d : List ℕ) → room ≤ length d → length d - room < at → length d ≤ most_written → (0 ≡ free_at room at d) × (0 + room ≤ length d)
unfolding again_at
free_front room at d h k w = (rw (lt-leb (at + room) (length d) (omega arith)) (rw (le-leb (length d) most_written w)), omega arith)

-- over the last bytes of one that is held
pub free_held : (room at : ℕ) (d : List ℕ) → room ≤ length d → length d - room < at → most_written < length d → (length d - room ≡ free_at room at d) × (length d - room + room ≤ length d)
unfolding again_at
free_held room at d h k w = (rw (lt-leb (at + room) (length d) (omega arith)) (rw (lt-leb (length d) most_written w)), omega arith)
