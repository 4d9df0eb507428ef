-- The answer to a strip from a buffer of 96 bytes, and from one that is too short.
use Prim.Native.Nat.{ℕ, zero, suc, ◌≤◌, ◌<◌}
use mathlib.Core.Path.{◌≡◌, refl, sym, ap, ap₂, ◌∙◌}
use mathlib.Core.List.{List}
use native.Mathlib.Omega.{arith}
use borrow.Author.Tests.{ne_eqb}
use lib.ListN.{length}
use Rattle.runs.specs.Stretches.{in_front}
use Rattle.tank.specs.Rules.{View, when_accepted}
use Rattle.strip.specs.Strip.{strip, strip_number}
use Rattle.strip.proofs.StripLaws.{strip_whole, number_room, number_short, short_refused}
use Rattle.answers.specs.Waiting.{Adds}
use Rattle.answers.specs.Replies.{refused_says, strip_says}
use Rattle.answers.proofs.Laws.{refused, adds_as}

module _ (t k room : ℕ) (v : View) (keys letters : List ℕ) (start : ℕ) where
  abbrev cells : List ℕ
  cells = strip v keys letters start k

  beside_number : (blank : List ℕ) → length blank ≡ 96 → (n : ℕ) → strip_says n (when_accepted n (in_front cells blank) blank) ≡ strip_says n cells
  beside_number blank long zero = ap (strip_says 0) (strip_whole v keys letters start k blank long)
  beside_number blank long (suc n) = rw (ne_eqb (suc n) 0 (λ z. omega arith)) refl

  -- 96 bytes are enough
  pub strip_says_lem : {number : ℕ} {out : List ℕ} (blank : List ℕ) → length blank ≡ 96 → 96 ≤ room → number ≡ strip_number t k 96
      → out ≡ when_accepted (strip_number t k 96) (in_front cells blank) blank → strip_says number out ≡ strip_says (strip_number t k room) cells
  strip_says_lem blank long enough e g =
      ap₂ strip_says e g ∙ beside_number blank long (strip_number t k 96) ∙ ap (λ (n : ℕ). strip_says n cells) (number_room t k 96 room (omega arith) enough)

  -- one is too few, as any room below 96 is
  pub short_says : {number at r : ℕ} {d o : List ℕ} → room < 96 → number ≡ strip_number t k 1 → Adds d at (refused_says number) r o → Adds d at (strip_says (strip_number t k room) cells) r o
  short_says {number} h e x =
      adds_as (ap (λ (n : ℕ). strip_says n cells) (e ∙ number_short t k 1 room (omega arith) h))
      (refused number _ (λ z. short_refused t k 1 (omega arith) (sym e ∙ z)) x)
