-- Pieces one behind the other.
use mathlib.Core.Path.{◌≡◌, refl, sym, ap, ap₂, subst, ◌∙◌}
use mathlib.Core.List.{List, [], ◌∷◌, ◌++◌, foldl-append}
use Prim.Native.Nat.{ℕ, ◌+◌, ◌≤◌}
use native.Mathlib.Omega.{arith}
use lib.ListN.{length}
use borrow.Author.Tests.{ne_eqb}
use Rattle.text.specs.Number.{put}
use Rattle.script.specs.Writing.{Puts, free_at}
use Rattle.tank.specs.Rules.{when_accepted}
use Rattle.answers.specs.Waiting.{Pieces, Waiting, waiting, with, with_all, Short, Adds, piece_room}
use Rattle.answers.specs.Replies.{refused_says, or_refused}

-- a text put at the free place is a piece more
pub one_piece : {d o t : List ℕ} {k m r : ℕ} (at : ℕ) → k ≡ free_at piece_room at d → m ≤ piece_room → Puts d k t m r o → Adds d at (t ∷ []) r o
unfolding with with_all Short
one_piece {d} {o} {t} {k} {m} {r} at e most p =
    record {
      is = ap₂ waiting (p.text ∙ ap (λ (x : ℕ). put d x t) e) (p.place ∙ ap (λ (x : ℕ). x + length t) e);
      short = (omega (arith, p.place, p.few), tt);
    }

-- nothing put
pub no_piece : (d : List ℕ) (at : ℕ) → Adds d at [] at d
unfolding with_all Short
no_piece d at = record { is = refl; short = tt }

pub short_append : (ts us : Pieces) → Short ts → Short us → Short (ts ++ us)
unfolding Short
short_append [] us h k = k
short_append (t ∷ ts) us h k = (h.0, short_append ts us h.1 k)

-- what is still to be put, after some of it
goes_on : {d e : List ℕ} {at k : ℕ} {ts : Pieces} (us : Pieces) → Adds d at ts k e → with_all (waiting e k) us ≡ with_all (waiting d at) (ts ++ us)
unfolding with_all
goes_on {d} {e} {at} {k} {ts} us x = ap (λ (w : Waiting). with_all w us) x.is ∙ sym (foldl-append with (waiting d at) ts us)

-- pieces, and pieces behind them
pub and_then : {d e o : List ℕ} {at k r : ℕ} {ts us : Pieces} → Adds d at ts k e → Adds e k us r o → Adds d at (ts ++ us) r o
and_then {ts = ts} {us = us} x y = record { is = y.is ∙ goes_on us x; short = short_append ts us x.short y.short }

-- the same pieces
pub adds_as : {d o : List ℕ} {at r : ℕ} {ts us : Pieces} → ts ≡ us → Adds d at ts r o → Adds d at us r o
adds_as {d} {o} {at} {r} e x = record { is = x.is ∙ ap (with_all (waiting d at)) e; short = subst Short e x.short }

-- ---- an answer, or a refusal
module _ {d o : List ℕ} {at r : ℕ} (number : ℕ) (says : Pieces) where
  pub given : number ≡ 0 → Adds d at says r o → Adds d at (or_refused number says) r o
  given e x = adds_as (sym (rw e)) x

  pub refused : (number ≡ 0 → ⊥) → Adds d at (refused_says number) r o → Adds d at (or_refused number says) r o
  refused n x = adds_as (sym (rw (ne_eqb number 0 n))) x

-- ---- one answer where the number is 0, and another beside a refusal
module _ {d o : List ℕ} {at r : ℕ} (number : ℕ) (a b : Pieces) where
  pub as_accepted : number ≡ 0 → Adds d at a r o → Adds d at (when_accepted number a b) r o
  as_accepted e x = adds_as (sym (rw e)) x

  pub as_refused : (number ≡ 0 → ⊥) → Adds d at b r o → Adds d at (when_accepted number a b) r o
  as_refused n x = adds_as (sym (rw (ne_eqb number 0 n))) x

-- ---- a loop that puts pieces
-- when what is left is put as well, all is
pub record Left (d : List ℕ) (at : ℕ) (all : Pieces) (k : ℕ) (e : List ℕ) (left : Pieces) : Type 0 where
  pub is : with_all (waiting e k) left ≡ with_all (waiting d at) all
  pub short : Short left → Short all

pub left_all : (d : List ℕ) (at : ℕ) (all : Pieces) → Left d at all at d all
left_all d at all = record { is = refl; short = λ h. h }

pub left_more : {d e o : List ℕ} {at k r : ℕ} {all left ts us : Pieces} → left ≡ ts ++ us → Adds e k ts r o → Left d at all k e left → Left d at all r o us
left_more {e = e'} {k = k} {ts = ts} {us = us} e x l =
    record {
      is = goes_on us x ∙ sym (ap (with_all (waiting e' k)) e) ∙ l.is;
      short = λ h. l.short (subst Short (sym e) (short_append ts us x.short h));
    }

pub left_none : {d e : List ℕ} {at k : ℕ} {all left : Pieces} → left ≡ [] → Left d at all k e left → Adds d at all k e
unfolding with_all Short
left_none {e = e'} {k = k} e l =
    record { is = sym (ap (with_all (waiting e' k)) e) ∙ l.is; short = l.short (subst Short (sym e) tt) }
