-- The set is kept where its number was given, and fewer than four came after it.
use mathlib.Core.Path.{◌≡◌, ap, ◌∙◌}
use mathlib.Core.Bool.{true, false}
use mathlib.Core.List.{[]}
use Prim.Native.Nat.{ℕ, ◌-◌, ◌≤◌, ◌<◌}
use native.Mathlib.Omega.{arith}
use lib.ListN.{get_or}
use borrow.Author.Tests.{le-leb, lt-leb, lt-ltb, le-ltb}
use Rattle.settings_text.specs.declared.Asked.{Asked}
use Rattle.settings_text.specs.declared.Kept.{Kept}
use Rattle.settings_text.specs.Text.{no_settings}
use Rattle.settings_text.specs.Kept.{asked_of}
use Rattle.settings_text.proofs.Kept.ask.Goals as goal

-- no set is found
abbrev none : Asked
none = record { found = false; settings = no_settings }

module _ (k : Kept) (n last : ℕ) (is : last ≡ k.number) where
  no_number : n < 1 → none ≡ asked_of k n
  unfolding asked_of
  no_number h = rw (lt-leb 1 n h)

  not_yet : 1 ≤ n → last < n → none ≡ asked_of k n
  unfolding asked_of
  not_yet h g = let f : k.number < n = omega arith in rw (le-leb 1 n h) (rw (lt-leb n k.number f))

  there : 1 ≤ n → n ≤ last → last - n < 4 → ◌≡◌ {A = Asked} (record { found = true; settings = (get_or k.sets (last - n) (record { settings = [] })).settings }) (asked_of k n)
  unfolding asked_of
  there h g f =
      let a : n ≤ k.number = omega arith in
      let b : k.number - n < 4 = omega arith in
      ap {B = Asked} (λ (j : ℕ). record { found = true; settings = (get_or k.sets (j - n) (record { settings = [] })).settings }) is
      ∙ rw (le-leb 1 n h) (rw (le-leb n k.number a) (rw (lt-ltb (k.number - n) 4 b)))

  no_more : 1 ≤ n → n ≤ last → 4 ≤ last - n → none ≡ asked_of k n
  unfolding asked_of
  no_more h g f =
      let a : n ≤ k.number = omega arith in
      let b : 4 ≤ k.number - n = omega arith in
      rw (le-leb 1 n h) (rw (le-leb n k.number a) (rw (le-ltb (k.number - n) 4 b)))

pub returns-then-n-lt1 : goal.returns-then-n-lt1
returns-then-n-lt1 c = c.nothing.ensures ∙ no_number _ _ _ c.from-last.ensures c.if-n-lt1.true

pub returns-then-n-last : goal.returns-then-n-last
returns-then-n-last c = c.nothing-then-n-last.ensures ∙ not_yet _ _ _ c.from-last.ensures c.if-n-lt1.false c.if-n-last.true

pub returns-then-age-lt4 : goal.returns-then-age-lt4
returns-then-age-lt4 c = there _ _ _ c.from-last.ensures c.if-n-lt1.false c.if-n-last.false c.if-age-lt4.true

pub returns : goal.returns
returns c = c.nothing-2.ensures ∙ no_more _ _ _ c.from-last.ensures c.if-n-lt1.false c.if-n-last.false c.if-age-lt4.false
