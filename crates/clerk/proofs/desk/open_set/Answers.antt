-- The set is kept, or not.
use Rattle.answers.proofs.Laws.{adds_as}
use Rattle.answers.specs.Replies.{none_says, accepted_says}
use Rattle.clerk.specs.Desk.{both_house, both_side, both_says}
use Rattle.settings_text.specs.declared.Asked.{Asked}
use Rattle.tanks.specs.House.{open_number, opening}
use mathlib.Core.Bool.{Bool, true, false, cond}
use mathlib.Core.Path.{◌≡◌, refl, sym, ap, ◌∙◌}
use Rattle.clerk.proofs.desk.open_set.Goals as goal

module _ {A : Type 0} (f : Asked → A) (other : A) (a b : Asked) (e : a ≡ b) where
  found-by : a.found ≡ true → f a ≡ cond b.found (f b) other
  found-by t = sym (ap (λ (x : Bool). cond x (f a) other) t) ∙ ap (λ (x : Asked). cond x.found (f x) other) e

  none-by : a.found ≡ false → other ≡ cond b.found (f b) other
  none-by t = sym (ap (λ (x : Bool). cond x (f a) other) t) ∙ ap (λ (x : Asked). cond x.found (f x) other) e

pub returns-then-a : goal.returns-then-a
unfolding both_house both_side both_says
returns-then-a c =
    let o = c.open-o.ensures in
    let a = c.ask-a.ensures in
    let t = c.if-a.true in
    record {
      sound = o.sound;
      settled = c.requires.sound.1;
      is = o.is ∙ found-by (λ (x : Asked). opening x.settings) _ _ _ a t;
      keeps = refl;
      answer = adds_as (ap accepted_says o.number_is ∙ found-by (λ (x : Asked). accepted_says (open_number x.settings)) none_says _ _ a t) c.accept-k.ensures;
    }

pub returns : goal.returns
unfolding both_house both_side both_says
returns c =
    let a = c.ask-a.ensures in
    let t = c.if-a.false in
    let s = c.requires.sound in
    record {
      sound = s.0;
      settled = s.1;
      is = none-by (λ (x : Asked). opening x.settings) _ _ _ a t;
      keeps = refl;
      answer = adds_as (none-by (λ (x : Asked). accepted_says (open_number x.settings)) none_says _ _ a t) c.none-k.ensures;
    }
