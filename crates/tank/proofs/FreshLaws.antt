-- A fresh tank: one run without marks, and nothing behind it.
use Prim.Native.Nat.{ℕ}
use mathlib.Core.Path.{◌≡◌, refl, ◌∙◌}
use mathlib.Core.Bool.{false}
use mathlib.Core.List.{List, [], ◌∷◌}
use native.Mathlib.Omega.{arith}
use lib.Bits.{or_zero_r}
use lib.ListN.{length, get_or, set, length-set}
use lib.Seq.{get_or-set_same, get_or-set_other}
use Rattle.styles.specs.declared.Mark.{Mark}
use Rattle.styles.specs.Marks.{Sorted, blank, only}
use Rattle.styles.specs.Bits.{pick}
use Rattle.runs.specs.Runs.{run, runs, total, Canon, Other, Spare}
use Rattle.runs.specs.Gather.{gather}
use Rattle.tank.specs.declared.Tank.{Tank}
use Rattle.tank.specs.Rules.{fresh_length, fresh_view}
use Rattle.tank.specs.State.{view, Numbers, Sound}
use Rattle.tank.proofs.ViewLaws.{view_ext}

module _ (lens sets : List ℕ) (sp : Spare lens sets 0) (l : length lens ≡ 514) (l' : length sets ≡ 514) (table : List Mark) (long : length table ≡ 64)
    (blanks : (i : ℕ) → get_or table i blank ≡ blank) where
  first : runs (set lens 0 fresh_length) sets 1 ≡ run fresh_length 0 ∷ []
  unfolding runs Spare
  first =
      let a = get_or-set_same lens 0 fresh_length 0 (omega arith) in
      let b = (sp 0 (omega arith)).1 in
      λ i. run (a i) (b i) ∷ []

  pub fresh_sound : let t : Tank = record { touched = false; length = fresh_length; runs = 1; marks = 0; lens = set lens 0 fresh_length; sets = sets; table = table } in
      (Sound t) × (view t ≡ fresh_view)
  unfolding Spare Canon Other total view fresh_view gather Sorted Numbers pick only
  fresh_sound =
      let e = first in (
        record {
          formed =
              record {
                laid =
                    record {
                      most = omega arith;
                      canon = rw e (omega arith, tt, tt);
                      sum = rw e refl;
                      small = omega arith;
                      spare = λ i h. (get_or-set_other lens 0 i fresh_length 0 (omega arith) ∙ (sp i (omega arith)).0, (sp i (omega arith)).1);
                      lens_514 = simp length-set l;
                      sets_514 = l';
                      few = omega arith;
                      table_64 = long;
                      sorted = tt;
                      numbers = tt;
                      roomy = record { few = omega arith; lab = λ some. absurd (some refl) };
                      blanks = λ i h. blanks i;
                      inside = rw e (omega (arith, or_zero_r 0));
                    };
                whole = rw e (or_zero_r 0);
                fresh = λ q. e;
              };
          within = omega arith;
        },
        view_ext _ _ refl refl (λ p. refl),
      )
