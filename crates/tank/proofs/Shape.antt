-- What a step makes is laid out as a tank should be: the arrays, the table, the bounds.
use Prim.Native.Nat.{ℕ, ◌+◌, ◌≤◌, ◌<◌, ◌^◌}
use mathlib.Core.Path.{◌≡◌, refl, sym, ap, ◌∙◌, subst}
use mathlib.Core.Bool.{Bool, true}
use mathlib.Core.List.{List, [], ◌∷◌}
use native.Mathlib.Omega.{arith}
use lib.Bits.{or_lt}
use lib.ListN.{length, replicate}
use lib.Pow.{pow_pos}
use Rattle.laws.proofs.Lists.{get_d_blank}
use Rattle.styles.specs.declared.Mark.{Mark}
use Rattle.runs.specs.Runs.{Run, runs, total, set_at, Canon, Spare}
use Rattle.runs.specs.Edits.{Joined, CanEdit}
use Rattle.runs.specs.Gather.{gather}
use Rattle.runs.specs.Scan.{CanLook, CanFind}
use Rattle.runs.proofs.Laws.{at_in, at_last, length_runs}
use Rattle.runs.proofs.EditLaws.{one_joined}
use Rattle.tank.specs.declared.Tank.{Tank}
use Rattle.tank.specs.Rules.{View}
use Rattle.tank.specs.State.{runs_of, table_of, view_of, view, Laid}
use Rattle.tank.specs.Steps.{Stepped}

pub all_spare : (k : ℕ) → Spare (replicate k 0) (replicate k 0) 0
unfolding Spare
all_spare k i h = (get_d_blank 0 k i, get_d_blank 0 k i)

-- where each position's set is small, all sets together are
pub gather_small : (n : ℕ) (rs : List Run) → Canon rs → ((p : ℕ) → p < total rs → set_at rs p < 2 ^ n) → gather rs < 2 ^ n
unfolding gather Canon total
gather_small n [] c h = pow_pos n
gather_small n (r ∷ rs) c h =
    let some = c.0 in
    or_lt n r.set (gather rs) (rw (at_last r rs (total rs) (omega arith) (omega arith)) at (h (total rs) (omega arith)))
    (gather_small n rs c.2 (λ p k. rw (at_in r rs p k) at (h p (omega arith))))

module _ {t : Tank} (f : Laid t) where
  -- what a look at the tank's runs asks
  pub can_look : CanLook t.lens t.sets t.runs
  can_look =
      let a = f.lens_514 in
      let b = f.sets_514 in
      let m = f.most in
      record { lens_n = omega arith; sets_n = omega arith; small = subst (λ (n : ℕ). n < 2 ^ 63) f.sum f.small }

  -- and what finding a position in them asks
  pub can_find : CanFind t.lens t.sets t.runs t.length
  can_find = record { look = can_look; all_is = f.sum }

  -- a position within the tank's length is within its runs
  pub reach : {p : ℕ} → p ≤ t.length → p ≤ total (runs_of t)
  reach h = let a = f.sum in omega arith

  -- ---- an edit of the tank's runs that leaves no more than two runs more
  module _ (room : t.runs ≤ 512) {n : ℕ} {at : ℕ → ℕ} {out : List Run} (made : Joined n at out) (few : length out ≤ length (runs_of t) + 2) (fits : n < 2 ^ 63) where
    -- what it asks
    pub can_edit : (olens osets : List ℕ) → length olens ≡ 514 → length osets ≡ 514 → CanEdit n at olens osets t.lens t.sets t.runs t.length
    can_edit olens osets l l' =
        let a = f.lens_514 in
        let b = f.sets_514 in
        record {
          even = omega arith;
          lens_m = omega arith;
          sets_m = omega arith;
          all_is = f.sum;
          source = f.small;
          room = λ x j. omega (arith, ap length (one_joined j made), length_runs t.lens t.sets t.runs);
          sum = fits;
        }

    -- the tank's table over what it leaves
    pub over_runs : (b : Bool) (lens sets : List ℕ) (k : ℕ) → Joined n at (runs lens sets k) → Spare lens sets k → length lens ≡ 514 → length sets ≡ 514 → gather out < 2 ^ t.marks
        → Stepped (view_of b (total out) (table_of t) out) (table_of t) (gather out)
        (record { touched = b; length = n; runs = k; marks = t.marks; lens = lens; sets = sets; table = t.table })
    unfolding view
    over_runs b lens sets k is sp l l' inside =
        let e = one_joined is made in
        record {
          laid =
              record {
                most = omega (arith, ap length e, length_runs lens sets k, length_runs t.lens t.sets t.runs);
                canon = is.canon;
                sum = sym is.all;
                small = fits;
                spare = sp;
                lens_514 = l;
                sets_514 = l';
                few = f.few;
                table_64 = f.table_64;
                sorted = f.sorted;
                numbers = f.numbers;
                roomy = f.roomy;
                blanks = f.blanks;
                inside = rw e inside;
              };
          is = λ i. view_of b (sym made.all i) (table_of t) (e i);
          table_is = refl;
          all_is = ap gather e;
        }

  -- the view of a tank, over the sum of its runs
  pub view_sum : view_of t.touched (total (runs_of t)) (table_of t) (runs_of t) ≡ view t
  unfolding view
  view_sum = sym (λ i. view_of t.touched (f.sum i) (table_of t) (runs_of t))

  pub view_touched : t.touched ≡ true → view_of true (total (runs_of t)) (table_of t) (runs_of t) ≡ view t
  view_touched e = ap (λ b. view_of b (total (runs_of t)) (table_of t) (runs_of t)) (sym e) ∙ view_sum

-- a step put another way
pub stepped : {u v : View} {ms : List Mark} {a b : ℕ} {r : Tank} → Stepped u ms a r → u ≡ v → a ≡ b → Stepped v ms b r
stepped s e g = record { laid = s.laid; is = s.is ∙ e; table_is = s.table_is; all_is = s.all_is ∙ g }
