-- A fresh state: eight fresh tanks, sound.
use Prim.Native.Nat.{ℕ, zero, suc, ◌≤◌, ◌<◌}
use mathlib.Core.Path.{◌≡◌, refl, sym, ap, ◌∙◌, subst}
use mathlib.Core.Bool.{true, false}
use mathlib.Core.List.{List, [], ◌∷◌}
use native.Mathlib.Omega.{arith}
use lib.ListN.{length, take, set, replicate, get_or-replicate, get_or-append}
use lib.Seq.{drop-cons}
use Rattle.laws.proofs.Lists.{get_d_blank, get_d_past}
use Rattle.styles.specs.Marks.{blank}
use Rattle.runs.specs.Positions.{sum_below, all_at}
use Rattle.runs.proofs.SumLaws.{sum_same}
use Rattle.tank.specs.declared.Tank.{Tank}
use Rattle.tank.specs.Rules.{fresh_length, fresh_view}
use Rattle.tank.specs.State as state
use Rattle.tank.specs.State.{view, Formed}
use Rattle.tank.proofs.FreshLaws as tank
use Rattle.tank.proofs.Shape.{all_spare}
use Rattle.tanks.specs.declared.Setting.{Setting}
use Rattle.tanks.specs.declared.Head.{Head}
use Rattle.tanks.specs.declared.Run as pool
use Rattle.tanks.specs.Settings.{accepted, share_of, shares, claim, claims}
use Rattle.tanks.specs.House.{smallest, open_number, opening}
use Rattle.tanks.specs.Pool.{no_head, no_run, no_table, runs_in, runs_below, own_runs, tank_in, tank_of, head_of, table_in, meaning, Sound, freshly}
use Rattle.tanks.specs.Promises.{Opens}
use Rattle.tanks.proofs.SliceLaws.{tank_from}
use Rattle.tanks.proofs.SettingLaws.{accepted_at, accepted_sum}
use Rattle.tanks.proofs.MeaningLaws.{views_are}

abbrev T : ℕ
T = fresh_length

-- a fresh tank: untouched, T positions, one run
abbrev fresh : Tank
fresh = record { touched = false; length = T; runs = 1; marks = 0; lens = set (replicate 514 0) 0 T; sets = replicate 514 0; table = replicate 64 blank }

eight : List Head
eight = replicate 8 (head_of fresh)

runs_one : (u : ℕ) → u < 8 → runs_in eight u ≡ 1
unfolding eight
runs_one u h = ap (λ (x : Head). x.runs) (get_or-replicate 8 u (head_of fresh) no_head h)

below_one : (u : ℕ) → u ≤ 8 → runs_below eight u ≡ u
unfolding sum_below
below_one zero h = refl
below_one (suc u) h = omega (arith, below_one u (omega arith), runs_one u (omega arith))

-- in form, and it means a fresh tank
fresh_is : state.Sound fresh × (view fresh ≡ fresh_view)
fresh_is = tank.fresh_sound (replicate 514 0) (replicate 514 0) (all_spare 514) refl refl (replicate 64 blank) refl (λ i. get_d_blank blank 64 i)

module _ (st : List Setting) where
  -- each tank's one run
  own_fresh : (u : ℕ) → u < 8 → own_runs eight (freshly st).pool u ≡ record { len = T; set = 0 } ∷ []
  unfolding freshly
  own_fresh u h =
      let first : List pool.Run = replicate 8 (record { len = T; set = 0 }) in
      rw (runs_one u h, below_one u (omega arith))
      (ap (take 1) (drop-cons (freshly st).pool u no_run (omega arith))
      ∙ ap (λ (r : pool.Run). r ∷ []) (get_or-append first (replicate 504 no_run) no_run u h ∙ get_or-replicate 8 u (record { len = T; set = 0 }) no_run h))

  pub tank_fresh : (u : ℕ) → u < 8 → tank_of (freshly st) u ≡ fresh
  unfolding tank_of tank_in freshly eight
  tank_fresh u h = λ i. tank_from (get_or-replicate 8 u (head_of fresh) no_head h i) (own_fresh u h i) (get_or-replicate 8 u (table_in fresh) no_table h i)

  pub means_fresh : (meaning (freshly st)).tanks ≡ replicate 8 fresh_view
  means_fresh =
      views_are (freshly st) (replicate 8 fresh_view) refl
      (λ u h. ap view (tank_fresh u h) ∙ fresh_is.1 ∙ sym (get_or-replicate 8 u fresh_view fresh_view h))

  module _ (l : length st ≡ 8) (ok : accepted st ≡ true) where
    claims_one : claims st (runs_in eight) 8 ≡ shares st 8
    claims_one =
        sum_same (claim st (runs_in eight)) (share_of st) 8 (λ u h. omega (arith, runs_one u h, accepted_at st ok u h))

    pub fresh_sound : Sound (freshly st)
    unfolding freshly eight
    fresh_sound = record {
      settings_8 = l;
      heads_8 = refl;
      tables_8 = refl;
      pool_512 = refl;
      rule = ok;
      limits = λ u h. omega (arith, runs_one u h, accepted_at st ok u h);
      sum = omega (arith, claims_one, accepted_sum st ok);
      each = λ u h. subst Formed (sym (tank_fresh u h)) fresh_is.0.formed;
      spare = λ k h. get_d_past no_run 504 k (replicate 8 (record { len = T; set = 0 })) (omega (arith, below_one 8 (omega arith)));
    }

    pub opens : Opens st (record { number = 0; tanks = freshly st })
    unfolding open_number opening meaning freshly
    opens = record {
      number_is = rw ok;
      is = rw ok (λ i. record { settings = st; tanks = means_fresh i });
      sound = fresh_sound;
    }

pub ones_ok : accepted (replicate 8 smallest) ≡ true
unfolding accepted all_at sum_below
ones_ok = refl

pub opens_2 : (st : List Setting) → accepted st ≡ false → Opens st (record { number = 2; tanks = freshly (replicate 8 smallest) })
unfolding open_number opening meaning freshly
opens_2 st off = record {
  number_is = rw off;
  is = rw off (λ i. record { settings = replicate 8 smallest; tanks = means_fresh (replicate 8 smallest) i });
  sound = fresh_sound (replicate 8 smallest) refl ones_ok;
}
