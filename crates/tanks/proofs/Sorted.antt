-- Document 01: a set is given by key, then lamport, then peer. So stand the marks at every position of every tank, and in the sets that are handed out.
use Prim.Native.Nat.{ℕ, ◌+◌, ◌-◌, ◌<◌}
use mathlib.Core.Path.{◌≡◌, sym, subst}
use mathlib.Core.Bool.{true}
use mathlib.Core.List.{List, [], ◌∷◌}
use native.Mathlib.Omega.{arith}
use native.Mathlib.Decide.{dec_lt}
use lib.Dec.{ltb, eqb}
use lib.ListN.{length}
use Rattle.laws.proofs.Cases.{cond_by}
use Rattle.styles.specs.declared.Party.{Party}
use Rattle.styles.specs.Marks.{Sorted}
use Rattle.styles.proofs.WalkLaws.{sorted_pick}
use Rattle.styles.proofs.SetLaws.{sorted_insert, sorted_only}
use Rattle.tank.specs.declared.Tank.{Tank}
use Rattle.tank.specs.Rules.{View, fresh_view, Edit, annotating, inserting, deleting, removing, shown_to, after_annotate, inherited, after_insert, for_insert, after_delete, back_from, stripped, after_remove, after}
use Rattle.runs.specs.Positions.{within}
use Rattle.tank.specs.State.{view, Laid, table_of}
use Rattle.tank.proofs.Sequences as own
use Rattle.tanks.specs.declared.Setting.{Setting}
use Rattle.tanks.specs.declared.Tanks.{Tanks}
use Rattle.tanks.specs.Settings.{accepted}
use Rattle.tanks.specs.House.{House, tank_at, shown_at, refusal_at, inserted_set_at, opening, Call, reached}
use Rattle.tanks.specs.Pool.{meaning, Sound, tank_of}
use Rattle.tanks.proofs.MeaningLaws.{tank_at_lem}
use Rattle.tanks.proofs.CallLaws.{refusal_past}
use Rattle.tanks.proofs.Lengths.{calls_on, own_reached}

-- every position of a tank has its marks sorted
abbrev pub InOrder : View → Type 0
InOrder v = (p : ℕ) → Sorted (v.at p)

-- ---- the code's states
-- the sets of a tank's runs are picked from one sorted table
view_sorted : (x : Tank) → Laid x → InOrder (view x)
unfolding view
view_sorted x ok p = sorted_pick (table_of x) _ ok.sorted

-- the marks at every position of every tank of a sound state are sorted
pub sets_sorted : (s : Tanks) → Sound s → (t p : ℕ) → t < 8 → Sorted ((tank_at (meaning s) t).at p)
sets_sorted s ok t p t8 = subst InOrder (sym (tank_at_lem s t t8)) (view_sorted (tank_of s t) (ok.each t t8).laid) p

-- ---- the sets of the rules
-- the empty set is sorted
none_sorted : Sorted []
unfolding Sorted
none_sorted = tt

-- what new positions inherit
inherited_sorted : (pos : ℕ) (v : View) → InOrder v → Sorted (inherited pos v)
unfolding inherited
inherited_sorted pos v h =
    cond_by Sorted (eqb pos 0) none_sorted (cond_by Sorted (eqb pos v.length) none_sorted (sorted_only _ (v.at (pos - 1)) (h (pos - 1))))

-- the set for an insertion
for_insert_lem : (pos : ℕ) (v : View) → InOrder v → Sorted (for_insert pos v)
unfolding for_insert
for_insert_lem pos v h = cond_by Sorted v.touched (inherited_sorted pos v h) none_sorted

-- what a party is shown
pub shown_sorted : (who : Party) (v : View) → InOrder v → InOrder (shown_to who v)
unfolding shown_to
shown_sorted who v h p = sorted_only _ (v.at p) (h p)

-- ---- each edit keeps every position sorted
pub edit_sorted : (e : Edit) (v : View) → InOrder v → InOrder (after e v)
unfolding after after_annotate after_insert after_delete after_remove stripped
edit_sorted (annotating a b m) v h = λ p. cond_by Sorted (within a b p) (sorted_insert m (v.at p) (h p)) (h p)
edit_sorted (inserting who pos len) v h =
    cond_by InOrder v.touched
    (λ p. cond_by Sorted (ltb p pos) (h p) (cond_by Sorted (ltb p (pos + len)) (inherited_sorted pos v h) (h (p - len))))
    h
edit_sorted (deleting who a b) v h =
    cond_by InOrder v.touched (λ p. cond_by Sorted (ltb p a) (h p) (h (p + (b - a)))) h
edit_sorted (removing id last) v h =
    λ p. cond_by Sorted (within (back_from id last v) (last + 1) p) (sorted_only _ (v.at p) (h p)) (h p)

-- so do calls in a row, refused ones among them
calls_sorted : (cs : List own.OwnCall) (v : View) → InOrder v → InOrder (own.after_calls cs v)
unfolding own.after_calls
calls_sorted [] v h = h
calls_sorted (c ∷ cs) v h =
    calls_sorted cs (own.after_one c v) (cond_by InOrder (own.accepted_by c v) (edit_sorted c.edit v h) h)

-- a fresh tank has no marks
pub fresh_sorted : InOrder fresh_view
unfolding fresh_view Sorted
fresh_sorted p = tt

-- the same of the rules' own states: for accepted settings and any list of calls, every position of every tank is sorted
pub reached_sorted : (st : List Setting) (l : length st ≡ 8) (ok : accepted st ≡ true) (cs : List Call) (t p : ℕ) → t < 8
    → Sorted ((tank_at (reached st cs) t).at p)
reached_sorted st l ok cs t p t8 =
    subst InOrder (sym (own_reached st l ok t t8 cs)) (calls_sorted (calls_on t (opening st) cs) fresh_view fresh_sorted) p

-- ---- the sets that are handed out
-- an insertion's answer, where its tank is sorted
answer_sorted : (h : House) (t : ℕ) (who : Party) (pos len : ℕ) → (t < 8 → InOrder (tank_at h t)) → Sorted (inserted_set_at h t who pos len)
unfolding inserted_set_at
answer_sorted h t who pos len ok =
    elim (dec_lt t 8) [
      | yes l ↦ cond_by Sorted (eqb (refusal_at h t (inserting who pos len)) 0) (for_insert_lem pos (shown_at h who t) (shown_sorted who (tank_at h t) (ok l))) none_sorted
      | no l ↦ rw (refusal_past h t (inserting who pos len) (omega arith)) none_sorted
    ]

module _ (s : Tanks) (ok : Sound s) where
  -- the set that an insertion answers is sorted, accepted or refused
  pub inserted_sorted : (t : ℕ) (who : Party) (pos len : ℕ) → Sorted (inserted_set_at (meaning s) t who pos len)
  inserted_sorted t who pos len = answer_sorted (meaning s) t who pos len (λ l p. sets_sorted s ok t p l)

  -- so is the set for an insertion at a position, asked without editing
  pub for_insert_sorted : (t : ℕ) (who : Party) (pos : ℕ) → t < 8 → Sorted (for_insert pos (shown_at (meaning s) who t))
  for_insert_sorted t who pos t8 =
      for_insert_lem pos (shown_at (meaning s) who t) (shown_sorted who (tank_at (meaning s) t) (λ p. sets_sorted s ok t p t8))
