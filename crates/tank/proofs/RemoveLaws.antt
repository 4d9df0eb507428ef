-- A removal by its cases.
use Prim.Native.Nat.{ℕ, zero, suc, ◌+◌, ◌-◌, ◌≤◌, ◌<◌, ◌^◌}
use mathlib.Core.Path.{◌≡◌, refl, sym, ap, ◌∙◌}
use mathlib.Core.Bool.{Bool, true, false, true≢false}
use mathlib.Core.List.{List}
use native.Mathlib.Omega.{arith}
use native.Mathlib.Decide.{dec_lt}
use lib.Bits.{or_zero_r}
use lib.ListN.{get_or, take}
use lib.Pow.{pow_mono}
use borrow.Author.Tests.{le-leb, lt-leb}
use Rattle.styles.specs.declared.Identity.{Identity}
use Rattle.styles.specs.declared.Mark.{Mark}
use Rattle.styles.specs.Order.{id_of}
use Rattle.styles.specs.Marks.{member, place_of, blank}
use Rattle.styles.specs.Bits.{pick, with_bit}
use Rattle.styles.proofs.StyleLaws.{absent_pick}
use Rattle.runs.specs.Runs.{set_at}
use Rattle.runs.specs.Gather.{gather}
use Rattle.runs.specs.Positions.{stretch_to}
use Rattle.runs.specs.Scan.{meets, CanScan}
use Rattle.runs.proofs.ScanLaws.{stretch_le, stretch_end, stretch_ext}
use Rattle.tank.specs.declared.Tank.{Tank}
use Rattle.tank.specs.Rules.{View, removing, after, back_from, stripped, after_remove, barred, empty, over, long, own_number, clashes, full, refusal, removed_first}
use Rattle.tank.specs.State.{runs_of, table_of, view, Laid, Formed, Sound, Called}
use Rattle.tank.specs.Steps.{Trimmed, CanStrip}
use Rattle.tank.proofs.Calls.{number_4, number_0, when_refused, refused, made}
use Rattle.tank.proofs.RoomLaws.{place_in, place_id}
use Rattle.tank.proofs.Shape.{can_look}
use Rattle.tank.proofs.StripLaws.{meets_mark}
use Rattle.tank.proofs.Unique.{table_length}
use Rattle.tank.proofs.ViewLaws.{view_ext, range_before, range_past}

-- what a removal comes to: 0 or the refusal's number, the first position of the stretch, and the tank after it
pub record Removed : Type 0 where
  pub number : ℕ
  pub first : ℕ
  pub tank : Tank

-- by the rules
abbrev pub Gives : Tank → Identity → ℕ → Removed → Type 0
Gives t id last r = (Called (removing id last) t r.number r.tank) × (r.first ≡ removed_first id last (view t))

-- ---- a stretch of no positions loses nothing
stripped_none : (id : Identity) (a : ℕ) (v : View) → stripped id a a v ≡ v
unfolding stripped
stripped_none id a v =
    view_ext _ _ refl refl
    (λ p. elim (dec_lt p a) [ yes h ↦ range_before a a p _ _ h | no h ↦ range_past a a p _ _ (omega arith) ])

-- ---- a tank that has marks is touched
marks_none : (n : ℕ) → 2 ^ n - 1 ≡ 0 → n ≡ 0
marks_none zero e = refl
marks_none (suc n) e = absurd (omega (arith, pow_mono {i = 1} {j = suc n} (omega arith)))

untouched_none : {t : Tank} → Formed t → t.touched ≡ false → t.marks ≡ 0
unfolding gather
untouched_none {t} f e =
    marks_none t.marks (sym f.whole ∙ ap gather (f.fresh e) ∙ or_zero_r 0)

no_member : (n : ℕ) (ms : List Mark) (id : Identity) → n ≡ 0 → member id (take n ms) ≡ false
unfolding member
no_member n ms id e = rw e refl

pub member_touched : {t : Tank} → Formed t → (id : Identity) → member id (table_of t) ≡ true → t.touched ≡ true
member_touched {t} f id m = go t.touched refl
  where
    go : (b : Bool) → t.touched ≡ b → b ≡ true
    go true e = refl
    go false e = absurd (true≢false (sym m ∙ no_member t.marks t.table id (untouched_none f e)))

module _ {t : Tank} (s : Sound t) (id : Identity) (last : ℕ) where
  pub remove_4 : t.length ≤ last → Gives t id last (record { number = 4; first = 0; tank = t })
  unfolding barred empty over view
  remove_4 h =
      let r = number_4 (removing id last) (view t) refl refl (le-leb t.length last h) in
      (refused s 3 r, sym (when_refused (refusal (removing id last) (view t)) _ _ (omega arith)))

  module _ (fits : last < t.length) where
    accepted : refusal (removing id last) (view t) ≡ 0
    unfolding barred empty over long own_number clashes full view
    accepted = number_0 (removing id last) (view t) refl refl (lt-leb t.length last fits) refl refl refl refl

    first_is : {first : ℕ} → first ≡ back_from id last (view t) → first ≡ removed_first id last (view t)
    first_is q = let a = accepted in q ∙ sym (simp a)

    -- ---- an identity that the table has not
    module _ (e : member id (table_of t) ≡ false) where
      from_end : back_from id last (view t) ≡ last + 1
      unfolding back_from view
      from_end =
          stretch_end (λ p. member id (pick (table_of t) (set_at (runs_of t) p))) (last + 1) (omega arith)
          (absent_pick id (table_of t) (set_at (runs_of t) (last + 1 - 1)) e)

      pub remove_none : Gives t id last (record { number = 0; first = last + 1; tank = t })
      unfolding after after_remove
      remove_none = (
        made accepted s.formed (sym (stripped_none id (last + 1) (view t)) ∙ ap (λ a. stripped id a (last + 1) (view t)) (sym from_end)),
        first_is (sym from_end),
      )

    -- ---- one that it has, at its place
    module _ (at : ℕ) (at_is : at ≡ place_of id (table_of t)) (e : member id (table_of t) ≡ true) where
      pub place_inside : at < t.marks
      place_inside =
          omega (arith, at_is, place_in (table_of t) id s.formed.laid.sorted e, table_length s.formed.laid)

      id_is : id_of (get_or (table_of t) at blank) ≡ id
      id_is = ap (λ k. id_of (get_or (table_of t) k blank)) at_is ∙ place_id (table_of t) id s.formed.laid.sorted e

      pub can_scan : CanScan t.lens t.sets t.runs (last + 1)
      can_scan =
          let d = s.formed.laid.sum in
          record { look = can_look s.formed.laid; reach = omega arith }

      module _ (first : ℕ) (q : first ≡ stretch_to (λ p. meets (with_bit at 0) (set_at (runs_of t) p)) (last + 1)) where
        from_is : first ≡ back_from id last (view t)
        unfolding back_from view
        from_is =
            q
            ∙ stretch_ext _ _ (last + 1)
            (λ p h.
            meets_mark (table_of t) at s.formed.laid.sorted (omega (arith, place_inside, table_length s.formed.laid)) (set_at (runs_of t) p)
            ∙ ap (λ i. member i (pick (table_of t) (set_at (runs_of t) p))) id_is)

        pub can_strip : CanStrip t first (last + 1) at
        can_strip =
            record {
              range =
                  record {
                    laid = s.formed.laid;
                    room = s.within;
                    up = omega (arith, q, stretch_le (λ p. meets (with_bit at 0) (set_at (runs_of t) p)) (last + 1));
                    fits = omega arith;
                  };
              there = place_inside;
            }

        module _ {u : Tank} (c : (Laid u) × (view u ≡ stripped (id_of (get_or (table_of t) at blank)) first (last + 1) (view t))) where
          pub still_touched : u.touched ≡ true
          unfolding stripped view
          still_touched = ap (λ (v : View). v.touched) c.1 ∙ member_touched s.formed id e

          pub remove_done : {r : Tank} → Trimmed u r → Gives t id last (record { number = 0; first = first; tank = r })
          unfolding after after_remove
          remove_done d = (
            made accepted d.formed
                (d.is ∙ c.1 ∙ (λ i. stripped (id_is i) (from_is i) (last + 1) (view t))),
            first_is from_is,
          )
