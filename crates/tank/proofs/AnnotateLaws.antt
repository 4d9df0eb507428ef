-- An annotate by its cases: a mark that the table has, and one that is new to it.
use Prim.Native.Nat.{ℕ, zero, suc, ◌-◌, ◌≤◌, ◌<◌, ◌^◌}
use mathlib.Core.Path.{◌≡◌, refl, sym, ap, ◌∙◌}
use mathlib.Core.Bool.{Bool, true, false, cond, true≢false}
use mathlib.Core.List.{List, [], ◌∷◌}
use native.Mathlib.Omega.{arith}
use native.Mathlib.Nat.{mod-eq_of_lt}
use lib.Bits.{bit_or, or_comm, and_mask}
use lib.ListN.{length, get_or}
use lib.Pow.{pow-lt}
use borrow.Author.Tests.{lt-leb, le-leb, lt-ltb, le-ltb}
use Rattle.refusal.specs.declared.Refusal.{Refusal}
use Rattle.refusal.specs.Numbers.{number_of}
use Rattle.refusal.proofs.NumberLaws.{positive}
use Rattle.styles.specs.declared.Mark.{Mark}
use Rattle.styles.specs.Order.{id_of}
use Rattle.styles.specs.Values.{value_nan}
use Rattle.styles.specs.Marks.{member, place_of, insert_at, blank}
use Rattle.styles.specs.Bits.{open_bit, with_bit}
use Rattle.styles.proofs.TableLaws.{length_put}
use Rattle.styles.proofs.UnionLaws.{open_all, pick_all}
use Rattle.runs.specs.Runs.{set_at}
use Rattle.runs.specs.Gather.{gather}
use Rattle.styles.proofs.Digits.{or_within}
use Rattle.tank.specs.declared.Tank.{Tank}
use Rattle.tank.specs.declared.Room.TheVariants.{Known, New, Clash, Full}
use Rattle.tank.specs.Rules.{View, made_flag, retired_flag, annotating, after, after_annotate, barred, empty, over, long, mark_number, own_number, crowded, clash, clashes, full, carried, runs_held}
use Rattle.tank.specs.State.{runs_of, table_of, view, Formed, Sound, Called}
use Rattle.tank.specs.Steps.{Stepped, CanLay, CanAdmit, room_for}
use Rattle.tank.proofs.AdmitLaws.{place_fits}
use Rattle.tank.proofs.Carried.{any_clash}
use Rattle.tank.proofs.Calls.{number_3, number_4, number_own, number_7, number_8, number_0, refused, made}
use Rattle.tank.proofs.CrowdLaws.{room_left}
use Rattle.tank.proofs.RoomLaws.{room_says, no_clash, known_is, place_in}
use Rattle.tank.proofs.Unique.{table_length, marks_carried, runs_held_lem}

-- what an edit made is in form, where every mark of the table is carried
pub formed_of : {v : View} {ms : List Mark} {all : ℕ} {r : Tank} → Stepped v ms all r → v.touched ≡ true → all ≡ 2 ^ length ms - 1 → Formed r
unfolding view
formed_of {ms = ms} {r = r} s e a =
    record {
      laid = s.laid;
      whole = s.all_is ∙ a ∙ ap (λ (n : ℕ). 2 ^ n - 1) (ap length (sym s.table_is) ∙ table_length s.laid);
      fresh = λ q. absurd (true≢false (sym (ap (λ (v : View). v.touched) s.is ∙ e) ∙ q));
    }

-- a bit that all have is there
with_all : (n i : ℕ) → i < n → bit_or (2 ^ n - 1) (2 ^ i) ≡ 2 ^ n - 1
with_all n i h =
    or_comm (2 ^ n - 1) (2 ^ i)
    ∙ or_within (2 ^ i) (2 ^ n - 1) (and_mask (2 ^ i) n ∙ mod-eq_of_lt (pow-lt h))

put_at : (i : ℕ) (m : Mark) (ms : List Mark) → i ≤ length ms → get_or (insert_at i m ms) i blank ≡ m
unfolding insert_at
put_at zero m ms h = refl
put_at (suc i) m [] h = absurd (omega arith)
put_at (suc i) m (x ∷ xs) h = put_at i m xs (omega arith)

-- a mark that is not refused by itself has no NaN
good_number : (m : Mark) → mark_number m ≡ 0 → value_nan m.value ≡ false
unfolding mark_number
good_number m = go (value_nan m.value) (cond (made_flag m.flags) (cond (retired_flag m.flags) 18 0) 14)
  where
    go : (b : Bool) (n : ℕ) → cond b 6 n ≡ 0 → b ≡ false
    go true n h = absurd (omega arith)
    go false n h = refl

pub none_own : (m : Mark) (n : ℕ) → n ≡ mark_number m → n ≤ 0 → mark_number m ≡ 0
none_own m n e h = omega arith

-- ---- the tests of an annotate
module _ {t : Tank} (s : Sound t) (start end : ℕ) (m : Mark) where
  allowed : barred (annotating start end m) ≡ false
  unfolding barred
  allowed = refl

  pub refused_3 : end ≤ start → Called (annotating start end m) t 3 t
  unfolding empty
  refused_3 h = refused s 2 (number_3 (annotating start end m) (view t) allowed (le-leb end start h))

  module _ (up : start < end) where
    some : empty (annotating start end m) ≡ false
    unfolding empty
    some = lt-leb end start up

    pub refused_4 : t.length < end → Called (annotating start end m) t 4 t
    unfolding over view
    refused_4 h = refused s 3 (number_4 (annotating start end m) (view t) allowed some (lt-ltb t.length end h))

    module _ (fits : end ≤ t.length) where
      inside : over (annotating start end m) (view t) ≡ false
      unfolding over view
      inside = le-ltb t.length end fits

      not_long : long (annotating start end m) (view t) ≡ false
      unfolding long
      not_long = refl

      pub refused_own : (n : ℕ) → n ≡ mark_number m → 0 < n → Called (annotating start end m) t n t
      unfolding own_number
      refused_own zero e h = absurd (omega arith)
      refused_own (suc n) e h = refused s n (number_own (annotating start end m) (view t) allowed some inside not_long (omega arith) ∙ sym e)

      pub refused_as : (r : Refusal) → number_of r ≡ mark_number m → Called (annotating start end m) t (number_of r) t
      refused_as r e = refused_own (number_of r) e (positive r)

      module _ (own : mark_number m ≡ 0) where
        is_good : own_number (annotating start end m) ≡ 0
        unfolding own_number
        is_good = own

        number : value_nan m.value ≡ false
        number = good_number m own

        table : carried (view t) ≡ table_of t
        table = marks_carried s.formed

        -- the mark clashes at some position where it clashes with the table
        clashing : clashes (annotating start end m) (view t) ≡ clash m (table_of t)
        unfolding clashes view
        clashing =
            any_clash m (table_of t) (set_at (runs_of t)) t.length _ s.formed.laid.sorted (table ∙ sym (pick_all (table_of t))) ∙ ap (clash m) (pick_all (table_of t))

        pub refused_7 : room_for m (table_of t) ≡ Clash → Called (annotating start end m) t 7 t
        refused_7 e = refused s 6 (number_7 (annotating start end m) (view t) allowed some inside not_long is_good (clashing ∙ room_says m (table_of t) e))

        clear : clash m (table_of t) ≡ false → clashes (annotating start end m) (view t) ≡ false
        clear c = clashing ∙ c

        pub refused_8 : room_for m (table_of t) ≡ Full → Called (annotating start end m) t 8 t
        unfolding full
        refused_8 e =
            let f = room_says m (table_of t) e in
            refused s 7
            (number_8 (annotating start end m) (view t) allowed some inside not_long is_good (clear (no_clash m (table_of t) f.0))
            (rw (table, f.0, f.1)))

        -- ---- a mark that the table has
        module _ (i : ℕ) (e : room_for m (table_of t) ≡ Known i) where
          known : (member (id_of m) (table_of t) ≡ true) × (clash m (table_of t) ≡ false) × (i ≡ place_of (id_of m) (table_of t))
          known = room_says m (table_of t) e

          place_there : i < t.marks
          place_there =
              omega (arith, known.2, place_in (table_of t) (id_of m) s.formed.laid.sorted known.0, table_length s.formed.laid)

          pub can_lay : CanLay t start end i
          can_lay = record { range = record { laid = s.formed.laid; room = s.within; up = omega arith; fits = fits }; there = place_there; some = up }

          mark_is : get_or (table_of t) i blank ≡ m
          mark_is = ap (λ k. get_or (table_of t) k blank) known.2 ∙ known_is m (table_of t) s.formed.laid.sorted known.0 known.1

          not_full : full (annotating start end m) (view t) ≡ false
          unfolding full
          not_full = rw (table, known.0)

          pub known_done : {r : Tank} → Stepped (after_annotate start end (get_or (table_of t) i blank) (view t)) (table_of t) (bit_or (gather (runs_of t)) (2 ^ i)) r
              → Called (annotating start end m) t 0 r
          unfolding after after_annotate
          known_done {r} d =
              let l = table_length s.formed.laid in
              made (number_0 (annotating start end m) (view t) allowed some inside not_long is_good (clear known.1) not_full)
              (formed_of d refl
              (ap (λ x. bit_or x (2 ^ i)) s.formed.whole ∙ with_all t.marks i place_there ∙ ap (λ n. 2 ^ n - 1) (sym l)))
              (d.is ∙ ap (λ x. after_annotate start end x (view t)) mark_is)

        -- ---- a mark that is new to it
        module _ (i : ℕ) (e : room_for m (table_of t) ≡ New i) where
          new : (member (id_of m) (table_of t) ≡ false) × (crowded m (table_of t) ≡ false) × (i ≡ place_of (id_of m) (table_of t))
          new = room_says m (table_of t) e

          pub can_admit : CanAdmit t i m
          can_admit =
              record {
                laid = s.formed.laid;
                few = omega (arith, room_left m (table_of t) new.0 new.1, table_length s.formed.laid);
                new = new.0;
                place = new.2;
                number = number;
                room = new.1;
              }

          not_full_new : full (annotating start end m) (view t) ≡ false
          unfolding full
          not_full_new = rw (table, new.0, new.1)

          fits_put : i ≤ length (table_of t)
          fits_put = omega (arith, place_fits i m can_admit, table_length s.formed.laid)

          module _ {u : Tank} (a : Stepped (view t) (insert_at i m (table_of t)) (open_bit i (gather (runs_of t))) u) where
            marks_put : u.marks ≡ suc t.marks
            marks_put =
                sym (table_length a.laid) ∙ ap length a.table_is ∙ length_put i m (table_of t) fits_put ∙ ap suc (table_length s.formed.laid)

            pub can_lay_new : CanLay u start end i
            unfolding view
            can_lay_new =
                let q = ap (λ (v : View). v.length) a.is in
                let k = s.within in
                record {
                  range =
                      record {
                        laid = a.laid;
                        room = omega (arith, sym (runs_held_lem a.laid), ap runs_held a.is, runs_held_lem s.formed.laid);
                        up = omega arith;
                        fits = omega arith;
                      };
                  some = up;
                  there = omega (arith, marks_put, fits_put, table_length s.formed.laid);
                }

            mark_put : get_or (table_of u) i blank ≡ m
            mark_put = ap (λ ms. get_or ms i blank) a.table_is ∙ put_at i m (table_of t) fits_put

            pub new_done : {r : Tank} → Stepped (after_annotate start end (get_or (table_of u) i blank) (view u)) (table_of u) (bit_or (gather (runs_of u)) (2 ^ i)) r
                → Called (annotating start end m) t 0 r
            unfolding after after_annotate with_bit
            new_done {r} d =
                let l = table_length s.formed.laid in
                made
                (number_0 (annotating start end m) (view t) allowed some inside not_long is_good (clear (no_clash m (table_of t) new.0)) not_full_new)
                (formed_of d refl
                (ap (λ x. bit_or x (2 ^ i)) (a.all_is ∙ ap (open_bit i) s.formed.whole)
                ∙ open_all i t.marks (omega (arith, fits_put)) ∙ ap (λ n. 2 ^ n - 1) (sym marks_put ∙ sym (table_length a.laid))))
                (d.is ∙ (λ j. after_annotate start end (mark_put j) (a.is j)))
