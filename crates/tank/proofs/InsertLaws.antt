-- An insertion by its cases.
use Prim.Native.Nat.{ℕ, suc, ◌+◌, ◌-◌, ◌≤◌, ◌<◌, ◌^◌}
use mathlib.Core.Path.{◌≡◌, refl, sym, ap, ◌∙◌}
use mathlib.Core.Bool.{true, false}
use mathlib.Core.List.{[]}
use native.Mathlib.Omega.{arith}
use borrow.Author.Tests.{lt-ltb, le-ltb, eq-eqb, ne_eqb}
use Rattle.styles.specs.declared.Party.{Party}
use Rattle.styles.specs.declared.Styles.{Styles}
use Rattle.styles.specs.Answers.{styles_of}
use Rattle.styles.specs.Bits.{pick}
use Rattle.styles.specs.Marks.{of_party}
use Rattle.runs.specs.Gather.{gather}
use Rattle.runs.specs.Scan.{common_at}
use Rattle.tank.specs.declared.Tank.{Tank}
use Rattle.tank.specs.Rules.{View, inserting, is_lab, shown_to, after, for_insert, after_insert, barred, empty, over, largest, long, own_number, clashes, full, refusal, when_accepted, inserted_set}
use Rattle.tank.specs.State.{runs_of, table_of, view, Sound, Called}
use Rattle.tank.specs.Steps.{Stepped, CanGrow}
use Rattle.tank.proofs.AnnotateLaws.{formed_of}
use Rattle.tank.proofs.Calls.{number_16, number_3, number_4, number_5, number_0, when_refused, refused, made}
use Rattle.tank.proofs.GrowLaws.{common_small, common_for_insert}
use Rattle.tank.proofs.PartyLaws.{answer_seen}
use Rattle.tank.proofs.Unique.{table_length}

-- an untouched tank stays as it is
insert_same : (pos len : ℕ) (v : View) → v.touched ≡ false → after_insert pos len v ≡ v
unfolding after_insert
insert_same pos len v e = rw e

-- and answers the empty set
answer_none : (pos : ℕ) (v : View) → v.touched ≡ false → for_insert pos v ≡ []
unfolding for_insert
answer_none pos v e = rw e

-- a touched one stays touched
insert_touched : (pos len : ℕ) (v : View) → v.touched ≡ true → (after_insert pos len v).touched ≡ true
unfolding after_insert
insert_touched pos len v e = rw e

-- what an insertion comes to: 0 or the refusal's number, the set that it answers, and the tank after it
pub record Inserted : Type 0 where
  pub number : ℕ
  pub styles : Styles
  pub tank : Tank

-- by the rules
abbrev pub Gives : Tank → Party → ℕ → ℕ → Inserted → Type 0
Gives t who pos len r = (Called (inserting who pos len) t r.number r.tank) × (r.styles ≡ styles_of (inserted_set who pos len (view t)))

-- the tank as it was, beside a number and the empty set
abbrev pub Kept : Tank → ℕ → Inserted → Type 0
Kept t n r = (r.number ≡ n) × (r.styles ≡ styles_of []) × (r.tank ≡ t)

module _ {t : Tank} (s : Sound t) (who : Party) (pos len : ℕ) where
  kept : {n : ℕ} {r : Inserted} → Kept t n r → Called (inserting who pos len) t n t → inserted_set who pos len (view t) ≡ [] → Gives t who pos len r
  kept {n} {r} g c e = (rw (g.0, g.2) c, g.1 ∙ ap styles_of (sym e))

  -- refused: the empty set
  refused_as : (n : ℕ) {r : Inserted} → refusal (inserting who pos len) (view t) ≡ suc n → Kept t (suc n) r → Gives t who pos len r
  refused_as n e g = kept g (refused s n e) (when_refused (refusal (inserting who pos len) (view t)) _ _ (omega arith))

  pub insert_16 : {r : Inserted} → is_lab who ≡ true → Kept t 16 r → Gives t who pos len r
  unfolding barred
  insert_16 h = refused_as 15 (number_16 (inserting who pos len) (view t) h)

module _ {t : Tank} (s : Sound t) (who : Party) (plant : is_lab who ≡ false) (pos len : ℕ) where
  allowed : barred (inserting who pos len) ≡ false
  unfolding barred
  allowed = plant

  pub insert_3 : {r : Inserted} → len ≡ 0 → Kept t 3 r → Gives t who pos len r
  unfolding empty
  insert_3 h = refused_as s who pos len 2 (number_3 (inserting who pos len) (view t) allowed (eq-eqb len 0 h))

  module _ (some : len ≡ 0 → ⊥) where
    not_empty : empty (inserting who pos len) ≡ false
    unfolding empty
    not_empty = ne_eqb len 0 some

    pub insert_4 : {r : Inserted} → t.length < pos → Kept t 4 r → Gives t who pos len r
    unfolding over view
    insert_4 h = refused_as s who pos len 3 (number_4 (inserting who pos len) (view t) allowed not_empty (lt-ltb t.length pos h))

    module _ (fits : pos ≤ t.length) where
      inside : over (inserting who pos len) (view t) ≡ false
      unfolding over view
      inside = le-ltb t.length pos fits

      accepted : long (inserting who pos len) (view t) ≡ false → refusal (inserting who pos len) (view t) ≡ 0
      unfolding own_number clashes full
      accepted l = number_0 (inserting who pos len) (view t) allowed not_empty inside l refl refl refl

      -- ---- an untouched tank stays as it is
      module _ (e : t.touched ≡ false) where
        never_long : long (inserting who pos len) (view t) ≡ false
        unfolding long view
        never_long = simp e

        pub insert_untouched : {r : Inserted} → Kept t 0 r → Gives t who pos len r
        unfolding after shown_to view
        insert_untouched g =
            let a = accepted never_long in
            kept s who pos len g (made a s.formed (sym (insert_same pos len (view t) e)))
            (ap (λ (n : ℕ). when_accepted n (for_insert pos (shown_to who (view t))) []) a ∙ answer_none pos (shown_to who (view t)) e)

      module _ (e : t.touched ≡ true) where
        pub insert_5 : {r : Inserted} → largest - t.length < len → Kept t 5 r → Gives t who pos len r
        unfolding long view
        insert_5 h =
            let q = lt-ltb largest (t.length + len) (omega arith) in
            refused_as s who pos len 4 (number_5 (inserting who pos len) (view t) allowed not_empty inside (simp (e, q)))

        module _ (room : len ≤ largest - t.length) where
          small : t.length + len ≤ largest
          small = let a = s.formed.laid.small in omega arith

          not_long : long (inserting who pos len) (view t) ≡ false
          unfolding long view
          not_long = let q = le-ltb largest (t.length + len) small in simp (e, q)

          module _ (set : ℕ) (q : set ≡ common_at (runs_of t) pos) where
            pub set_inside : set < 2 ^ t.marks
            set_inside = rw q (common_small s.formed.laid pos)

            pub can_grow : CanGrow t pos len set
            can_grow =
                let a = small in
                record { laid = s.formed.laid; touched = e; room = s.within; fits = fits; small = omega arith; common = q }

            set_is : of_party who (pick (table_of t) set) ≡ inserted_set who pos len (view t)
            set_is =
                let a = accepted not_long in
                ap (of_party who) (ap (pick (table_of t)) q ∙ common_for_insert s.formed.laid pos fits e)
                ∙ answer_seen who pos (view t)
                ∙ sym (simp a)

            still : (after_insert pos len (view t)).touched ≡ true
            unfolding view
            still = insert_touched pos len (view t) e

            pub insert_done : {styles : Styles} {u : Tank} → styles ≡ styles_of (of_party who (pick (table_of t) set))
                → Stepped (after_insert pos len (view t)) (table_of t) (gather (runs_of t)) u
                → Gives t who pos len (record { number = 0; styles = styles; tank = u })
            unfolding after
            insert_done g d = (
              made (accepted not_long) (formed_of d still (s.formed.whole ∙ ap (λ n. 2 ^ n - 1) (sym (table_length s.formed.laid)))) d.is,
              g ∙ ap styles_of set_is,
            )
