-- The edits on lent arrays: what is left is what the edit of the tank leaves that the arrays stand for.
use Prim.Native.Nat.{ℕ, ◌<◌, ◌^◌}
use mathlib.Core.Path.{◌≡◌, refl, sym, ap, ◌∙◌, subst}
use mathlib.Core.Bool.{Bool, true}
use mathlib.Core.List.{List, []}
use lib.Count.{ones}
use lib.ListN.{length}
use lib.Pow.{pow_pos}
use Rattle.styles.specs.declared.Mark.{Mark}
use Rattle.styles.specs.declared.Party.{Party}
use Rattle.styles.specs.Answers.{styles_of}
use Rattle.styles.specs.Bits.{pick, Squeezed}
use Rattle.styles.proofs.CountLaws.{pick_length}
use Rattle.styles.proofs.UnionLaws.{pick_none}
use Rattle.runs.specs.Gather.{gather, Renumbered}
use Rattle.tank.specs.declared.Tank.{Tank}
use Rattle.tank.specs.declared.lent.Outline.{Outline}
use Rattle.tank.specs.declared.lent.Tabled.TheVariants.{Same, Carried}
use Rattle.tank.specs.Rules.{Edit, inserting, inserted_set}
use Rattle.tank.specs.State.{runs_of, table_of, view, Laid, Called}
use Rattle.tank.specs.Steps.{Trimmed}
use Rattle.tank.specs.Lending.{Leaving, tank_on, Fitting, tank_made, kept_as, Leaves, TrimsTo}
use Rattle.tank.proofs.InsertLaws.{Inserted, Gives, Kept}
use Rattle.tank.proofs.TrimLaws.{trim_none, trim_done}
use Rattle.tank.proofs.Unique.{inside_table}

-- no bits, no marks
none_shown : (ms : List Mark) → styles_of (pick ms 0) ≡ styles_of []
none_shown ms = ap styles_of (pick_none ms)

-- ---- nothing has changed
module _ {e : Edit} {h : Outline} {lens sets olens osets : List ℕ} {table : List Mark} {marks : List Mark} {n first : ℕ} {r : Leaving} where
  pub kept_leaves : r ≡ kept_as n first h → Called e (tank_on h lens sets table) n (tank_on h lens sets table) → styles_of [] ≡ styles_of marks
      → {f : ℕ} → first ≡ f → Leaves e (tank_on h lens sets table) olens osets marks f r
  kept_leaves q c s {f} g =
      subst (Leaves e (tank_on h lens sets table) olens osets marks f) (sym q)
      (record {
        called = c;
        runs_are_lem = refl;
        table_fits = tt;
        shown_fits = pow_pos h.marks;
        styles_are = none_shown (table_of (tank_on h lens sets table)) ∙ s;
        first_is = g;
      })

-- ---- something has
module _ {e : Edit} {t : Tank} {olens osets : List ℕ} {r : Leaving} where
  pub made_leaves : {marks : List Mark} {first : ℕ} → r.number ≡ 0 → r.changed ≡ true → Called e t 0 (tank_made t olens osets r)
      → Fitting t.marks r.table → r.shown < 2 ^ t.marks → styles_of (pick (table_of t) r.shown) ≡ styles_of marks → r.first ≡ first
      → Leaves e t olens osets marks first r
  made_leaves n c called fits small s f =
      record { called = rw (n, c) called; runs_are_lem = rw c refl; table_fits = fits; shown_fits = small; styles_are = s; first_is = f }

  -- and no set is answered
  pub plain_leaves : {first : ℕ} → r.number ≡ 0 → r.changed ≡ true → Called e t 0 (tank_made t olens osets r) → Fitting t.marks r.table → r.shown ≡ 0 → r.first ≡ first
      → Leaves e t olens osets [] first r
  plain_leaves n c called fits z f =
      made_leaves n c called fits (rw z (pow_pos t.marks)) (ap (λ (s : ℕ). styles_of (pick (table_of t) s)) z ∙ none_shown (table_of t)) f

-- ---- sets trimmed where they stand
module _ (h : Outline) (first : ℕ) (lens sets : List ℕ) (table : List Mark) (f : Laid (tank_on h lens sets table)) (e : h.touched ≡ true)
    (carried held : ℕ) (g : carried ≡ gather (runs_of (tank_on h lens sets table))) (count : held ≡ ones carried) where
  -- every mark is carried
  pub trims_none : held ≡ h.marks → TrimsTo (tank_on h lens sets table) first sets (record { number = 0; changed = true; first = first; shown = 0; length = h.length; runs = h.runs; marks = h.marks; table = Same })
  trims_none q =
      record {
        trimmed = subst (λ (b : Bool). Trimmed (tank_on h lens sets table) (record { touched = b; length = h.length; runs = h.runs; marks = h.marks; lens = lens; sets = sets; table = table })) e (trim_none f e carried g (sym count ∙ q));
        number_is = refl;
        changed_is = refl;
        table_fits = tt;
        shown_is = refl;
        first_is = refl;
      }

  -- some are not
  pub trims_some : (after : List ℕ) → Renumbered (Squeezed carried) h.runs sets after
      → TrimsTo (tank_on h lens sets table) first after (record { number = 0; changed = true; first = first; shown = 0; length = h.length; runs = h.runs; marks = held; table = Carried carried })
  trims_some after squeezed =
      let t : Tank = tank_on h lens sets table in
      let small : gather (runs_of t) < 2 ^ length (table_of t) = inside_table f in
      let n : length (pick (table_of t) carried) ≡ held = pick_length (table_of t) carried (rw g small) ∙ sym count in
      record {
        trimmed =
            subst (λ (k : ℕ). Trimmed t (record { touched = true; length = h.length; runs = h.runs; marks = k; lens = lens; sets = after; table = (styles_of (pick (table_of t) carried)).marks })) n
            (trim_done f e carried g after squeezed (styles_of (pick (table_of t) carried)) refl);
        number_is = refl;
        changed_is = refl;
        table_fits = rw g f.inside;
        shown_is = refl;
        first_is = refl;
      }

-- ---- an insertion that leaves the tank as it was
pub insert_kept : {t : Tank} {who : Party} {pos len : ℕ} (n : ℕ) → ((r : Inserted) → Kept t n r → Gives t who pos len r)
    → (Called (inserting who pos len) t n t) × (styles_of [] ≡ styles_of (inserted_set who pos len (view t)))
insert_kept {t} n f = f (record { number = n; styles = styles_of []; tank = t }) (refl, refl, refl)
