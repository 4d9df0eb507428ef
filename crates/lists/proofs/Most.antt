-- How long a list can be. Anchors: at a boundary of two runs a mark ends, or starts, or neither, so that a table of 64 marks gives 64 at most. Stretches: three numbers for each run.
use Prim.Native.Nat.{ℕ, zero, suc, ◌+◌, ◌-◌, ◌*◌, ◌/◌, ◌%◌, ◌≤◌, ◌<◌, min}
use mathlib.Core.Path.{◌≡◌, refl, ap, ◌∙◌}
use mathlib.Core.List.{List, [], ◌∷◌}
use native.Mathlib.Omega.{arith}
use lib.ListN.{length, get_or, length-append}
use Rattle.styles.specs.declared.Mark.{Mark}
use Rattle.styles.specs.Bits.{pick, lacking_bits}
use Rattle.styles.proofs.CountLaws.{length_keep}
use Rattle.styles.proofs.PickLaws.{pick_cons}
use Rattle.runs.proofs.ListLaws.{clipped_most}
use Rattle.runs.proofs.PositionLaws.{listed_is}
use Rattle.tank.specs.declared.Tank.{Tank}
use Rattle.tank.specs.State.{table_of, view, Laid}
use Rattle.tank.proofs.Unique.{table_length}
use Rattle.lists.specs.declared.anchors.AnchorCursor.{AnchorCursor}
use Rattle.lists.specs.Lists.{list_over}
use Rattle.lists.specs.Anchors.{anchors, left_at, later_than, Stands, Follows}
use Rattle.lists.proofs.ListLaws.{list_is}
use Rattle.lists.proofs.AnchorLaws.{lack_step}
use Rattle.lists.proofs.CursorLaws.{first_is, follows, none_later, left_length}

-- ---- a boundary
lack_length : (m : Mark) (ms : List Mark) (s u : ℕ)
    → length (pick (m ∷ ms) (lacking_bits s u)) ≡ (s % 2 - min (s % 2) (u % 2)) + length (pick ms (lacking_bits (s / 2) (u / 2)))
lack_length m ms s u =
    let b : ℕ = s % 2 - min (s % 2) (u % 2) in
    let halves = lacking_bits (s / 2) (u / 2) in
    ap (λ x. length (pick (m ∷ ms) x)) (lack_step s u) ∙ ap length (pick_cons m ms halves b (omega arith)) ∙ length_keep b m (pick ms halves) (omega arith)

one_side : (x y : ℕ) → x < 2 → y < 2 → (x - min x y) + (y - min y x) ≤ 1
one_side x y h k = omega arith

-- a mark that one set has and the other lacks is not the other way about
both_lack : (ms : List Mark) (s u : ℕ) → length (pick ms (lacking_bits s u)) + length (pick ms (lacking_bits u s)) ≤ length ms
unfolding pick
both_lack [] s u = omega arith
both_lack (m ∷ ms) s u =
    omega (arith, lack_length m ms s u, lack_length m ms u s, one_side (s % 2) (u % 2) (omega arith) (omega arith), both_lack ms (s / 2) (u / 2))

left_most : {t : Tank} → Laid t → (c : AnchorCursor) (s u : ℕ) → c.ends ≡ lacking_bits s u → c.starts ≡ lacking_bits u s → length (left_at t c) ≤ 64
left_most {t} f c s u e g =
    let few = f.few in
    omega (
      arith,
      left_length t c,
      ap (λ x. length (pick (table_of t) x)) e,
      ap (λ x. length (pick (table_of t) x)) g,
      both_lack (table_of t) s u,
      table_length f,
    )

-- ---- all boundaries, run by run
later_most : {t : Tank} → Laid t → (n : ℕ) (c : AnchorCursor) → Stands t c → c.index + n ≡ t.runs → length (later_than t c) ≤ 64 * n
later_most f zero c s e = omega (arith, ap length (none_later f c s (omega arith)))
later_most {t} f (suc n) c s e =
    let x = get_or t.sets c.index 0 in
    let y = get_or t.sets (c.index + 1) 0 in
    let d : AnchorCursor = record { index = c.index + 1; at = c.at + get_or t.lens c.index 0; ends = lacking_bits x y; starts = lacking_bits y x } in
    let g : Follows t c d = follows f c s (omega arith) d refl in
    omega (
      arith,
      ap length g.later,
      length-append (left_at t d) (later_than t d),
      left_most f d x y refl refl,
      later_most f n d g.stands (omega arith),
    )

pub anchors_most : {t : Tank} → Laid t → length (anchors (view t)) ≤ 64 * (t.runs + 1)
anchors_most {t} f =
    let x = get_or t.sets 0 0 in
    let c : AnchorCursor = record { index = 0; at = 0; ends = lacking_bits 0 x; starts = lacking_bits x 0 } in
    let i = first_is f c refl in
    omega (arith, ap length i.1, length-append (left_at t c) (later_than t c), left_most f c 0 x refl refl, later_most f t.runs c i.0 (omega arith))

-- ---- stretches
module _ {t : Tank} (f : Laid t) where
  pub list_most : (least a b : ℕ) → b ≤ t.length → length (list_over least a b (view t)) ≤ 3 * t.runs
  list_most least a b h =
      omega (
        arith,
        ap length (list_is f least a b),
        ap length (listed_is least a b t.lens t.sets t.runs f.canon (omega (arith, f.sum))),
        clipped_most least a b t.lens t.sets t.runs,
      )
