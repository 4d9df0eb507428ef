-- `room_for` meets its contract: where the identity has its place, the one mark to clash with stands there.
use Prim.Native.Nat.{ℕ, ◌<◌}
use mathlib.Core.Path.{◌≡◌, sym, ap, ◌∙◌}
use mathlib.Core.Bool.{true, false}
use mathlib.Core.List.{List}
use native.Mathlib.Omega.{arith}
use lib.ListN.{take, length-take}
use lib.Seq.{get_or-take}
use Rattle.std.specs.Prelude.{Ok, Err}
use Rattle.styles.specs.declared.Identity.{Identity}
use Rattle.styles.specs.declared.Mark.{Mark}
use Rattle.styles.specs.Order.{id_of}
use Rattle.styles.specs.Marks.{Sorted, member, place_of, same_content, blank}
use Rattle.styles.specs.Answers.{placed}
use Rattle.styles.proofs.TableLaws.{placed_there, placed_not}
use Rattle.tank.proofs.CrowdLaws.{few_fit}
use Rattle.tank.proofs.RoomLaws.{place_in, known_room, clash_room, full_room, new_room}
use Rattle.tank.proofs.room_for.Goals as goal

module _ {id : Identity} (m : Mark) (n : ℕ) (table : List Mark) (at : ℕ) (e : id ≡ id_of m) where
  -- where the mark's identity stands
  stands_there : Ok at ≡ placed id (take n table) → (at ≡ place_of (id_of m) (take n table)) × (member (id_of m) (take n table) ≡ true)
  stands_there q = rw e at (placed_there id (take n table) at q)

  -- or else would
  stands_not : Err at ≡ placed id (take n table) → (at ≡ place_of (id_of m) (take n table)) × (member (id_of m) (take n table) ≡ false)
  stands_not q = rw e at (placed_not id (take n table) at q)

  -- a place where one stands is in the table
  in_table : Sorted (take n table) → Ok at ≡ placed id (take n table) → at < n
  in_table sorted q =
      let p = stands_there q in
      omega (arith, p.0, place_in (take n table) (id_of m) sorted p.1, length-take n table)

pub offset_bounds-table-at : goal.offset_bounds-table-at
offset_bounds-table-at c =
    let few = c.requires.0 in
    omega (arith, in_table c.args.mark c.args.n c.args.table c.in-Ok.at c.id_of.ensures c.requires.1 c.in-Ok.ensures)

pub bounds-table-at : goal.bounds-table-at
bounds-table-at c =
    let few = c.requires.0 in
    omega (arith, in_table c.args.mark c.args.n c.args.table c.in-Ok.at c.id_of.ensures c.requires.1 c.in-Ok.ensures)

pub returns-then-same_content : goal.returns-then-same_content
returns-then-same_content c =
    let ms = take c.args.n c.args.table in
    let inside = in_table c.args.mark c.args.n c.args.table c.in-Ok.at c.id_of.ensures c.requires.1 c.in-Ok.ensures in
    let (at, there) = stands_there c.args.mark c.args.n c.args.table c.in-Ok.at c.id_of.ensures c.in-Ok.ensures in
    known_room c.args.mark ms c.requires.1 _ at there
    (ap (same_content c.args.mark) (get_or-take c.args.n c.args.table _ blank inside) ∙ sym c.same_content.ensures ∙ c.if-same_content.true)

pub returns-else-same_content : goal.returns-else-same_content
returns-else-same_content c =
    let ms = take c.args.n c.args.table in
    let inside = in_table c.args.mark c.args.n c.args.table c.in-Ok.at c.id_of.ensures c.requires.1 c.in-Ok.ensures in
    let (at, there) = stands_there c.args.mark c.args.n c.args.table c.in-Ok.at c.id_of.ensures c.in-Ok.ensures in
    clash_room c.args.mark ms c.requires.1 _ at there
    (ap (same_content c.args.mark) (get_or-take c.args.n c.args.table _ blank inside) ∙ sym c.same_content.ensures ∙ c.if-same_content.false)

pub returns-then-n-lt32 : goal.returns-then-n-lt32
returns-then-n-lt32 c =
    let ms = take c.args.n c.args.table in
    let (at, new) = stands_not c.args.mark c.args.n c.args.table c.in-Err.at c.id_of.ensures c.in-Err.ensures in
    new_room c.args.mark ms c.requires.1 _ at new (few_fit c.args.mark ms new (omega (arith, length-take c.args.n c.args.table, c.if-n-lt32.true)))

pub crowded-requires : goal.crowded-requires
crowded-requires c =
    let (at, new) = stands_not c.args.mark c.args.n c.args.table c.in-Err.at c.id_of.ensures c.in-Err.ensures in
    (c.requires.0, c.requires.1, new)

pub returns-then-crowded : goal.returns-then-crowded
returns-then-crowded c =
    let ms = take c.args.n c.args.table in
    let (at, new) = stands_not c.args.mark c.args.n c.args.table c.in-Err.at c.id_of.ensures c.in-Err.ensures in
    full_room c.args.mark ms c.requires.1 _ at new (sym c.crowded.ensures ∙ c.if-crowded.true)

pub returns-else-crowded : goal.returns-else-crowded
returns-else-crowded c =
    let ms = take c.args.n c.args.table in
    let (at, new) = stands_not c.args.mark c.args.n c.args.table c.in-Err.at c.id_of.ensures c.in-Err.ensures in
    new_room c.args.mark ms c.requires.1 _ at new (sym c.crowded.ensures ∙ c.if-crowded.false)
