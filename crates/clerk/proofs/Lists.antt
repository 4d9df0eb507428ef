-- What lists say: a buffer of 1,536 numbers is as good as any, and anchors go out one by one.
use mathlib.Core.Path.{◌≡◌, refl, sym, ap, ap₂, ◌∙◌}
use mathlib.Core.Bool.{Bool, true, false, cond}
use mathlib.Core.List.{List, [], ◌∷◌, ◌++◌, append_assoc, append-nil, flat_map}
use Prim.Native.Nat.{ℕ, ◌-◌, ◌≤◌, ◌<◌, ◌^◌, min}
use native.Mathlib.Decide.{dec_lt}
use native.Mathlib.Omega.{arith}
use lib.Count.{count_trailing_zeros}
use lib.Dec.{eqb, ltb}
use lib.ListN.{length, get_or, take, length-take}
use borrow.Author.Tests.{lt-ltb, le-ltb, le-leb, lt-leb}
use Rattle.styles.specs.declared.Mark.{Mark}
use Rattle.styles.specs.declared.Party.{Party}
use Rattle.styles.specs.Bits.{pick, lacking_bits, without_bit}
use Rattle.styles.specs.Marks.{blank}
use Rattle.styles.proofs.UnionLaws.{pick_none}
use Rattle.richtext.specs.declared.AnchorType.{AnchorType}
use Rattle.richtext.specs.declared.AnchorType.TheVariants.{Start, End}
use Rattle.runs.specs.Stretches.{in_front}
use Rattle.lists.specs.declared.Listed.{Listed}
use Rattle.lists.specs.declared.anchors.Anchor.{Anchor}
use Rattle.lists.specs.Lists.{range_list, whole_list, range_refusal, list_refusal, range_number, whole_number, unless_refused, filled_beside}
use Rattle.lists.specs.Anchors.{anchor_of, anchors_of, anchors, anchors_needed, anchors_number, between}
use Rattle.lists.proofs.CursorLaws.{first_taken}
use Rattle.lists.proofs.ListLaws.{empty_list, handed_part, handed_count}
use Rattle.runs.proofs.SumLaws.{sum_next}
use Rattle.tank.specs.Rules.{View, runs_held}
use Rattle.tank.specs.State.{view}
use Rattle.tank.proofs.Calls.{asked_over}
use Rattle.tank.proofs.NarrowLaws.{shown_fewer}
use Rattle.tank.proofs.Unique.{runs_held_lem}
use Rattle.tanks.specs.declared.Head.{Head}
use Rattle.tanks.specs.declared.Run.{Run}
use Rattle.tanks.specs.declared.Table.{Table}
use Rattle.tanks.specs.House.{no_tank}
use Rattle.tanks.specs.Looks.{Stands, shown_in}
use Rattle.tanks.specs.Pool.{runs_in, tank_in}
use Rattle.ask.specs.Asks.{no_list}
use Rattle.ask.specs.Parts.{ask_in}
use Rattle.ask.proofs.Most.{list_few}
use Rattle.ask.proofs.Standing.{ListedIn}
use Rattle.answers.specs.Waiting.{Pieces, Adds}
use Rattle.answers.specs.Replies.{refused_says, or_refused, list_says, anchor_says, anchors_say}
use Rattle.answers.proofs.Laws.{adds_as, and_then}
use Rattle.clerk.specs.Calls.{all_anchors_say}

-- ---- room
-- more places than the list takes make no difference
pub least_room : (most lower room n : ℕ) → n ≤ most → list_refusal lower (min room most) n ≡ list_refusal lower room n
unfolding list_refusal
least_room most lower room n h =
    elim (dec_lt room n) [
      | yes k ↦ ap (λ (b : Bool). cond (eqb lower 0) (cond b 11 0) lower) (lt-ltb (min room most) n (omega arith) ∙ sym (lt-ltb room n k))
      | no k ↦ ap (λ (b : Bool). cond (eqb lower 0) (cond b 11 0) lower) (le-ltb (min room most) n (omega arith) ∙ sym (le-ltb room n (omega arith)))
    ]

-- a tank that stands in a pool of 512 runs has no list of more than 1,536 numbers
module _ {hs : List Head} {pool : List Run} {table : Table} {t : ℕ} (ok : Stands hs pool table t) (who : Party) where
  shown_few : runs_held (shown_in hs pool table t who) ≤ 512
  unfolding tank_in
  shown_few = omega (arith, shown_fewer who (view (tank_in hs pool table t)), runs_held_lem ok.formed.laid, sum_next (runs_in hs) t 8 ok.inside, ok.room)

  -- `lent` places are lent where a call names `room`
  module _ (room lent : ℕ) (least : lent ≡ min room 1536) where
    -- a range past the end is refused by 4 before any room is asked for
    pub range_room : (a b : ℕ) → range_number a b lent (shown_in hs pool table t who) ≡ range_number a b room (shown_in hs pool table t who)
    unfolding range_refusal list_refusal
    range_room a b =
        let v = shown_in hs pool table t who in
        ap (λ (n : ℕ). range_number a b n v) least
        ∙ elim (dec_lt v.length b) [
          | yes k ↦
              elim (dec_lt a b) [
                | yes l ↦ rw (asked_over a b 0 v l k)
                | no l ↦ least_room 1536 (range_refusal a b v) room (length (range_list a b v)) (omega (arith, ap length (empty_list a b v (omega arith))))
              ]
          | no k ↦ least_room 1536 (range_refusal a b v) room (length (range_list a b v)) (omega (arith, list_few 0 a b v (omega arith), shown_few))
        ]

    pub whole_room : whole_number lent (shown_in hs pool table t who) ≡ whole_number room (shown_in hs pool table t who)
    whole_room =
        let v = shown_in hs pool table t who in
        ap (λ (n : ℕ). whole_number n v) least ∙ least_room 1536 0 room (length (whole_list v)) (omega (arith, list_few 1 0 v.length v (omega arith), shown_few))

-- ---- what a list of stretches says
said_by_lem : (b : Bool) (n t : ℕ) (ys out last : List ℕ) (l : Listed) → l ≡ cond b no_list (filled_beside n ys) → last ≡ cond b out (in_front (unless_refused n ys) out)
    → or_refused l.number (list_says t (take l.count last)) ≡ cond b (refused_says 1) (or_refused n (list_says t ys))
said_by_lem true n t ys out last l e g = ap (λ (x : Listed). or_refused x.number (list_says t (take l.count last))) e
said_by_lem false n t ys out last l e g =
    ap₂ (λ (x : Listed) (zs : List ℕ). or_refused x.number (list_says t zs)) e (handed_part n ys out l last (e, g)) ∙ only_given (eqb n 0)
  where
    only_given : (z : Bool) → cond z (list_says t (cond z ys [])) (refused_says n) ≡ cond z (list_says t ys) (refused_says n)
    only_given true = refl
    only_given false = refl

inside_by : (b : Bool) (n : ℕ) (ys out last : List ℕ) (l : Listed) → l ≡ cond b no_list (filled_beside n ys) → last ≡ cond b out (in_front (unless_refused n ys) out) → l.count ≤ length last
inside_by true n ys out last l e g = omega (arith, ap (λ (x : Listed). x.count) e)
inside_by false n ys out last l e g = omega (arith, handed_count n ys out l last (e, g), length-take l.count last)

-- `near` judges by the room that is lent, `far` by the room that the call names
module _ (hs : List Head) (pool : List Run) (table : Table) (t : ℕ) (who : Party) (near far : View → ℕ) (xs : View → List ℕ)
    (same : t < 8 → near (shown_in hs pool table t who) ≡ far (shown_in hs pool table t who)) (out : List ℕ) (l : Listed) (last : List ℕ) (said : ListedIn hs pool table t who near xs out l last) where
  far_says : ask_in hs pool table t who (refused_says 1) (λ v. or_refused (near v) (list_says t (xs v))) ≡ ask_in hs pool table t who (refused_says 1) (λ v. or_refused (far v) (list_says t (xs v)))
  far_says =
      elim (dec_lt t 8) [
        | yes k ↦ ap (λ (n : ℕ). cond (no_tank t) (refused_says 1) (or_refused n (list_says t (xs (shown_in hs pool table t who))))) (same k)
        | no k ↦ rw (le-leb 8 t (omega arith))
      ]

  pub list_said : or_refused l.number (list_says t (take l.count last)) ≡ ask_in hs pool table t who (refused_says 1) (λ v. or_refused (far v) (list_says t (xs v)))
  list_said = said_by_lem (no_tank t) (near (shown_in hs pool table t who)) t (xs (shown_in hs pool table t who)) out last l said.0 said.1 ∙ far_says

  -- the list is within what was lent
  pub list_inside : l.count ≤ length last
  list_inside = inside_by (no_tank t) (near (shown_in hs pool table t who)) (xs (shown_in hs pool table t who)) out last l said.0 said.1

-- ---- anchors
pub anchors_append : (xs ys : List Anchor) → anchors_say (xs ++ ys) ≡ anchors_say xs ++ anchors_say ys
unfolding flat_map
anchors_append [] ys = refl
anchors_append (a ∷ xs) ys =
    ap (λ (said : Pieces). anchor_says a ++ said) (anchors_append xs ys) ∙ sym (append_assoc (anchor_says a) (anchors_say xs) (anchors_say ys))

-- one side of a boundary: the lowest bit's anchor, and those of the bits that are left
pub side_more : (ms : List Mark) (pos : ℕ) (side : AnchorType) (s i u : ℕ) → length ms ≡ 64 → s < 2 ^ 64 → 0 < s → i ≡ count_trailing_zeros 64 s → u ≡ without_bit i s
    → anchors_say (anchors_of pos side (pick ms s)) ≡ anchor_says (anchor_of pos side (get_or ms i blank)) ++ anchors_say (anchors_of pos side (pick ms u))
unfolding flat_map anchors_of
side_more ms pos side s i u long small some e g = rw g (ap (λ (xs : List Mark). anchors_say (anchors_of pos side xs)) (first_taken ms s i long small some e))

-- none is left
pub side_none : (ms : List Mark) (pos : ℕ) (side : AnchorType) (s : ℕ) → s ≡ 0 → anchors_say (anchors_of pos side (pick ms s)) ≡ []
unfolding flat_map anchors_of
side_none ms pos side s e = rw (e, pick_none ms)

-- a boundary: both sides, or one where the other has none
module _ (ms : List Mark) (pos x y : ℕ) {p e s : ℕ} (place : p ≡ pos - 1) (ends : e ≡ lacking_bits x y) (starts : s ≡ lacking_bits y x) where
  pub both_sides : anchors_say (anchors_of p End (pick ms e)) ++ anchors_say (anchors_of pos Start (pick ms s)) ≡ anchors_say (between ms pos x y)
  both_sides =
      sym (anchors_append (anchors_of p End (pick ms e)) (anchors_of pos Start (pick ms s)))
      ∙ (λ i. anchors_say (anchors_of (place i) End (pick ms (ends i)) ++ anchors_of pos Start (pick ms (starts i))))

  pub starts_alone : e ≡ 0 → anchors_say (anchors_of pos Start (pick ms s)) ≡ anchors_say (between ms pos x y)
  starts_alone z = ap (λ (said : Pieces). said ++ anchors_say (anchors_of pos Start (pick ms s))) (sym (side_none ms p End e z)) ∙ both_sides

  pub ends_alone : s ≡ 0 → anchors_say (anchors_of p End (pick ms e)) ≡ anchors_say (between ms pos x y)
  ends_alone z =
      sym (append-nil (anchors_say (anchors_of p End (pick ms e))))
      ∙ ap (λ (said : Pieces). anchors_say (anchors_of p End (pick ms e)) ++ said) (sym (side_none ms pos Start s z))
      ∙ both_sides

-- none
pub anchors_none : (xs : List Anchor) → [] ≡ xs → [] ≡ anchors_say xs
unfolding flat_map
anchors_none xs e = ap anchors_say e

-- anchors, and those behind them
pub anchors_then : {d e o : List ℕ} {at k r : ℕ} (xs ys : List Anchor) {zs : List Anchor} → xs ++ ys ≡ zs → Adds d at (anchors_say xs) k e → Adds e k (anchors_say ys) r o
    → Adds d at (anchors_say zs) r o
anchors_then xs ys e a b = adds_as (sym (anchors_append xs ys) ∙ ap anchors_say e) (and_then a b)

module _ (hs : List Head) (pool : List Run) (table : Table) (who : Party) (t : ℕ) where
  -- no such tank
  pub anchors_1 : (room : ℕ) → 8 ≤ t → refused_says 1 ≡ ask_in hs pool table t who (refused_says 1) (λ v. or_refused (anchors_number room v) (all_anchors_say v))
  anchors_1 room k = rw (le-leb 8 t k)

  -- too little room, or all of them
  module _ (l : Listed) (k : t < 8) (said : l ≡ ask_in hs pool table t who no_list anchors_needed) where
    pub counted : l.count ≡ length (anchors (shown_in hs pool table t who))
    counted = ap (λ (x : Listed). x.count) (said ∙ ap (λ (b : Bool). cond b no_list (anchors_needed (shown_in hs pool table t who))) (lt-leb 8 t k))

    pub anchors_by : (room : ℕ) (b : Bool) → ltb room l.count ≡ b
        → or_refused (cond b 11 0) (all_anchors_say (shown_in hs pool table t who)) ≡ ask_in hs pool table t who (refused_says 1) (λ v. or_refused (anchors_number room v) (all_anchors_say v))
    unfolding list_refusal
    anchors_by room b e =
        sym
        (ap₂ (λ (none little : Bool). cond none (refused_says 1) (or_refused (cond little 11 0) (all_anchors_say (shown_in hs pool table t who)))) (lt-leb 8 t k) (ap (ltb room) (sym counted) ∙ e))
