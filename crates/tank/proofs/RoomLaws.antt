-- How a mark stands to a sorted table, and what each case says.
use Prim.Native.Nat.{ℕ, suc, ◌<◌}
use mathlib.Core.Path.{◌≡◌, refl, sym, ap, ◌∙◌, subst}
use mathlib.Core.Bool.{Bool, true, false, cond, ◌||◌, not, true≢false}
use mathlib.Core.List.{List, [], ◌∷◌}
use native.Mathlib.Omega.{arith}
use native.Mathlib.Decide.{dec_lt}
use lib.ListN.{length, get_or}
use borrow.Author.Tests.{lt-ltb, le-ltb, not-false}
use Rattle.styles.specs.declared.Identity.{Identity}
use Rattle.styles.specs.declared.Mark.{Mark}
use Rattle.styles.specs.declared.Stand.{Stand}
use Rattle.styles.specs.declared.Stand.TheVariants.{Before, Same, After}
use Rattle.styles.specs.Order.{id_of, stands, same_id, is_before}
use Rattle.styles.specs.Marks.{Sorted, Above, member, place_of, same_content, blank}
use Rattle.styles.proofs.OrderLaws.{is_same_of, less_flip, more_flip, same_eq, same_self}
use Rattle.styles.proofs.PickLaws.{above_trans, not_member}
use Rattle.styles.proofs.StyleLaws.{mark_eq}
use Rattle.styles.proofs.TableLaws.{member_at}
use Rattle.styles.proofs.ValueLaws.{content_eq}
use Rattle.tank.specs.declared.Room.{Room}
use Rattle.tank.specs.declared.Room.TheVariants.{Known, New, Clash, Full}
use Rattle.tank.specs.Rules.{clash, crowded}
use Rattle.tank.specs.Steps.{room_for}

-- ---- a table that has not the identity has no clash with it
no_clash_step : (a b c d : Bool) → (a || b) ≡ false → (b ≡ false → c ≡ false) → cond a d c ≡ false
no_clash_step true b c d e h = absurd (true≢false e)
no_clash_step false b c d e h = h e

pub no_clash : (m : Mark) (ms : List Mark) → member (id_of m) ms ≡ false → clash m ms ≡ false
unfolding member clash
no_clash m [] e = refl
no_clash m (x ∷ xs) e = no_clash_step (same_id (id_of m) (id_of x)) (member (id_of m) xs) (clash m xs) (not (same_content m x)) e (no_clash m xs)

-- ---- an identity that the table has stands at its place
place_there : (ms : List Mark) (id : Identity) → Sorted ms → member id ms ≡ true → (place_of id ms < length ms) × (same_id id (id_of (get_or ms (place_of id ms) blank)) ≡ true)
place_there ms id sorted e =
    let q = sym (member_at id ms blank sorted) ∙ e in
    elim (dec_lt (place_of id ms) (length ms)) [
      | yes h ↦ (h, rw (lt-ltb (place_of id ms) (length ms) h) at q)
      | no h ↦ absurd (true≢false (sym (rw (le-ltb (place_of id ms) (length ms) (omega arith)) at q)))
    ]

pub place_in : (ms : List Mark) (id : Identity) → Sorted ms → member id ms ≡ true → place_of id ms < length ms
place_in ms id sorted e = (place_there ms id sorted e).0

pub place_id : (ms : List Mark) (id : Identity) → Sorted ms → member id ms ≡ true → id_of (get_or ms (place_of id ms) blank) ≡ id
place_id ms id sorted e = sym (same_eq id _ (is_same_of _ (place_there ms id sorted e).1))

-- there is the one mark to clash with
clash_step : (s : Stand) (m x : Mark) (c : Bool) (p : ℕ) (xs : List Mark) → stands (id_of x) (id_of m) ≡ s
    → (member (id_of m) xs ≡ true → c ≡ not (same_content m (get_or xs p blank))) → Sorted (x ∷ xs)
    → (same_id (id_of m) (id_of x) || member (id_of m) xs) ≡ true
    → cond (same_id (id_of m) (id_of x)) (not (same_content m x)) c ≡ not (same_content m (get_or (x ∷ xs) (cond (is_before s) (suc p) 0) blank))
unfolding Sorted Above
clash_step Before m x c p xs e ih h k =
    let g = less_flip (id_of x) (id_of m) e in
    rw g (ih (rw g at k))
clash_step Same m x c p xs e ih h k =
    let g : stands (id_of m) (id_of x) ≡ Same = rw (same_eq (id_of x) (id_of m) e) (same_self (id_of m)) in
    rw g
clash_step After m x c p xs e ih h k =
    let g = more_flip (id_of x) (id_of m) e in
    absurd (true≢false (sym (rw g at k) ∙ not_member (id_of m) xs (above_trans (id_of m) (id_of x) xs g h.0)))

pub clash_at : (m : Mark) (ms : List Mark) → Sorted ms → member (id_of m) ms ≡ true → clash m ms ≡ not (same_content m (get_or ms (place_of (id_of m) ms) blank))
unfolding Sorted member clash place_of
clash_at m [] h e = absurd (true≢false (sym e))
clash_at m (x ∷ xs) h e = clash_step (stands (id_of x) (id_of m)) m x (clash m xs) (place_of (id_of m) xs) xs refl (clash_at m xs h.1) h e

-- ---- the cases
abbrev pub RoomSays : Mark → List Mark → Room → Type 0
RoomSays m ms (Known i) = (member (id_of m) ms ≡ true) × (clash m ms ≡ false) × (i ≡ place_of (id_of m) ms)
RoomSays m ms (New i) = (member (id_of m) ms ≡ false) × (crowded m ms ≡ false) × (i ≡ place_of (id_of m) ms)
RoomSays m ms Clash = clash m ms ≡ true
RoomSays m ms Full = (member (id_of m) ms ≡ false) × (crowded m ms ≡ true)

pub room_says : (m : Mark) (ms : List Mark) {r : Room} → room_for m ms ≡ r → RoomSays m ms r
unfolding room_for
room_says m ms e = subst (RoomSays m ms) e (go (member (id_of m) ms) (clash m ms) (crowded m ms) refl refl refl)
  where
    go : (a b c : Bool) → member (id_of m) ms ≡ a → clash m ms ≡ b → crowded m ms ≡ c
        → RoomSays m ms (cond a (cond b Clash (Known (place_of (id_of m) ms))) (cond c Full (New (place_of (id_of m) ms))))
    go true true c x y z = y
    go true false c x y z = (x, y, refl)
    go false b true x y z = (x, z)
    go false b false x y z = (x, z, refl)

-- a mark that the table has with one content is the table's
pub known_is : (m : Mark) (ms : List Mark) → Sorted ms → member (id_of m) ms ≡ true → clash m ms ≡ false → get_or ms (place_of (id_of m) ms) blank ≡ m
known_is m ms sorted e c =
    let x = get_or ms (place_of (id_of m) ms) blank in
    let k = content_eq m x (not-false (same_content m x) (sym (clash_at m ms sorted e) ∙ c)) in
    sym (mark_eq m x (sym (place_id ms (id_of m) sorted e)) k.0 k.1 k.2)

-- ---- the answer in each case
module _ (m : Mark) (ms : List Mark) (sorted : Sorted ms) (at : ℕ) (at_is : at ≡ place_of (id_of m) ms) where
  pub known_room : member (id_of m) ms ≡ true → same_content m (get_or ms at blank) ≡ true → Known at ≡ room_for m ms
  unfolding room_for
  known_room e s =
      let c : clash m ms ≡ false = clash_at m ms sorted e ∙ ap (λ i. not (same_content m (get_or ms i blank))) (sym at_is) ∙ ap not s in
      rw (e, c) (ap Known at_is)

  pub clash_room : member (id_of m) ms ≡ true → same_content m (get_or ms at blank) ≡ false → Clash ≡ room_for m ms
  unfolding room_for
  clash_room e s =
      let c : clash m ms ≡ true = clash_at m ms sorted e ∙ ap (λ i. not (same_content m (get_or ms i blank))) (sym at_is) ∙ ap not s in
      rw (e, c)

  pub full_room : member (id_of m) ms ≡ false → crowded m ms ≡ true → Full ≡ room_for m ms
  unfolding room_for
  full_room e l = rw (e, l)

  pub new_room : member (id_of m) ms ≡ false → crowded m ms ≡ false → New at ≡ room_for m ms
  unfolding room_for
  new_room e l = rw (e, l) (ap New at_is)
