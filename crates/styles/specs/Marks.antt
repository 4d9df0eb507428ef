-- A set of marks is a list of them, sorted by identity: what it carries, what edits make of it, and the winner for a key; and
-- a table of marks at numbered places.
use Rattle.std.specs.Prelude.{◌≡◌, ℕ, zero, suc, ◌+◌, Bool, true, false, cond, not, ◌&&◌, ◌||◌, List, [], ◌∷◌, ◌++◌, take, drop, pos, Option, None, Some, ◌==◌, nat_le, nat_lt}
use Rattle.styles.specs.declared.Identity.{Identity}
use Rattle.styles.specs.declared.Mark.{Mark}
use Rattle.styles.specs.declared.Party.{Party}
use Rattle.styles.specs.declared.Party.TheVariants.{Plant}
use Rattle.styles.specs.declared.Stand.{Stand}
use Rattle.styles.specs.declared.Stand.TheVariants.{Before, Same, After}
use Rattle.styles.specs.declared.Value.{Value}
use Rattle.styles.specs.declared.Value.TheVariants.{Null}
use Rattle.styles.specs.Values.{same_whole, same_value, shows_as}
use Rattle.styles.specs.Order.{stands, then, numbers, parties, rank, is_before, id_of, less, same_id}

-- the same content: the flag byte, the box's counter and the very same value
unfoldable pub same_content : Mark → Mark → Bool
same_content a b = a.flags == b.flags && (same_whole a.cnt b.cnt && same_value a.value b.value)

-- ---- Sets, and what they carry
-- each mark of the list comes after the identity
unfoldable pub Above : Identity → List Mark → Type 0
Above i [] = Unit {0}
Above i (m ∷ ms) = (stands i (id_of m) ≡ Before) × Above i ms

-- a set: each mark comes after all before it, so no identity is there twice
unfoldable pub Sorted : List Mark → Type 0
unfolding Above
Sorted [] = Unit {0}
Sorted (m ∷ ms) = Above (id_of m) ms × Sorted ms

-- the identity is carried
unfoldable pub member : Identity → List Mark → Bool
member i [] = false
member i (m ∷ ms) = same_id i (id_of m) || member i ms

-- two sets are the same, by identity: as many marks, and the same identities in order
unfoldable pub same_marks : List Mark → List Mark → Bool
same_marks [] [] = true
same_marks [] (y ∷ ys) = false
same_marks (x ∷ xs) [] = false
same_marks (x ∷ xs) (y ∷ ys) = same_id (id_of x) (id_of y) && same_marks xs ys

-- ---- What edits make of sets
-- a mark against the first of a set: before it, the same identity, or among the rest
abbrev pub insert_step : Stand → Mark → Mark → List Mark → List Mark → List Mark
insert_step Before m x xs rest = m ∷ x ∷ xs
insert_step Same m x xs rest = x ∷ xs
insert_step After m x xs rest = x ∷ rest

-- the set with one mark more; a mark of that identity that is there stays as it was
unfoldable pub insert_mark : Mark → List Mark → List Mark
insert_mark m [] = m ∷ []
insert_mark m (x ∷ xs) = insert_step (stands (id_of m) (id_of x)) m x xs (insert_mark m xs)

-- the marks that either set has; an identity of both is as the second has it
unfoldable pub either_of : List Mark → List Mark → List Mark
unfolding insert_mark
either_of [] ys = ys
either_of (x ∷ xs) ys = insert_mark x (either_of xs ys)

-- of a set, the marks for which a test holds
unfoldable pub only : (Mark → Bool) → List Mark → List Mark
only f [] = []
only f (m ∷ ms) = cond (f m) (m ∷ only f ms) (only f ms)

-- the set without an identity
abbrev pub remove_mark : Identity → List Mark → List Mark
remove_mark i ms = only (λ m. not (same_id i (id_of m))) ms

-- the marks of the first whose identity the second carries too
abbrev pub common : List Mark → List Mark → List Mark
common xs ys = only (λ m. member (id_of m) ys) xs

-- ---- Keys, and the winner for a key
-- the mark has the key
abbrev pub key_is : ℕ → Mark → Bool
key_is k m = m.key == k

-- some mark has the key
unfoldable pub has_key : ℕ → List Mark → Bool
has_key k [] = false
has_key k (m ∷ ms) = key_is k m || has_key k ms

-- of two marks with one key the second wins: the greater lamport, then the greater peer. A winner is asked for among the marks of one party, so
-- that the first step, without which this would not be the table's order, never decides
abbrev pub later : Mark → Mark → Bool
later a b = is_before (then (parties a.party b.party) (then (numbers a.lamport b.lamport) (numbers a.peer b.peer)))

-- a mark with the key against the winner of the others
abbrev pub better : Mark → Option Mark → Option Mark
better m None = Some m
better m (Some x) = cond (later m x) (Some x) (Some m)

-- the mark that shows for a key: the greatest lamport, then the greatest peer
unfoldable pub winner : ℕ → List Mark → Option Mark
winner k [] = None
winner k (m ∷ ms) = cond (key_is k m) (better m (winner k ms)) (winner k ms)

-- the mark's value shows as w
abbrev pub value_is : Value → Mark → Bool
value_is w m = shows_as m.value w

-- a winner's value shows as w; no mark shows nothing
abbrev pub shown_by : Value → Option Mark → Bool
shown_by w None = false
shown_by w (Some m) = value_is w m

-- the value shown for a key shows as w
abbrev pub shows_value : ℕ → Value → List Mark → Bool
shows_value k w l = shown_by w (winner k l)

-- ---- Parties
-- one party is another
abbrev pub same_party : Party → Party → Bool
same_party a b = rank a == rank b

-- the mark is a party's
abbrev pub is_of : Party → Mark → Bool
is_of who m = same_party who m.party

-- the marks of one party
abbrev pub of_party : Party → List Mark → List Mark
of_party who ms = only (is_of who) ms

-- ---- A place without a mark
-- what stands there
abbrev pub blank : Mark
blank = record { key = 0; flags = 0; party = Plant; lamport = 0; cnt = pos 0; peer = 0; value = Null }

-- ---- A table: marks at numbered places
-- a mark put in at a place of a list
unfoldable pub insert_at : ℕ → Mark → List Mark → List Mark
insert_at zero m ms = m ∷ ms
insert_at (suc i) m [] = []
insert_at (suc i) m (x ∷ xs) = x ∷ insert_at i m xs

-- how many marks at the front come before an identity: where it stands in a sorted list, or would
unfoldable pub place_of : Identity → List Mark → ℕ
place_of i [] = 0
place_of i (m ∷ ms) = cond (less (id_of m) i) (suc (place_of i ms)) 0

-- ---- A table of 64 places, of which the first n are marks
-- the table with one mark more, put in at place i; as it was where there is no such place, or no room
unfoldable pub table_with : ℕ → ℕ → Mark → List Mark → List Mark
unfolding insert_at
table_with n i m table = cond (nat_le i n && nat_lt n 64) (insert_at i m (take n table) ++ drop (n + 1) table) table
