-- Two laws as a tank uses them: when two marks are one, and an identity that the table has not is in no set.
use Rattle.std.proofs.Common.{◌≡◌, ℕ, ◌/◌, ◌%◌, Bool, true, false, ◌||◌, List, [], ◌∷◌, refl}
use Rattle.styles.specs.declared.Identity.{Identity}
use Rattle.styles.specs.declared.Mark.{Mark}
use Rattle.styles.specs.Order.{id_of, same_id}
use Rattle.styles.specs.Marks.{member}
use Rattle.styles.specs.Bits.{pick}
use Rattle.styles.proofs.PickLaws.{keep_by}

-- two marks of one identity and one content are one
pub mark_eq : (a b : Mark) → id_of a ≡ id_of b → a.flags ≡ b.flags → a.cnt ≡ b.cnt → a.value ≡ b.value → a ≡ b
mark_eq a b e f c g =
    λ i. record { key = (e i).key; flags = f i; party = (e i).party; lamport = (e i).lamport; cnt = c i; peer = (e i).peer; value = g i }

-- ---- an identity that the table has not is in no set
split_member : (a b : Bool) → (a || b) ≡ false → (a ≡ false) × (b ≡ false)
split_member true b e = (cc, cc)
split_member false b e = (refl, e)

pub absent_pick : (i : Identity) (t : List Mark) (s : ℕ) → member i t ≡ false → member i (pick t s) ≡ false
unfolding member pick
absent_pick i [] s h = refl
absent_pick i (m ∷ ms) s h =
    let p = split_member (same_id i (id_of m)) (member i ms) h in
    let k = absent_pick i ms (s / 2) p.1 in
    keep_by (λ l. member i l ≡ false) (s % 2) k (rw p.0 k)
