-- The union of all sets: it has the bits that some position's set has and no others; and what the edits make of it.
use Prim.Native.Nat.{ℕ, ◌+◌, ◌-◌, ◌≤◌, ◌<◌, max}
use mathlib.Core.Path.{◌≡◌, sym, ap, ◌∙◌}
use mathlib.Core.Bool.{◌&&◌}
use mathlib.Core.List.{List, [], ◌∷◌}
use native.Mathlib.Omega.{arith}
use native.Mathlib.Numerals.{add-one}
use native.Mathlib.Decide.{dec_lt, ℕ_discrete}
use lib.Bits.{bit_and, bit_or, and_zero_l}
use lib.Dec.{ltb, leb}
use lib.ListN.{get_or}
use Rattle.runs.specs.Runs.{Run, runs, total, set_at, Canon}
use Rattle.runs.proofs.Copies.{adding, altered, deleted, inserted}
use Rattle.runs.specs.Gather.{gather}
use Rattle.laws.proofs.Cases.{cond_by}
use Rattle.styles.proofs.Digits.{digit, or_digit, digit_none, digits_ext, within_digit, digit_within}
use Rattle.runs.proofs.Laws.{at_in, at_last}
use Rattle.runs.proofs.MapLaws.{AllSets, map_runs}
use Rattle.runs.proofs.EditLaws.{add_is, at_altered, altered_in, canon_altered, at_deleted, canon_deleted, at_inserted, inserted_before, inserted_after, canon_inserted}

-- one run more
pub gather_more : (lens sets : List ℕ) (k : ℕ) → gather (runs lens sets (k + 1)) ≡ bit_or (get_or sets k 0) (gather (runs lens sets k))
unfolding runs gather
gather_more lens sets k = rw add-one

-- ---- each set is in it
-- what follows for each set from what holds of it
pub all_sets_map : (P Q : ℕ → Type 0) → ((s : ℕ) → P s → Q s) → (rs : List Run) → AllSets P rs → AllSets Q rs
unfolding AllSets
all_sets_map P Q f [] a = tt
all_sets_map P Q f (r ∷ rs) a = (f r.set a.0, all_sets_map P Q f rs a.1)

pub sets_within : (rs : List Run) → AllSets (λ s. bit_and s (gather rs) ≡ s) rs
unfolding AllSets gather
sets_within [] = tt
sets_within (r ∷ rs) = (
  digit_within r.set (bit_or r.set (gather rs)) (λ i. omega (arith, or_digit r.set (gather rs) i)),
  all_sets_map _ _
      (λ s e. digit_within s (bit_or r.set (gather rs)) (λ i. omega (arith, or_digit r.set (gather rs) i, within_digit s (gather rs) e i)))
      rs (sets_within rs),
)

-- what holds of the empty set and of each set holds at every position
pub all_at_lem : (P : ℕ → Type 0) (rs : List Run) → P 0 → AllSets P rs → (p : ℕ) → P (set_at rs p)
unfolding AllSets set_at
all_at_lem P [] z a p = z
all_at_lem P (r ∷ rs) z a p = cond_by P (ltb p (total rs)) (all_at_lem P rs z a.1 p) (cond_by P (ltb p (total rs + r.len)) a.0 z)

pub set_within : (rs : List Run) (p : ℕ) → bit_and (set_at rs p) (gather rs) ≡ set_at rs p
set_within rs p = all_at_lem (λ s. bit_and s (gather rs) ≡ s) rs (and_zero_l (gather rs)) (sets_within rs) p

pub gather_digit : (rs : List Run) (p i : ℕ) → digit (set_at rs p) i ≤ digit (gather rs) i
gather_digit rs p i = within_digit (set_at rs p) (gather rs) (set_within rs p) i

-- ---- and nothing else is: a bit of it is at some position
pub gather_from : (rs : List Run) (i : ℕ) → Canon rs → digit (gather rs) i ≡ 1 → (p : ℕ) × (p < total rs) × (digit (set_at rs p) i ≡ 1)
unfolding gather total Canon
gather_from [] i c e = absurd (omega (arith, digit_none i))
gather_from (r ∷ rs) i c e =
    let o = or_digit r.set (gather rs) i in
    elim (ℕ_discrete (digit r.set i) 1) [
      | yes k ↦ (total rs, omega arith, ap (λ (x : ℕ). digit x i) (at_last r rs (total rs) (omega arith) (omega arith)) ∙ k)
      | no k ↦
          let q = gather_from rs i c.2 (omega arith) in
          (q.0, omega (arith, q.1), ap (λ (x : ℕ). digit x i) (at_in r rs q.0 q.1) ∙ q.2)
    ]

-- a bit that no position has is not in it
pub gather_least : (rs : List Run) (i d : ℕ) → Canon rs → ((p : ℕ) → p < total rs → digit (set_at rs p) i ≤ d) → digit (gather rs) i ≤ d
gather_least rs i d c h =
    elim (ℕ_discrete (digit (gather rs) i) 1) [
      | yes e ↦ let q = gather_from rs i c e in omega (arith, h q.0 q.1, q.2)
      | no e ↦ omega arith
    ]

-- ---- a renumbering
pub gather_map : (f : ℕ → ℕ) → f 0 ≡ 0 → ((s u : ℕ) → f (bit_or s u) ≡ bit_or (f s) (f u)) → (rs : List Run) → gather (map_runs f rs) ≡ f (gather rs)
unfolding gather map_runs
gather_map f none split [] = sym none
gather_map f none split (r ∷ rs) = ap (bit_or (f r.set)) (gather_map f none split rs) ∙ sym (split r.set (gather rs))

-- ---- the edits
-- a deletion leaves no bit that was not there
pub gather_deleted : (rs : List Run) (a b : ℕ) → a ≤ b → b ≤ total rs → bit_and (gather (deleted rs a b)) (gather rs) ≡ gather (deleted rs a b)
gather_deleted rs a b up fits =
    digit_within (gather (deleted rs a b)) (gather rs)
    (λ i.
    gather_least (deleted rs a b) i (digit (gather rs) i) (canon_deleted rs a b)
    (λ p h.
    rw (at_deleted rs a b up fits p)
    (cond_by (λ x. digit x i ≤ digit (gather rs) i) (ltb p a) (gather_digit rs p i) (gather_digit rs (p + (b - a)) i))))

-- an insertion of a set that was there changes nothing
module _ (rs : List Run) (pos l s : ℕ) (canon : Canon rs) (fits : pos ≤ total rs) (there : bit_and s (gather rs) ≡ s) where
  inserted_most : (i : ℕ) → digit (gather (inserted rs pos l s)) i ≤ digit (gather rs) i
  inserted_most i =
      gather_least (inserted rs pos l s) i (digit (gather rs) i) (canon_inserted rs pos l s)
      (λ p h.
      rw (at_inserted rs pos l s fits p)
      (cond_by (λ x. digit x i ≤ digit (gather rs) i) (ltb p pos) (gather_digit rs p i)
      (cond_by (λ x. digit x i ≤ digit (gather rs) i) (ltb p (pos + l)) (within_digit s (gather rs) there i) (gather_digit rs (p - l) i))))

  inserted_least : (i : ℕ) → digit (gather rs) i ≤ digit (gather (inserted rs pos l s)) i
  inserted_least i =
      gather_least rs i (digit (gather (inserted rs pos l s)) i) canon
      (λ p h.
      elim (dec_lt p pos) [
        | yes k ↦ omega (arith, gather_digit (inserted rs pos l s) p i, ap (λ (x : ℕ). digit x i) (inserted_before rs pos l s fits p k))
        | no k ↦ omega (arith, gather_digit (inserted rs pos l s) (p + l) i, ap (λ (x : ℕ). digit x i) (inserted_after rs pos l s fits p (omega arith) h))
      ])

  pub gather_inserted : gather (inserted rs pos l s) ≡ gather rs
  gather_inserted = digits_ext (gather (inserted rs pos l s)) (gather rs) (λ i. omega (arith, inserted_most i, inserted_least i))

-- bits added to one position at least are there, and no others besides those that were
module _ (rs : List Run) (a b bits : ℕ) (canon : Canon rs) (up : a < b) (fits : b ≤ total rs) where
  added : (s i : ℕ) → digit (adding bits s) i ≡ max (digit s i) (digit bits i)
  added s i = ap (λ (x : ℕ). digit x i) (add_is bits s) ∙ or_digit s bits i

  altered_most : (i : ℕ) → digit (gather (altered rs a b (adding bits))) i ≤ max (digit (gather rs) i) (digit bits i)
  altered_most i =
      gather_least (altered rs a b (adding bits)) i (max (digit (gather rs) i) (digit bits i)) (canon_altered rs a b (adding bits))
      (λ p h.
      let w = gather_digit rs p i in
      rw (at_altered rs a b (adding bits) (omega arith) fits p)
      (cond_by (λ x. digit x i ≤ max (digit (gather rs) i) (digit bits i)) (leb a p && ltb p b) (omega (arith, added (set_at rs p) i)) (omega arith)))

  -- a position of the range shows every bit that was added
  altered_bits : (i : ℕ) → digit bits i ≤ digit (gather (altered rs a b (adding bits))) i
  altered_bits i =
      let e = altered_in rs a b (adding bits) (omega arith) fits a (omega arith) up in
      omega (arith, gather_digit (altered rs a b (adding bits)) a i, ap (λ (x : ℕ). digit x i) e, added (set_at rs a) i)

  altered_least : (i : ℕ) → digit (gather rs) i ≤ digit (gather (altered rs a b (adding bits))) i
  altered_least i =
      gather_least rs i (digit (gather (altered rs a b (adding bits))) i) canon
      (λ p h.
      let k : digit (set_at rs p) i ≤ digit (set_at (altered rs a b (adding bits)) p) i =
      rw (at_altered rs a b (adding bits) (omega arith) fits p)
      (cond_by (λ x. digit (set_at rs p) i ≤ digit x i) (leb a p && ltb p b) (omega (arith, added (set_at rs p) i)) (omega arith))
      in
      omega (arith, gather_digit (altered rs a b (adding bits)) p i, k))

  pub gather_altered : gather (altered rs a b (adding bits)) ≡ bit_or (gather rs) bits
  gather_altered =
      digits_ext (gather (altered rs a b (adding bits))) (bit_or (gather rs) bits)
      (λ i. omega (arith, or_digit (gather rs) bits i, altered_most i, altered_bits i, altered_least i))
