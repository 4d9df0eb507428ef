-- Laws of the table: each definition that goes down the entries is known by the place of the name. Assumes nothing.
use mathlib.Core.Path.{◌≡◌, refl}
use mathlib.Core.Bool.{true, false, not, and-eq-true_iff, or-true}
use mathlib.Core.List.{List, [], ◌∷◌, ◌++◌}
use Rattle.std.specs.Prelude.{Option}
use Prim.Native.Nat.{ℕ, suc, ◌≤◌, ◌<◌}
use native.Mathlib.Omega.{arith}
use lib.ListN.{length, get_or, set}
use borrow.Author.Tests.{le-leb, lt-leb, lt-ltb, le-ltb}
use Rattle.text.specs.Bytes.{same_of}
use Rattle.laws.proofs.Cases.{cond_cases}
use Rattle.text.proofs.Prefix.{same_true, same_flip}
use Rattle.config.specs.Names.{too_long, holds_colon}
use Rattle.config.specs.Table.{Named, Table, known, find, place, entered, once, refuses}
use Rattle.config.specs.declared.StyleConfig.{StyleConfig}

-- The place of a name

-- what holds at no entries, at an entry of the name, and at an entry of another name if it holds of the rest, holds
pub place_by : (k : List ℕ) (P : List Named → ℕ → Type 0)
    → P [] 0
    → ((x : Named) (xs : List Named) → same_of x.name k ≡ true → P (x ∷ xs) 0)
    → ((x : Named) (xs : List Named) → same_of x.name k ≡ false → P xs (place k xs) → P (x ∷ xs) (suc (place k xs)))
    → (es : List Named) → P es (place k es)
unfolding place
place_by k P z f g [] = z
place_by k P z f g (x ∷ xs) =
    let r : P xs (place k xs) = place_by k P z f g xs in
    cond_cases (P (x ∷ xs)) (same_of x.name k) (f x xs) (λ e. g x xs e r)

pub place_le : (k : List ℕ) (es : List Named) → place k es ≤ length es
place_le k = place_by k (λ es n. n ≤ length es) (omega arith) (λ x xs e. omega arith) (λ x xs e r. omega arith)

pub known_place : (k : List ℕ) (es : List Named) → (place k es < length es → known k es ≡ true) × (length es ≤ place k es → known k es ≡ false)
unfolding known
known_place k =
    place_by
    k
    (λ es n. (n < length es → known k es ≡ true) × (length es ≤ n → known k es ≡ false))
    ((λ h. absurd (omega arith)), λ h. refl)
    (λ x xs e. ((λ h. rw e), λ h. absurd (omega arith)))
    (λ x xs e r. ((λ h. rw e (r.0 (omega arith))), λ h. rw e (r.1 (omega arith))))

pub find_place : (k : List ℕ) (d : Named) (es : List Named)
    → (place k es < length es → find k es ≡ Option.Some (get_or es (place k es) d).style) × (length es ≤ place k es → find k es ≡ Option.None)
unfolding find
find_place k d =
    place_by
    k
    (λ es n. (n < length es → find k es ≡ Option.Some (get_or es n d).style) × (length es ≤ n → find k es ≡ Option.None))
    ((λ h. absurd (omega arith)), λ h. refl)
    (λ x xs e. ((λ h. rw e), λ h. absurd (omega arith)))
    (λ x xs e r. ((λ h. rw e (r.0 (omega arith))), λ h. rw e (r.1 (omega arith))))

pub entered_place : (k : List ℕ) (s : StyleConfig) (es : List Named)
    → (place k es < length es → entered k s es ≡ set es (place k es) (record { name = k; style = s }))
    × (length es ≤ place k es → entered k s es ≡ es ++ (record { name = k; style = s } ∷ []))
unfolding entered
entered_place k s =
    place_by
    k
    (λ es n. (n < length es → entered k s es ≡ set es n (record { name = k; style = s })) × (length es ≤ n → entered k s es ≡ es ++ (record { name = k; style = s } ∷ [])))
    ((λ h. absurd (omega arith)), λ h. refl)
    (λ x xs e. ((λ h. rw e), λ h. absurd (omega arith)))
    (λ x xs e r. ((λ h. rw (e, r.0 (omega arith))), λ h. rw (e, r.1 (omega arith))))

-- Each name once

pub known_entered : (j k : List ℕ) (s : StyleConfig) → same_of k j ≡ false → (es : List Named) → known j (entered k s es) ≡ known j es
unfolding known entered
known_entered j k s n =
    place_by
    k
    (λ es i. known j (entered k s es) ≡ known j es)
    (rw n)
    (λ x xs e. rw (e, same_true x.name k e))
    (λ x xs e r. rw (e, r))

pub once_entered : (k : List ℕ) (s : StyleConfig) (es : List Named) → once es ≡ true → once (entered k s es) ≡ true
unfolding once entered known
once_entered k s =
    place_by
    k
    (λ es i. once es ≡ true → once (entered k s es) ≡ true)
    (λ h. refl)
    (λ x xs e h. rw e (rw (same_true x.name k e) at h))
    (λ x xs e r h.
    let b = (and-eq-true_iff (not (known x.name xs)) (once xs)).0 h in
    rw (e, known_entered x.name k s (same_flip x.name k e) xs, b.0) (r b.1))

-- Refusals

pub refuses_long : (k : List ℕ) (t : Table) → 32 < length k → refuses k t ≡ true
refuses_long k t h = rw (lt-ltb 32 (length k) h)

pub refuses_colon : (k : List ℕ) (t : Table) → holds_colon k ≡ true → refuses k t ≡ true
refuses_colon k t h = rw h (or-true (too_long k))

pub refuses_full : (k : List ℕ) (t : Table) → known k t.entries ≡ false → 32 ≤ length t.entries → refuses k t ≡ true
refuses_full k t e h = rw (e, le-leb 32 (length t.entries) h, or-true (holds_colon k)) (or-true (too_long k))

pub accepts_known : (k : List ℕ) (t : Table) → length k ≤ 32 → holds_colon k ≡ false → known k t.entries ≡ true → refuses k t ≡ false
accepts_known k t h c e = rw (le-ltb 32 (length k) h, c, e)

pub accepts_new : (k : List ℕ) (t : Table) → length k ≤ 32 → holds_colon k ≡ false → known k t.entries ≡ false → length t.entries < 32
    → refuses k t ≡ false
accepts_new k t h c e l = rw (le-ltb 32 (length k) h, c, e, lt-leb 32 (length t.entries) l)
