-- What the statements of `src/` come to: each public function has one result, a refusal changes nothing, and what an insertion does
-- to later questions. Assumes nothing.
use mathlib.Core.Path.{◌≡◌, refl, sym, ◌∙◌}
use mathlib.Core.Bool.{Bool, true, false, cond}
use mathlib.Core.List.{List}
use Rattle.std.specs.Prelude.{Option, Result}
use Prim.Native.Nat.{ℕ, suc, ◌≤◌, ◌<◌}
use native.Mathlib.Omega.{arith}
use lib.ListN.{length, get_or}
use Rattle.text.specs.Bytes.{same_of}
use Rattle.text.proofs.Prefix.{same_refl, same_true}
use Rattle.config.specs.Names.{holds_colon}
use Rattle.config.specs.Table.{Named, Table, find, place, entered, refuses, retired_style, insert_number, style_for}
use Rattle.config.specs.Answers.{said, get_says, flag_says, unmark_says}
use Rattle.config.specs.Meaning.{no_entry, named_of, configured, Sound, Inserts, SetsDefault}
use Rattle.config.specs.declared.ConfigRefusal.{ConfigRefusal}
use Rattle.richtext.specs.declared.TextStyleInfoFlag.{TextStyleInfoFlag}
use Rattle.config.specs.declared.StyleConfig.{StyleConfig}
use Rattle.config.specs.declared.StyleConfigMap.{StyleConfigMap}
use Rattle.config.proofs.TableLaws.{place_by}
use Rattle.config.proofs.MapLaws.{length_configured, configured_at, style_default, one_map, one_means}
use Rattle.config.proofs.AnswerLaws.{one_said, one_call}

-- One result each: new, default_rich_text_config and clear_default by `one_means`; the others here

-- what a call answers that may be refused
abbrev Answer : Type 0 → Type 0
Answer A = Result A ConfigRefusal

-- one number and one meaning are one answer and one table
pub one_insert : (m : StyleConfigMap) (k : List ℕ) (s : StyleConfig) (a b : Answer (Unit {0})) (n o : StyleConfigMap)
    → Inserts m k s a n → Inserts m k s b o → (a ≡ b) × (n ≡ o)
one_insert m k s a b n o p q = (one_call a b (p.refusal ∙ sym q.refusal), one_means _ n o p.table q.table)

pub one_default : (m : StyleConfigMap) (s : StyleConfig) (a b : Answer (Unit {0})) (n o : StyleConfigMap)
    → SetsDefault m s a n → SetsDefault m s b o → (a ≡ b) × (n ≡ o)
one_default m s a b n o p q = (one_call a b (p.refusal ∙ sym q.refusal), one_means _ n o p.table q.table)

pub one_get : (m : StyleConfigMap) (k : List ℕ) (a b : Answer (Option StyleConfig)) → said a ≡ get_says k (configured m) → said b ≡ get_says k (configured m) → a ≡ b
one_get m k a b p q = one_said a b (p ∙ sym q)

pub one_style_flag : (m : StyleConfigMap) (k : List ℕ) (a b : Answer (Option TextStyleInfoFlag))
    → said a ≡ flag_says k (configured m) → said b ≡ flag_says k (configured m) → a ≡ b
one_style_flag m k a b p q = one_said a b (p ∙ sym q)

pub one_unmark_flag : (m : StyleConfigMap) (k : List ℕ) (a b : Answer (Option TextStyleInfoFlag))
    → said a ≡ unmark_says k (configured m) → said b ≡ unmark_says k (configured m) → a ≡ b
one_unmark_flag m k a b p q = one_said a b (p ∙ sym q)

-- A refusal leaves the very table that was there

pub refused_same : (m : StyleConfigMap) → Sound m → (k : List ℕ) (s : StyleConfig) (r : Answer (Unit {0})) (n : StyleConfigMap)
    → Inserts m k s r n → 0 < insert_number k s (configured m) → n ≡ m
refused_same m t k s r n i h =
    one_map n m i.table.sound t (i.table.means ∙ stays_as (retired_style s) (refuses k (configured m)) _ (configured m) h)
  where
    stays_as : (b c : Bool) (x y : Table) → 0 < cond c 19 (cond b 18 0) → cond b y (cond c y x) ≡ y
    stays_as true c x y l = refl
    stays_as false true x y l = refl
    stays_as false false x y l = absurd (omega arith)

-- Names with a colon are never entries: `get` answers the default

plain_place : (k : List ℕ) (d : Named) → holds_colon k ≡ true → (es : List Named)
    → ((i : ℕ) → i < length es → holds_colon (get_or es i d).name ≡ false) → length es ≤ place k es
plain_place k d c =
    place_by
    k
    (λ es n. ((i : ℕ) → i < length es → holds_colon (get_or es i d).name ≡ false) → length es ≤ n)
    (λ h. omega arith)
    (λ x xs e h.
    let p : holds_colon k ≡ false = rw (same_true x.name k e) at (h 0 (omega arith)) in
    let z : ◌≡◌ {A = ℕ} 0 1 = cc in
    absurd (omega arith))
    (λ x xs e r h. let l : length xs ≤ place k xs = r (λ i g. h (suc i) (omega arith)) in omega arith)

pub colon_default : (m : StyleConfigMap) → Sound m → (k : List ℕ) → holds_colon k ≡ true → style_for k (configured m) ≡ m.default_style
colon_default m s k c =
    let l : length (configured m).entries ≡ m.count = length_configured m s in
    let h : length (configured m).entries ≤ place k (configured m).entries =
    plain_place k (named_of no_entry) c (configured m).entries (λ i g. rw (configured_at m i (omega arith)) (s.tidy i (omega arith)).plain) in
    style_default m s k (omega arith)

-- After an insertion the name has the style, and every other name what it had

pub find_entered_same : (k : List ℕ) (s : StyleConfig) (es : List Named) → find k (entered k s es) ≡ Option.Some s
unfolding find entered
find_entered_same k s =
    place_by
    k
    (λ es n. find k (entered k s es) ≡ Option.Some s)
    (rw (same_refl k))
    (λ x xs e. rw (e, same_refl k))
    (λ x xs e r. rw (e, e) r)

pub find_entered_other : (j k : List ℕ) (s : StyleConfig) → same_of k j ≡ false → (es : List Named) → find j (entered k s es) ≡ find j es
unfolding find entered
find_entered_other j k s n =
    place_by
    k
    (λ es i. find j (entered k s es) ≡ find j es)
    (rw n)
    (λ x xs e. rw (e, same_true x.name k e, n))
    (λ x xs e r. rw (e, r))
