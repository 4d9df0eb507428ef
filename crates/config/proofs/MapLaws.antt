-- Laws of maps: a sound map is determined by its meaning, and what an entry stored at its place makes of both. Assumes nothing.
use mathlib.Core.Path.{◌≡◌, refl, sym, ap, ◌∙◌}
use mathlib.Core.Bool.{true, false}
use mathlib.Core.List.{List, [], ◌∷◌, map, map-append}
use Rattle.std.specs.Prelude.{Option}
use Prim.Native.Nat.{ℕ, suc, ◌+◌, ◌-◌, ◌≤◌, ◌<◌}
use native.Mathlib.Decide.{dec_lt, ℕ_discrete}
use native.Mathlib.Numerals.{add-one}
use native.Mathlib.Omega.{arith}
use lib.ListN.{length, get_or, take, drop, set, replicate, drop_of_length-le, length-map, length-set, get_or-map, get_or-replicate}
use lib.Seq.{drop-cons, length-take-le, get_or-take, get_or-drop, get_or-set_same, get_or-set_other, take-set-lt, take-suc-set, drop-set-lt, drop-drop, ext_get_or}
use borrow.Author.Tests.{eq-eqb, ne_eqb}
use Rattle.laws.proofs.Lists.{map_set}
use Rattle.text.specs.Bytes.{same_of}
use Rattle.config.specs.Names.{holds_colon}
use Rattle.config.specs.Table.{Named, Table, find, place, entered, refuses, with_entry, style_for}
use Rattle.config.specs.Meaning.{blank_entry, no_entry, entry_of, name_in, named_of, configured, entry_at, stored, Tidy, Sound, Means}
use Rattle.config.specs.declared.Entry.{Entry}
use Rattle.config.specs.declared.StyleConfig.{StyleConfig}
use Rattle.config.specs.declared.StyleConfigMap.{StyleConfigMap}
use Rattle.config.proofs.EntryLaws.{name_entry, tidy_entry, one_entry}
use Rattle.config.proofs.TableLaws.{place_le, known_place, find_place, entered_place, once_entered, refuses_full, accepts_known, accepts_new}

-- A map's entries, seen through its meaning

pub length_configured : (m : StyleConfigMap) → Sound m → length (configured m).entries ≡ m.count
length_configured m s = length-map (take m.count m.entries) named_of ∙ length-take-le m.count m.entries (omega arith)

pub configured_at : (m : StyleConfigMap) (i : ℕ) → i < m.count → get_or (configured m).entries i (named_of no_entry) ≡ named_of (entry_at m i)
configured_at m i h = get_or-map named_of (take m.count m.entries) i no_entry ∙ ap named_of (get_or-take m.count m.entries i no_entry h)

module _ (m : StyleConfigMap) (s : Sound m) (k : List ℕ) (i : ℕ) where
  -- an entry of another name is passed, one of this name is the place, and past the count there is none
  pub place_pass : i < m.count → same_of (name_in (entry_at m i)) k ≡ false → place k (drop i (configured m).entries) ≡ suc (place k (drop (suc i) (configured m).entries))
  unfolding place
  place_pass h e = rw (drop-cons (configured m).entries i (named_of no_entry) (rw (length_configured m s) h), configured_at m i h, e)

  pub place_stop : i < m.count → same_of (name_in (entry_at m i)) k ≡ true → place k (drop i (configured m).entries) ≡ 0
  unfolding place
  place_stop h e = rw (drop-cons (configured m).entries i (named_of no_entry) (rw (length_configured m s) h), configured_at m i h, e)

  pub place_over : m.count ≤ i → place k (drop i (configured m).entries) ≡ 0
  unfolding place
  place_over h = rw (drop_of_length-le (configured m).entries {i = i} (rw (length_configured m s) h))

module _ (m : StyleConfigMap) (s : Sound m) (k : List ℕ) where
  -- the style of a name is that of the entry at its place, or the default
  pub style_known : place k (configured m).entries < m.count → style_for k (configured m) ≡ Option.Some (entry_at m (place k (configured m).entries)).style
  style_known h =
      let f : find k (configured m).entries ≡ Option.Some (get_or (configured m).entries (place k (configured m).entries) (named_of no_entry)).style =
      (find_place k (named_of no_entry) (configured m).entries).0 (rw (length_configured m s) h) in
      rw (f, configured_at m (place k (configured m).entries) h)

  pub style_default : m.count ≤ place k (configured m).entries → style_for k (configured m) ≡ m.default_style
  style_default h =
      let f : find k (configured m).entries ≡ Option.None = (find_place k (named_of no_entry) (configured m).entries).1 (rw (length_configured m s) h) in
      rw f

-- One meaning, one map

-- a place past the count is blank
spare_at : (m : StyleConfigMap) → Sound m → (i : ℕ) → m.count ≤ i → i < 32 → entry_at m i ≡ blank_entry
spare_at m s i h l =
    let e : m.count + (i - m.count) ≡ i = omega arith in
    let k : i - m.count < 32 - m.count = omega arith in
    rw (← e)
    (sym (get_or-drop m.count m.entries (i - m.count) no_entry) ∙ rw s.rest (get_or-replicate (32 - m.count) (i - m.count) blank_entry no_entry k))

pub one_map : (m n : StyleConfigMap) → Sound m → Sound n → configured m ≡ configured n → m ≡ n
one_map m n s t e =
    let c : m.count ≡ n.count = sym (length_configured m s) ∙ (ap (λ (x : Table). length x.entries) e ∙ length_configured n t) in
    let entry : (i : ℕ) → i < length m.entries → entry_at m i ≡ entry_at n i = λ i h.
    elim (dec_lt i m.count) [
      | yes k ↦
          one_entry (entry_at m i) (entry_at n i) (s.tidy i (omega arith)) (t.tidy i (omega arith))
          (sym (configured_at m i k) ∙ (ap (λ (x : Table). get_or x.entries i (named_of no_entry)) e ∙ configured_at n i (omega arith)))
      | no k ↦ spare_at m s i (omega arith) (omega arith) ∙ sym (spare_at n t i (omega arith) (omega arith))
    ] in
    let es : m.entries ≡ n.entries = ext_get_or no_entry m.entries n.entries (omega arith) entry in
    let d : m.default_style ≡ n.default_style = ap (λ (x : Table). x.default) e in
    λ i. record { entries = es i; count = c i; default_style = d i }

-- two maps that a statement allows are one
pub one_means : (t : Table) (m n : StyleConfigMap) → Means t m → Means t n → m ≡ n
one_means t m n p q = one_map m n p.sound q.sound (p.means ∙ sym q.means)

-- An entry stored

named_entry : (k : List ℕ) (s : StyleConfig) → named_of (entry_of k s) ≡ record { name = k; style = s }
named_entry k s = λ i. record { name = name_entry k s i; style = s }

tidy_set : (es : List Entry) (at : ℕ) (e : Entry) → at < length es → Tidy e
    → ((i : ℕ) → i < 32 → Tidy (get_or es i no_entry))
    → (i : ℕ) → i < 32 → Tidy (get_or (set es at e) i no_entry)
tidy_set es at e h t f i l =
    elim (ℕ_discrete i at) [
      | yes p ↦ rw (p, get_or-set_same es at e no_entry h) t
      | no p ↦ rw (get_or-set_other es at i e no_entry p) (f i l)
    ]

-- the places after the count stay blank, with one entry more or not
rest_known : (es : List Entry) (n at : ℕ) (e : Entry) → at < n → drop n es ≡ replicate (32 - n) blank_entry → drop n (set es at e) ≡ replicate (32 - n) blank_entry
rest_known es n at e h r = drop-set-lt n es at e h ∙ r

rest_new : (es : List Entry) (n : ℕ) (e : Entry) → n < 32 → drop n es ≡ replicate (32 - n) blank_entry → drop (n + 1) (set es n e) ≡ replicate (32 - (n + 1)) blank_entry
rest_new es n e h r =
    let l : 32 - n ≡ suc (32 - (n + 1)) = omega arith in
    drop-set-lt (n + 1) es n e (omega arith) ∙ (sym (drop-drop 1 n es) ∙ (rw (r, l)))

module _ (m : StyleConfigMap) (s : Sound m) (k : List ℕ) (v : StyleConfig) (short : length k ≤ 32) (plain : holds_colon k ≡ false) where
  -- what an accepted insertion comes to, at whatever place and count
  placed : (at n : ℕ) → at < 32 → n ≤ 32
      → map named_of (take n (set m.entries at (entry_of k v))) ≡ entered k v (configured m).entries
      → drop n (set m.entries at (entry_of k v)) ≡ replicate (32 - n) blank_entry
      → refuses k (configured m) ≡ false
      → Means (with_entry k v (configured m)) (record { entries = set m.entries at (entry_of k v); count = n; default_style = m.default_style })
  placed at n h f a rest r =
      record {
        sound =
            record {
              wide = length-set m.entries at (entry_of k v) ∙ s.wide;
              within = f;
              tidy = tidy_set m.entries at (entry_of k v) (omega arith) (tidy_entry k v short plain) s.tidy;
              rest = rest;
              names = rw a (once_entered k v (configured m).entries s.names);
            };
        means = rw r (λ i. record { entries = a i; default = m.default_style });
      }

  -- at the place of a known name
  stored_known : place k (configured m).entries < m.count → Means (with_entry k v (configured m)) (stored m (place k (configured m).entries) (entry_of k v))
  stored_known h =
      let at : ℕ = place k (configured m).entries in
      let es : List Named = (configured m).entries in
      let l : length es ≡ m.count = length_configured m s in
      let a : map named_of (take m.count (set m.entries at (entry_of k v))) ≡ entered k v es =
      rw (take-set-lt m.count m.entries at (entry_of k v) h, map_set named_of (take m.count m.entries) at (entry_of k v), named_entry k v)
      (sym ((entered_place k v es).0 (omega arith))) in
      let r : refuses k (configured m) ≡ false = accepts_known k (configured m) short plain ((known_place k es).0 (omega arith)) in
      rw (ne_eqb at m.count (λ e. omega arith))
      (placed at m.count (omega arith) s.within a (rest_known m.entries m.count at (entry_of k v) h s.rest) r)

  -- after the last entry
  stored_new : place k (configured m).entries ≡ m.count → m.count < 32 → Means (with_entry k v (configured m)) (stored m m.count (entry_of k v))
  stored_new h f =
      let es : List Named = (configured m).entries in
      let l : length es ≡ m.count = length_configured m s in
      let a : map named_of (take (m.count + 1) (set m.entries m.count (entry_of k v))) ≡ entered k v es =
      rw (add-one m.count, take-suc-set m.entries m.count (entry_of k v) (omega arith), map-append named_of (take m.count m.entries) (entry_of k v ∷ []), named_entry k v)
      (sym ((entered_place k v es).1 (omega arith))) in
      let r : refuses k (configured m) ≡ false = accepts_new k (configured m) short plain ((known_place k es).1 (omega arith)) (omega arith) in
      rw (eq-eqb m.count m.count refl)
      (placed m.count (m.count + 1) f (omega arith) a (rest_new m.entries m.count (entry_of k v) f s.rest) r)

  -- a name with a place among the 32 is accepted
  pub accepted : place k (configured m).entries < 32 → Means (with_entry k v (configured m)) (stored m (place k (configured m).entries) (entry_of k v))
  accepted h =
      elim (dec_lt (place k (configured m).entries) m.count) [
        | yes p ↦ stored_known p
        | no p ↦
            let e : place k (configured m).entries ≡ m.count = omega (arith, place_le k (configured m).entries, length_configured m s) in
            rw e (stored_new e (omega arith))
      ]

-- a name without a place among the 32 is refused
pub full : (m : StyleConfigMap) → Sound m → (k : List ℕ) → 32 ≤ place k (configured m).entries → refuses k (configured m) ≡ true
full m s k h =
    let es : List Named = (configured m).entries in
    let l : length es ≡ m.count = length_configured m s in
    refuses_full k (configured m) ((known_place k es).1 (omega arith)) (omega (arith, place_le k es))

-- a refused entry leaves the map as it was
pub refused : (m : StyleConfigMap) → Sound m → (k : List ℕ) (v : StyleConfig) → refuses k (configured m) ≡ true → Means (with_entry k v (configured m)) m
refused m s k v r = record { sound = s; means = rw r }

-- a place among the 32 is that of a name which is not refused
pub not_refused : (m : StyleConfigMap) → Sound m → (k : List ℕ) → length k ≤ 32 → holds_colon k ≡ false → place k (configured m).entries < 32
    → refuses k (configured m) ≡ false
not_refused m s k short plain h =
    let es : List Named = (configured m).entries in
    let l : length es ≡ m.count = length_configured m s in
    elim (dec_lt (place k es) (length es)) [
      | yes p ↦ accepts_known k (configured m) short plain ((known_place k es).0 p)
      | no p ↦ accepts_new k (configured m) short plain ((known_place k es).1 (omega arith)) (omega (arith, place_le k es))
    ]
