-- Names that are held: one more put behind the others, and a key or a word looked for among them.
use Rattle.std.specs.Prelude.{Option, Some, None, MatchOption, is_some}
use mathlib.Core.Path.{◌≡◌, refl, sym, ap, ap₂, ◌∙◌}
use mathlib.Core.Bool.{Bool, true, false, cond}
use mathlib.Core.List.{List, [], ◌∷◌, ◌++◌, append_assoc}
use Prim.Native.Nat.{ℕ, zero, suc, ◌+◌, ◌-◌, ◌*◌, ◌≤◌, ◌<◌}
use native.Mathlib.Decide.{ℕ_discrete}
use native.Mathlib.Numerals.{add-one}
use native.Mathlib.Omega.{arith}
use lib.Dec.{ltb, eqb}
use lib.ListN.{length, get_or, take, drop, set, length-append, length-drop, length-set, take-append-drop, replicate}
use lib.Seq.{take-append-le, drop-append-le, take_at, drop_at, length-take-le, get_or-set_same, get_or-set_other}
use borrow.Author.Tests.{eq-eqb, ne_eqb, lt-ltb, le-ltb}
use Rattle.text.specs.Bytes.{same_of}
use Rattle.text.specs.Number.{put}
use Rattle.laws.proofs.Lists.{get_d_blank}
use Rattle.key_names.specs.declared.Names.{Names}
use Rattle.key_names.specs.Names.{Named, is_name, key_text, is_named, key_named, listed, held_in, names_of, with_name, Good, AllGood, Formed, place_of}
use Rattle.key_names.proofs.Spelled.{Sized, name_sized}

-- ---- things listed by their numbers
pub length_listed : {A : Type 0} (f : ℕ → A) (i n : ℕ) → length (listed f i n) ≡ n
length_listed f i zero = refl
length_listed f i (suc n) = ap suc (length_listed f (suc i) n)

listed_snoc : {A : Type 0} (f : ℕ → A) (i n : ℕ) → listed f i (suc n) ≡ listed f i n ++ (f (i + n) ∷ [])
listed_snoc f i zero = let e : i ≡ i + 0 = omega arith in ap (λ (k : ℕ). f k ∷ []) e
listed_snoc {A} f i (suc n) =
    let e : suc i + n ≡ i + suc n = omega arith in
    ap (λ (l : List A). f i ∷ l) (listed_snoc f (suc i) n ∙ ap (λ (k : ℕ). listed f (suc i) n ++ (f k ∷ [])) e)

listed_same : {A : Type 0} (f g : ℕ → A) (i n : ℕ) → ((k : ℕ) → k < i + n → f k ≡ g k) → listed f i n ≡ listed g i n
listed_same f g i zero h = refl
listed_same {A} f g i (suc n) h =
    ap₂ (λ (x : A) (l : List A). x ∷ l) (h i (omega arith)) (listed_same f g (suc i) n (λ k l. h k (omega arith)))

listed_at : {A : Type 0} (f : ℕ → A) (i n k : ℕ) (d : A) → k < n → get_or (listed f i n) k d ≡ f (i + k)
listed_at f i zero k d h = absurd (omega arith)
listed_at f i (suc n) zero d h = let e : i ≡ i + 0 = omega arith in ap f e
listed_at f i (suc n) (suc k) d h = let e : suc i + k ≡ i + suc k = omega arith in listed_at f (suc i) n k d (omega arith) ∙ ap f e

-- those from i on, of n in all
listed_from : {A : Type 0} (f : ℕ → A) (i n : ℕ) → i < n → listed f i (n - i) ≡ f i ∷ listed f (i + 1) (n - (i + 1))
listed_from f i n h = let e : n - i ≡ suc (n - (i + 1)) = omega arith in rw e (rw (add-one i))

listed_past : {A : Type 0} (f : ℕ → A) (i n : ℕ) → n ≤ i → listed f i (n - i) ≡ []
listed_past f i n h = let e : n - i ≡ 0 = omega arith in rw e

-- ---- a text put behind others leaves them
front_kept : (p q : List ℕ) (m n : ℕ) → m + n ≤ length p → take n (drop m (p ++ q)) ≡ take n (drop m p)
front_kept p q m n h = ap (take n) (drop-append-le m p q (omega arith)) ∙ take-append-le n (drop m p) q (omega (arith, length-drop m p))

module _ (d : List ℕ) (at : ℕ) (s : List ℕ) (room : at + length s ≤ length d) where
  length_front : length (take at d) ≡ at
  length_front = length-take-le at d (omega arith)

  put_front : (m n : ℕ) → m + n ≤ at → take n (drop m (put d at s)) ≡ take n (drop m d)
  put_front m n h =
      ap (λ (l : List ℕ). take n (drop m l)) (append_assoc (take at d) s (drop (at + length s) d))
      ∙ front_kept (take at d) (s ++ drop (at + length s) d) m n (omega (arith, length_front))
      ∙ sym (front_kept (take at d) (drop at d) m n (omega (arith, length_front)))
      ∙ ap (λ (l : List ℕ). take n (drop m l)) (take-append-drop at d)

  put_there : take (length s) (drop at (put d at s)) ≡ s
  put_there =
      ap (λ (l : List ℕ). take (length s) (drop at l)) (append_assoc (take at d) s (drop (at + length s) d))
      ∙ ap (take (length s)) (drop_at (take at d) (s ++ drop (at + length s) d) at length_front)
      ∙ take_at s (drop (at + length s) d) (length s) refl

  length_put : length (put d at s) ≡ length d
  length_put = omega (arith, length-append (take at d ++ s) (drop (at + length s) d), length-append (take at d) s, length_front, length-drop (at + length s) d)

-- ---- one name more
good_append : (bs : List Named) (b : Named) → AllGood bs → Good b → AllGood (bs ++ (b ∷ []))
unfolding AllGood
good_append [] b h g = (g, tt)
good_append (a ∷ bs) b h g = (h.0, good_append bs b h.1 g)

module _ (ns : Names) (f : Formed ns) (key : ℕ) (name : List ℕ) (room : ns.count < 64) (small : key < 65536) (good : is_name name ≡ true) where
  abbrev more : Names
  more = record { count = ns.count + 1; keys = set ns.keys ns.count key; lens = set ns.lens ns.count (length name); texts = put ns.texts (ns.count * 24) name }

  sized : Sized name
  sized = name_sized name good

  pub with_room : ns.count * 24 + length name ≤ length ns.texts
  with_room = omega (arith, f.texts_1536, sized.most)

  kept : (k : ℕ) → k < 0 + ns.count → held_in more.keys more.lens more.texts k ≡ held_in ns.keys ns.lens ns.texts k
  kept k h =
      let d : k ≡ ns.count → ⊥ = λ e. omega arith in
      let l = get_or-set_other ns.lens ns.count k (length name) 0 d in
      ap₂ (λ (a : ℕ) (s : List ℕ). record { key = a; name = s }) (get_or-set_other ns.keys ns.count k key 0 d)
      (ap (λ (n : ℕ). take n (drop (k * 24) (put ns.texts (ns.count * 24) name))) l
      ∙ put_front ns.texts (ns.count * 24) name with_room (k * 24) (get_or ns.lens k 0) (omega (arith, f.short k)))

  new : held_in more.keys more.lens more.texts ns.count ≡ record { key = key; name = name }
  new =
      let l = get_or-set_same ns.lens ns.count (length name) 0 (omega (arith, f.lens_64)) in
      ap₂ (λ (a : ℕ) (s : List ℕ). record { key = a; name = s }) (get_or-set_same ns.keys ns.count key 0 (omega (arith, f.keys_64)))
      (ap (λ (n : ℕ). take n (drop (ns.count * 24) (put ns.texts (ns.count * 24) name))) l
      ∙ put_there ns.texts (ns.count * 24) name with_room)

  pub with_names : names_of more ≡ with_name (names_of ns) key name
  unfolding names_of
  with_names =
      let g : ℕ → Named = held_in more.keys more.lens more.texts in
      let z : 0 + ns.count ≡ ns.count = omega arith in
      ap (listed g 0) (add-one ns.count)
      ∙ listed_snoc g 0 ns.count
      ∙ ap (λ (k : ℕ). listed g 0 ns.count ++ (g k ∷ [])) z
      ∙ ap₂ (λ (bs : List Named) (a : Named). bs ++ (a ∷ [])) (listed_same g (held_in ns.keys ns.lens ns.texts) 0 ns.count kept) new

  short : (k : ℕ) → get_or more.lens k 0 ≤ 24
  short k =
      elim (ℕ_discrete k ns.count) [
        | yes e ↦ rw e (omega (arith, get_or-set_same ns.lens ns.count (length name) 0 (omega (arith, f.lens_64)), sized.most))
        | no e ↦ omega (arith, get_or-set_other ns.lens ns.count k (length name) 0 e, f.short k)
      ]

  pub with_formed : Formed more
  with_formed = record {
    few = omega arith;
    keys_64 = length-set ns.keys ns.count key ∙ f.keys_64;
    lens_64 = length-set ns.lens ns.count (length name) ∙ f.lens_64;
    texts_1536 = length_put ns.texts (ns.count * 24) name with_room ∙ f.texts_1536;
    short = short;
    good = rw with_names (good_append (names_of ns) (record { key = key; name = name }) f.good (record { key_most = omega arith; good_name = good }));
  }

  pub with_all : (texts : List ℕ) → texts ≡ put ns.texts (ns.count * 24) name
      → (let r : Names = record { count = ns.count + 1; keys = set ns.keys ns.count key; lens = set ns.lens ns.count (length name); texts = texts } in
      Formed r × (r.count ≡ ns.count + 1) × (names_of r ≡ with_name (names_of ns) key name))
  with_all texts e = rw e (with_formed, refl, with_names)

-- no names
pub none_held : (let r : Names = record { count = 0; keys = replicate 64 0; lens = replicate 64 0; texts = replicate 1536 0 } in (names_of r ≡ []) × (r.count ≡ 0) × Formed r)
unfolding names_of AllGood
none_held =
    (refl, refl, record { few = omega arith; keys_64 = refl; lens_64 = refl; texts_1536 = refl; short = λ i. omega (arith, get_d_blank {A = ℕ} 0 64 i); good = tt })

-- ---- a key looked for
pub key_start : (f : ℕ → Named) (n key : ℕ) → place_of (listed f 0 n) key ≡ 0 + place_of (listed f 0 (n - 0)) key
key_start f n key = let e : n - 0 ≡ n = omega arith in rw e (omega arith)

module _ (f : ℕ → Named) (n key i : ℕ) (inv : place_of (listed f 0 n) key ≡ i + place_of (listed f i (n - i)) key) where
  module _ (h : i < n) where
    next : place_of (listed f 0 n) key ≡ i + cond (eqb (f i).key key) 0 (suc (place_of (listed f (i + 1) (n - (i + 1))) key))
    unfolding place_of
    next = inv ∙ ap (λ (l : List Named). i + place_of l key) (listed_from f i n h)

    pub key_here : (f i).key ≡ key → i ≡ place_of (listed f 0 n) key
    key_here e = omega (arith, next ∙ ap (λ (b : Bool). i + cond b 0 (suc (place_of (listed f (i + 1) (n - (i + 1))) key))) (eq-eqb (f i).key key e))

    pub key_on : ((f i).key ≡ key → ⊥) → place_of (listed f 0 n) key ≡ i + 1 + place_of (listed f (i + 1) (n - (i + 1))) key
    key_on e = omega (arith, next ∙ ap (λ (b : Bool). i + cond b 0 (suc (place_of (listed f (i + 1) (n - (i + 1))) key))) (ne_eqb (f i).key key e))

  pub key_none : n ≤ i → i ≡ place_of (listed f 0 n) key
  unfolding place_of
  key_none h = omega (arith, inv ∙ ap (λ (l : List Named). i + place_of l key) (listed_past f i n h))

-- what a place says
abbrev nothing : Named
nothing = record { key = 0; name = [] }

text_at : (ns : List Named) (key : ℕ) → place_of ns key < length ns → key_text ns key ≡ (get_or ns (place_of ns key) nothing).name
unfolding key_text place_of
text_at [] key h = absurd (omega arith)
text_at (a ∷ bs) key h = by (eqb a.key key) (text_at bs key) h where
  by : (b : Bool) → (place_of bs key < length bs → key_text bs key ≡ (get_or bs (place_of bs key) nothing).name)
      → cond b 0 (suc (place_of bs key)) < suc (length bs) → cond b a.name (key_text bs key) ≡ (get_or (a ∷ bs) (cond b 0 (suc (place_of bs key))) nothing).name
  by true r l = refl
  by false r l = r (omega arith)

text_none : (ns : List Named) (key : ℕ) → length ns ≤ place_of ns key → key_text ns key ≡ key_text [] key
unfolding key_text place_of
text_none [] key h = refl
text_none (a ∷ bs) key h = by (eqb a.key key) (text_none bs key) h where
  by : (b : Bool) → (length bs ≤ place_of bs key → key_text bs key ≡ key_text [] key) → suc (length bs) ≤ cond b 0 (suc (place_of bs key)) → cond b a.name (key_text bs key) ≡ key_text [] key
  by true r l = absurd (omega arith)
  by false r l = r (omega arith)

named_by : (ns : List Named) (key : ℕ) → is_named ns key ≡ ltb (place_of ns key) (length ns)
unfolding is_named place_of
named_by [] key = refl
named_by (a ∷ bs) key =
    elim (ℕ_discrete a.key key) [
      | yes e ↦ rw (eq-eqb a.key key e) (sym (lt-ltb 0 (suc (length bs)) (omega arith)))
      | no e ↦ rw (ne_eqb a.key key e) (named_by bs key ∙ sym (lib.Dec.leb-suc-suc (suc (place_of bs key)) (length bs)))
    ]

module _ (ns : Names) (key place : ℕ) (at : place ≡ place_of (names_of ns) key) where
  length_names : length (names_of ns) ≡ ns.count
  unfolding names_of
  length_names = length_listed (held_in ns.keys ns.lens ns.texts) 0 ns.count

  pub called_by : place < ns.count → (held_in ns.keys ns.lens ns.texts place).name ≡ key_text (names_of ns) key
  unfolding names_of
  called_by h =
      let z : 0 + place ≡ place = omega arith in
      sym (text_at (names_of ns) key (omega (arith, length_names))
      ∙ ap (λ (k : ℕ). (get_or (names_of ns) k nothing).name) (sym at)
      ∙ ap (λ (a : Named). a.name) (listed_at (held_in ns.keys ns.lens ns.texts) 0 ns.count place nothing h ∙ ap (held_in ns.keys ns.lens ns.texts) z))

  pub called_none : ns.count ≤ place → key_text [] key ≡ key_text (names_of ns) key
  called_none h = sym (text_none (names_of ns) key (omega (arith, length_names)))

  pub named_place : ltb place ns.count ≡ is_named (names_of ns) key
  named_place = ap₂ ltb at (sym length_names) ∙ sym (named_by (names_of ns) key)

-- a key has a name where it has a place among them
pub named_where : (ns : Names) (key : ℕ) (r : Option ℕ) → MatchOption r (place_of (names_of ns) key ≡ ns.count) (λ i. (i ≡ place_of (names_of ns) key) × (i < ns.count)) → is_some r ≡ is_named (names_of ns) key
named_where ns key None e = sym (le-ltb (place_of (names_of ns) key) ns.count (omega arith)) ∙ named_place ns key (place_of (names_of ns) key) refl
named_where ns key (Some i) e = sym (lt-ltb i ns.count e.1) ∙ named_place ns key i e.0

-- ---- a word looked for
pub word_start : (f : ℕ → Named) (n : ℕ) (word : List ℕ) → key_named (listed f 0 (n - 0)) word ≡ key_named (listed f 0 n) word
word_start f n word = let e : n - 0 ≡ n = omega arith in rw e

module _ (f : ℕ → Named) (n : ℕ) (word : List ℕ) (i : ℕ) (inv : key_named (listed f i (n - i)) word ≡ key_named (listed f 0 n) word) where
  module _ (h : i < n) where
    step : key_named (listed f 0 n) word ≡ cond (same_of (f i).name word) (f i).key (key_named (listed f (i + 1) (n - (i + 1))) word)
    unfolding key_named
    step = sym inv ∙ ap (λ (l : List Named). key_named l word) (listed_from f i n h)

    pub word_here : same_of (f i).name word ≡ true → (f i).key ≡ key_named (listed f 0 n) word
    word_here e = sym (step ∙ ap (λ (b : Bool). cond b (f i).key (key_named (listed f (i + 1) (n - (i + 1))) word)) e)

    pub word_on : same_of (f i).name word ≡ false → key_named (listed f (i + 1) (n - (i + 1))) word ≡ key_named (listed f 0 n) word
    word_on e = sym (step ∙ ap (λ (b : Bool). cond b (f i).key (key_named (listed f (i + 1) (n - (i + 1))) word)) e)

  pub word_none : n ≤ i → 65536 ≡ key_named (listed f 0 n) word
  unfolding key_named
  word_none h = sym (ap (λ (l : List Named). key_named l word) (listed_past f i n h)) ∙ inv
