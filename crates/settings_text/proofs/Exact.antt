-- One set of pairs, one text: a text is accepted only where it is the text of the pairs that it says, and every such text is.
use mathlib.Core.Path.{◌≡◌, refl, sym, ap, ap₂, ◌∙◌}
use mathlib.Core.Bool.{Bool, true, false}
use mathlib.Core.List.{List, [], ◌∷◌, ◌++◌, append_assoc, append-nil}
use Prim.Native.Nat.{ℕ, zero, suc, ◌+◌, ◌*◌, ◌≤◌}
use native.Mathlib.Omega.{arith}
use lib.ListN.{length}
use Rattle.text.specs.Bytes.{bytes, holds}
use Rattle.text.proofs.Finding.{held_past}
use Rattle.text_lines.specs.Lines.{Got, bad, got, then, ended, number_line, number_text}
use Rattle.text_lines.proofs.Laws.{number_only, number_back}
use Rattle.text_lines.proofs.Then.{then_got, ended_got, Stopped, at_first, later, then_bad, number_bad, got_inj, number_then}
use Rattle.tanks.specs.declared.Setting.{Setting}
use Rattle.settings_text.specs.Text.{share_name, limit_name, version_name, pair_text, pairs_text, settings_text, least_limit, pair_lines, ahead, pairs_lines, settings_of, InRange, AllInRange}

ahead_got : (xs : List Setting) (g : Got (List Setting)) (st : List Setting) (m : ℕ) (rest : List ℕ) → ahead xs g ≡ got st m rest → (ys : List Setting) × (g ≡ got ys m rest) × (st ≡ xs ++ ys)
ahead_got xs (bad n) st m rest e = let z : ◌≡◌ {A = ℕ} 0 1 = cc in absurd (omega arith)
ahead_got xs (got ys n t) st m rest e =
    let k : n ≡ m = cc in
    let r : t ≡ rest = cc in
    (ys, ap₂ (λ (j : ℕ) (x : List ℕ). got ys j x) k r, cc)

-- ---- Accepted text is the text of its pairs
least_one : (o : Bool) (s : ℕ) → 1 ≤ s → 1 ≤ least_limit o s
least_one true s h = h
least_one false s h = omega arith

pub pair_only : (o : Bool) (t n : ℕ) (text : List ℕ) (s : Setting) (m : ℕ) (rest : List ℕ) → pair_lines o t n text ≡ got s m rest
    → (text ≡ pair_text t s ++ rest) × InRange s × (m ≡ n + 2) × (least_limit o s.share ≤ s.limit)
unfolding pair_lines
pair_only o t n text s m rest e =
    let a = number_then (share_name t) 1 512 n text (λ v n x. then (number_line (limit_name t) (least_limit o v) 512 n x) λ l n x. got (record { share = v; limit = l }) n x) s m rest e in
    let b = number_then (limit_name t) (least_limit o a.value) 512 (n + 1) a.text (λ l n x. got (record { share = a.value; limit = l }) n x) s m rest a.second in
    let i = got_inj (record { share = a.value; limit = b.value }) s (n + 1 + 1) m b.text rest b.second in
    rw (← i.0) (
      a.is
          ∙ ap (λ (l : List ℕ). number_text (share_name t) a.value ++ l) (b.is ∙ ap (λ (l : List ℕ). number_text (limit_name t) b.value ++ l) i.2)
          ∙ sym (append_assoc (number_text (share_name t) a.value) (number_text (limit_name t) b.value) rest),
      record { share_least = a.low; share_most = a.high; limit_least = omega (arith, b.low, least_one o a.value a.low); limit_most = b.high },
      omega (arith, i.1),
      b.low,
    )

-- each limit is at least its share, where that is asked
unfoldable pub AllOrdered : Bool → List Setting → Type 0
AllOrdered o [] = Unit {0}
AllOrdered o (s ∷ st) = (least_limit o s.share ≤ s.limit) × AllOrdered o st

pub record PairsRead (o : Bool) (k t : ℕ) (text : List ℕ) (st : List Setting) (rest : List ℕ) : Type 0 where
  pub is : text ≡ pairs_text t st ++ rest
  pub range : AllInRange st
  pub count : length st ≡ k
  pub ordered : AllOrdered o st

pub pairs_only : (o : Bool) (k t n : ℕ) (text : List ℕ) (st : List Setting) (m : ℕ) (rest : List ℕ) → pairs_lines o t k n text ≡ got st m rest → PairsRead o k t text st rest
unfolding pairs_lines pairs_text AllInRange AllOrdered
pairs_only o zero t n text st m rest e =
    let i = got_inj [] st n m text rest e in
    rw (← i.0) record { is = i.2; range = tt; count = refl; ordered = tt }
pairs_only o (suc k) t n text st m rest e =
    let a = then_got (pair_lines o t n text) (λ s n x. ahead (s ∷ []) (pairs_lines o (suc t) k n x)) st m rest e in
    let p = pair_only o t n text a.value a.lines a.text a.first in
    let b = ahead_got (a.value ∷ []) (pairs_lines o (suc t) k a.lines a.text) st m rest a.second in
    let q = pairs_only o k (suc t) a.lines a.text b.0 m rest b.1 in
    rw b.2
    record {
      is = p.0 ∙ ap (λ (l : List ℕ). pair_text t a.value ++ l) q.is ∙ sym (append_assoc (pair_text t a.value) (pairs_text (suc t) b.0) rest);
      range = (p.1, q.range);
      count = ap suc q.count;
      ordered = (p.3, q.ordered);
    }

-- what is known of an accepted text
pub record Accepted (text : List ℕ) (st : List Setting) : Type 0 where
  pub is : text ≡ settings_text st
  pub eight : length st ≡ 8
  pub range : AllInRange st

pub accepted_only : (text : List ℕ) (st : List Setting) (m : ℕ) (rest : List ℕ) → settings_of text ≡ got st m rest → Accepted text st
unfolding settings_of settings_text
accepted_only text st m rest e =
    let a = then_got (number_line version_name 1 1 0 text) (λ v n x. then (pairs_lines false 0 8 n x) λ st n x. ended st n x) st m rest e in
    let b = then_got (pairs_lines false 0 8 a.lines a.text) (λ st n x. ended st n x) st m rest a.second in
    let x = number_only version_name 1 1 0 text a.value a.lines a.text a.first in
    let q = pairs_only false 8 0 a.lines a.text b.value b.lines b.text b.first in
    let d = ended_got b.value b.lines b.text st m rest b.second in
    let one : a.value ≡ 1 = omega (arith, x.low, x.high) in
    rw (← d.0)
    record {
      is = x.is
          ∙ ap₂ (λ (v : ℕ) (l : List ℕ). number_text version_name v ++ l) one (q.is ∙ ap (λ (l : List ℕ). pairs_text 0 b.value ++ l) d.1 ∙ append-nil (pairs_text 0 b.value));
      eight = q.count;
      range = q.range;
    }

-- ---- The text of eight pairs is accepted
none_first : (c : ℕ) (cs : List ℕ) → (c ≡ 10 → ⊥) → holds 10 cs ≡ false → holds 10 (c ∷ cs) ≡ false
none_first c cs h e = held_past 10 c cs h ∙ e

digit_free : (t : ℕ) → holds 10 ((48 + t) ∷ bytes "=") ≡ false
unfolding holds
digit_free t = none_first (48 + t) (bytes "=") (λ z. omega arith) refl

word_free : (a b c d e : ℕ) (cs : List ℕ) → (a ≡ 10 → ⊥) → (b ≡ 10 → ⊥) → (c ≡ 10 → ⊥) → (d ≡ 10 → ⊥) → (e ≡ 10 → ⊥) → holds 10 cs ≡ false → holds 10 (a ∷ b ∷ c ∷ d ∷ e ∷ cs) ≡ false
word_free a b c d e cs p q r s t h =
    none_first a (b ∷ c ∷ d ∷ e ∷ cs) p (none_first b (c ∷ d ∷ e ∷ cs) q (none_first c (d ∷ e ∷ cs) r (none_first d (e ∷ cs) s (none_first e cs t h))))

share_free : (t : ℕ) → holds 10 (share_name t) ≡ false
share_free t = word_free 115 104 97 114 101 ((48 + t) ∷ bytes "=") (λ z. omega arith) (λ z. omega arith) (λ z. omega arith) (λ z. omega arith) (λ z. omega arith) (digit_free t)

limit_free : (t : ℕ) → holds 10 (limit_name t) ≡ false
limit_free t = word_free 108 105 109 105 116 ((48 + t) ∷ bytes "=") (λ z. omega arith) (λ z. omega arith) (λ z. omega arith) (λ z. omega arith) (λ z. omega arith) (digit_free t)

pub pair_back : (o : Bool) (t n : ℕ) (s : Setting) (rest : List ℕ) → InRange s → least_limit o s.share ≤ s.limit → pair_lines o t n (pair_text t s ++ rest) ≡ got s (n + 1 + 1) rest
unfolding pair_lines
pair_back o t n s rest r h =
    rw (append_assoc (number_text (share_name t) s.share) (number_text (limit_name t) s.limit) rest)
    (rw (number_back (share_name t) 1 512 n s.share (number_text (limit_name t) s.limit ++ rest) (share_free t) r.share_least r.share_most (omega (arith, r.share_most)))
    (rw (number_back (limit_name t) (least_limit o s.share) 512 (n + 1) s.limit rest (limit_free t) h r.limit_most (omega (arith, r.limit_most)))))

-- the lines of k pairs behind n lines
abbrev pub after_pairs : ℕ → ℕ → ℕ
after_pairs n zero = n
after_pairs n (suc k) = after_pairs (n + 1 + 1) k

pub pairs_back : (o : Bool) (st : List Setting) (t n : ℕ) (rest : List ℕ) → AllInRange st → AllOrdered o st → pairs_lines o t (length st) n (pairs_text t st ++ rest) ≡ got st (after_pairs n (length st)) rest
unfolding pairs_lines pairs_text AllInRange AllOrdered
pairs_back o [] t n rest r h = refl
pairs_back o (s ∷ st) t n rest r h =
    rw (append_assoc (pair_text t s) (pairs_text (suc t) st) rest)
    (rw (pair_back o t n s (pairs_text (suc t) st ++ rest) r.0 h.0)
    (rw (pairs_back o st (suc t) (n + 1 + 1) rest r.1 h.1)))

-- where the limit may be under the share, each pair in range is ordered
in_range_ordered : (st : List Setting) → AllInRange st → AllOrdered false st
unfolding AllInRange AllOrdered
in_range_ordered [] r = tt
in_range_ordered (s ∷ st) r = (r.0.limit_least, in_range_ordered st r.1)

version_free : holds 10 version_name ≡ false
unfolding holds
version_free = refl

pub text_accepted : (st : List Setting) → length st ≡ 8 → AllInRange st → settings_of (settings_text st) ≡ got st 17 []
unfolding settings_of settings_text
text_accepted st e r =
    let q : pairs_lines false 0 8 1 (pairs_text 0 st) ≡ got st 17 [] =
    ap₂ (λ (k : ℕ) (x : List ℕ). pairs_lines false 0 k 1 x) (sym e) (sym (append-nil (pairs_text 0 st))) ∙ pairs_back false st 0 1 [] r (in_range_ordered st r) ∙ ap (λ (k : ℕ). got st (after_pairs 1 k) []) e
    in
    rw (number_back version_name 1 1 0 1 (pairs_text 0 st) version_free (omega arith) (omega arith) (omega arith))
    (rw q)

-- ---- The two promises
-- equal pairs mean equal text
pub equal_pairs : (a b : List ℕ) (st : List Setting) (m n : ℕ) (x y : List ℕ) → settings_of a ≡ got st m x → settings_of b ≡ got st n y → a ≡ b
equal_pairs a b st m n x y e f = (accepted_only a st m x e).is ∙ sym (accepted_only b st n y f).is

-- and accepted text means exactly one set of pairs
pub one_set : (a : List ℕ) (st su : List Setting) (m n : ℕ) (x y : List ℕ) → settings_of a ≡ got st m x → settings_of a ≡ got su n y → st ≡ su
one_set a st su m n x y e f = let g : got st m x ≡ got su n y = sym e ∙ f in cc

-- ---- A wrong line is one of 1 to 18
-- the limit's line, behind the share's
abbrev with_limit : ℕ → ℕ → ℕ → List ℕ → Got Setting
with_limit v l n x = got (record { share = v; limit = l }) n x

abbrev with_share : ℕ → ℕ → ℕ → List ℕ → Got Setting
with_share t v n x = then (number_line (limit_name t) 1 512 n x) (with_limit v)

limit_bad : (t v n : ℕ) (x : List ℕ) (m : ℕ) → Stopped {B = Setting} (number_line (limit_name t) 1 512 n x) (with_limit v) m → m ≡ n + 1
limit_bad t v n x m (at_first h) = number_bad (limit_name t) 1 512 n x m h
limit_bad t v n x m (later l n'' y h i) = let z : ◌≡◌ {A = ℕ} 0 1 = cc in absurd (omega arith)

pair_bad_by : (t n : ℕ) (text : List ℕ) (m : ℕ) → Stopped {B = Setting} (number_line (share_name t) 1 512 n text) (with_share t) m → (n + 1 ≤ m) × (m ≤ n + 2)
pair_bad_by t n text m (at_first f) = let k = number_bad (share_name t) 1 512 n text m f in (omega arith, omega arith)
pair_bad_by t n text m (later v n' x f g) =
    let k = (number_only (share_name t) 1 512 n text v n' x f).lines in
    let j = limit_bad t v n' x m (then_bad (number_line (limit_name t) 1 512 n' x) (with_limit v) m g) in
    (omega arith, omega arith)

pair_bad : (t n : ℕ) (text : List ℕ) (m : ℕ) → pair_lines false t n text ≡ bad m → (n + 1 ≤ m) × (m ≤ n + 2)
unfolding pair_lines
pair_bad t n text m e = pair_bad_by t n text m (then_bad (number_line (share_name t) 1 512 n text) (with_share t) m e)

ahead_bad : (xs : List Setting) (g : Got (List Setting)) (m : ℕ) → ahead xs g ≡ bad m → g ≡ bad m
ahead_bad xs (bad n) m e = e
ahead_bad xs (got ys n t) m e = let z : ◌≡◌ {A = ℕ} 0 1 = cc in absurd (omega arith)

abbrev with_pair : ℕ → ℕ → Setting → ℕ → List ℕ → Got (List Setting)
with_pair t k s n x = ahead (s ∷ []) (pairs_lines false (suc t) k n x)

mutual_bad : (t n k : ℕ) (text : List ℕ) (m : ℕ) → ((n : ℕ) (x : List ℕ) → pairs_lines false (suc t) k n x ≡ bad m → (n + 1 ≤ m) × (m ≤ n + 2 * k))
    → Stopped {B = List Setting} (pair_lines false t n text) (with_pair t k) m → (n + 1 ≤ m) × (m ≤ n + 2 * suc k)
mutual_bad t n k text m rest (at_first f) = let p = pair_bad t n text m f in (omega (arith, p.0), omega (arith, p.1))
mutual_bad t n k text m rest (later s n' x f g) =
    let c = (pair_only false t n text s n' x f).2 in
    let p = rest n' x (ahead_bad (s ∷ []) (pairs_lines false (suc t) k n' x) m g) in
    (omega (arith, p.0), omega (arith, p.1))

pairs_bad : (k t n : ℕ) (text : List ℕ) (m : ℕ) → pairs_lines false t k n text ≡ bad m → (n + 1 ≤ m) × (m ≤ n + 2 * k)
unfolding pairs_lines
pairs_bad zero t n text m e = let z : ◌≡◌ {A = ℕ} 0 1 = cc in absurd (omega arith)
pairs_bad (suc k) t n text m e =
    mutual_bad t n k text m (λ n x f. pairs_bad k (suc t) n x m f) (then_bad (pair_lines false t n text) (with_pair t k) m e)

pairs_lines_count : (k t n : ℕ) (text : List ℕ) (st : List Setting) (m : ℕ) (rest : List ℕ) → pairs_lines false t k n text ≡ got st m rest → m ≡ n + 2 * k
unfolding pairs_lines
pairs_lines_count zero t n text st m rest e = let c : n ≡ m = cc in omega arith
pairs_lines_count (suc k) t n text st m rest e =
    let a = then_got (pair_lines false t n text) (with_pair t k) st m rest e in
    let b = ahead_got (a.value ∷ []) (pairs_lines false (suc t) k a.lines a.text) st m rest a.second in
    omega (arith, (pair_only false t n text a.value a.lines a.text a.first).2, pairs_lines_count k (suc t) a.lines a.text b.0 m rest b.1)

ended_bad : (st : List Setting) (n : ℕ) (x : List ℕ) (m : ℕ) → ended st n x ≡ bad m → m ≡ n + 1
ended_bad st n [] m e = let z : ◌≡◌ {A = ℕ} 0 1 = cc in absurd (omega arith)
ended_bad st n (c ∷ x) m e = cc

abbrev with_pairs : ℕ → ℕ → List ℕ → Got (List Setting)
with_pairs v n x = then (pairs_lines false 0 8 n x) ended

pairs_end_bad : (n : ℕ) (x : List ℕ) (m : ℕ) → Stopped {B = List Setting} (pairs_lines false 0 8 n x) ended m → (n + 1 ≤ m) × (m ≤ n + 17)
pairs_end_bad n x m (at_first f) = let p = pairs_bad 8 0 n x m f in (omega (arith, p.0), omega (arith, p.1))
pairs_end_bad n x m (later st n' y f g) = let c = pairs_lines_count 8 0 n x st n' y f in let d = ended_bad st n' y m g in (omega arith, omega arith)

settings_bad_by : (text : List ℕ) (m : ℕ) → Stopped {B = List Setting} (number_line version_name 1 1 0 text) with_pairs m → (1 ≤ m) × (m ≤ 18)
settings_bad_by text m (at_first f) = let k = number_bad version_name 1 1 0 text m f in (omega arith, omega arith)
settings_bad_by text m (later v n x f g) =
    let k = (number_only version_name 1 1 0 text v n x f).lines in
    let p = pairs_end_bad n x m (then_bad (pairs_lines false 0 8 n x) ended m g) in
    (omega (arith, p.0), omega (arith, p.1))

pub settings_bad : (text : List ℕ) (m : ℕ) → settings_of text ≡ bad m → (1 ≤ m) × (m ≤ 18)
unfolding settings_of
settings_bad text m e = settings_bad_by text m (then_bad (number_line version_name 1 1 0 text) with_pairs m e)
