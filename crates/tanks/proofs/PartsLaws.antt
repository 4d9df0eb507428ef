-- An edit on the parts of a state: what it leaves, put back, is what the edit leaves of the state.
use Prim.Native.Nat.{ℕ, ◌+◌, ◌≤◌, ◌<◌, ◌^◌}
use mathlib.Core.Path.{◌≡◌, refl, sym, ap, ◌∙◌, subst}
use mathlib.Core.Bool.{true, false}
use mathlib.Core.List.{List, []}
use native.Mathlib.Omega.{arith}
use native.Mathlib.Decide.{ℕ_discrete, dec_lt}
use borrow.Author.Tests.{lt-ltb, le-ltb, ne_eqb}
use lib.ListN.{length, get_or, set, take, replicate, length-set}
use lib.Seq.{get_or-set_same, get_or-set_other, ext_get_or}
use Rattle.laws.proofs.Lists.{stored}
use Rattle.std.specs.Prelude.{Ok, Err}
use Rattle.refusal.specs.declared.Refusal.{Refusal}
use Rattle.refusal.specs.Numbers.{number_of}
use Rattle.styles.specs.Answers.{styles_of}
use Rattle.styles.specs.Bits.{pick}
use Rattle.styles.proofs.UnionLaws.{pick_none}
use Rattle.tank.specs.declared.Tank.{Tank}
use Rattle.tank.specs.declared.lent.Outline.{Outline}
use Rattle.tank.specs.Rules.{View, fresh_view, Edit, first_refusal, made_by}
use Rattle.tank.specs.State.{table_of, view, Called}
use Rattle.tank.specs.Lending.{Leaving, tank_on, tank_made, tank_left}
use Rattle.tank.proofs.Unique.{tank_eq}
use Rattle.tanks.specs.declared.Setting.{Setting}
use Rattle.tanks.specs.declared.Head.{Head}
use Rattle.tanks.specs.declared.Run.{Run}
use Rattle.tanks.specs.declared.Parts.{Parts}
use Rattle.tanks.specs.declared.Table.{Table}
use Rattle.tanks.specs.declared.Tanks.{Tanks}
use Rattle.tanks.specs.Settings.{share_of, judgement}
use Rattle.tanks.specs.House.{share_number, with_tank}
use Rattle.tanks.specs.Pool.{no_run, no_head, no_table, runs_in, runs_below, meaning, tank_in, tank_of, head_of, table_in, Sound}
use Rattle.tanks.specs.Promises.{AppliedAt, Parting, parted, coming_to, place_of, PartsOf, PartsOfSome, with_parts, shown_of, done_with, CalledAt, EditsParts, Performed, PerformedAs, PerformsOn, DoneAt}
use Rattle.tanks.proofs.Put.{puts}
use Rattle.tanks.proofs.SettingLaws.{TakenOut, taken}
use Rattle.tanks.proofs.SliceLaws.{own_stored}
use Rattle.tanks.proofs.MeaningLaws.{tank_at_lem, tanks_length, Tail, tail_refused, tail_done}
use Rattle.tanks.proofs.CallLaws.{own_by, called_by, called_past}
use Rattle.tanks.proofs.AnswerLaws.{done_refused, done_by}

-- ---- places
pub place_in : (t : ℕ) → t < 8 → place_of t ≡ t
place_in t h = rw (lt-ltb t 8 h)

pub place_past : (t : ℕ) → 8 ≤ t → place_of t ≡ 0
place_past t h = rw (le-ltb t 8 h)

pub place_below : (t : ℕ) → place_of t < 8
place_below t = elim (dec_lt t 8) [ yes h ↦ rw (lt-ltb t 8 h) h | no h ↦ rw (le-ltb t 8 (omega arith)) (omega arith) ]

pub at_place : {s : Tanks} {st : List Setting} {hs : List Head} {pool : List Run} {table : Table} (t : ℕ) → t < 8 → PartsOf s (place_of t) st hs pool table → PartsOf s t st hs pool table
at_place {s} {st} {hs} {pool} {table} t h p = subst (λ (u : ℕ). PartsOf s u st hs pool table) (place_in t h) p

-- ---- what is said of the parts is said of the state
module _ {s : Tanks} {u : ℕ} {st : List Setting} {hs : List Head} {pool : List Run} {table : Table} (p : PartsOf s u st hs pool table) where
  pub on_parts : (P : List Setting → List Head → List Run → Table → Type 0) → P s.settings s.heads s.pool (get_or s.tables u no_table) → P st hs pool table
  on_parts P x =
      subst (λ (z : Table). P st hs pool z) p.table_is
      (subst (λ (z : List Run). P st hs z (get_or s.tables u no_table)) p.pool_is
      (subst (λ (z : List Head). P st z s.pool (get_or s.tables u no_table)) p.heads_are
      (subst (λ (z : List Setting). P z s.heads s.pool (get_or s.tables u no_table)) p.settings_are x)))

  pub on_state : (P : List Setting → List Head → List Run → Table → Type 0) → P st hs pool table → P s.settings s.heads s.pool (get_or s.tables u no_table)
  on_state P x =
      subst (λ (z : List Setting). P z s.heads s.pool (get_or s.tables u no_table)) (sym p.settings_are)
      (subst (λ (z : List Head). P st z s.pool (get_or s.tables u no_table)) (sym p.heads_are)
      (subst (λ (z : List Run). P st hs z (get_or s.tables u no_table)) (sym p.pool_is)
      (subst (λ (z : Table). P st hs pool z) (sym p.table_is) x)))

-- ---- put back as they were
set_own : {A : Type 0} (d : A) (xs : List A) (u : ℕ) → u < length xs → set xs u (get_or xs u d) ≡ xs
set_own d xs u h =
    ext_get_or d (set xs u (get_or xs u d)) xs (length-set xs u (get_or xs u d))
    (λ k _. elim (ℕ_discrete u k) [
      | yes e ↦ subst (λ (j : ℕ). get_or (set xs u (get_or xs u d)) j d ≡ get_or xs j d) e (get_or-set_same xs u (get_or xs u d) d h)
      | no n ↦ get_or-set_other xs u k (get_or xs u d) d (λ e. n (sym e))
    ])

-- the parts of a refused edit
abbrev pub Unchanged : ℕ → List Run → Table → Head → Parting → Type 0
Unchanged v pool table head r = (r.pool ≡ pool) × (r.table ≡ table) × (r.head ≡ head) × (r.number ≡ v) × (r.shown ≡ 0) × (r.first ≡ 0)

with_same : (s : Tanks) (u : ℕ) (r : Parting) → Sound s → u < 8 → r.pool ≡ s.pool → r.table ≡ get_or s.tables u no_table → r.head ≡ get_or s.heads u no_head → with_parts s u r ≡ s
with_same s u r ok h a b c =
    rw (a, b, c, set_own no_table s.tables u (omega (arith, ok.tables_8)), set_own no_head s.heads u (omega (arith, ok.heads_8)))

-- no bits show no marks
shown_none : (s : Tanks) (u : ℕ) (r : Parting) → r.shown ≡ 0 → styles_of (shown_of s u r) ≡ styles_of []
shown_none s u r e = ap styles_of (ap (pick (take (get_or s.heads u no_head).marks (get_or s.tables u no_table).marks)) e ∙ pick_none _)

-- what the code knows of an edit of tank t on parts: the tank taken out, and the verdict
abbrev pub Known : ℕ → Edit → Tank → ℕ → ℕ → ℕ → List Setting → List Head → List Run → Table → Type 0
Known t e x number n v st hs pool table =
    (x ≡ tank_in hs pool table t) × (v ≡ first_refusal (first_refusal number (share_number (made_by e) (share_of st t) (runs_in hs t) n)) (judgement st (runs_in hs) t n))

-- the first refusal stands
pub first_stays : (n x y : ℕ) → 0 < n → n ≡ first_refusal (first_refusal n x) y
first_stays n x y h = let e = ne_eqb n 0 (λ z. omega arith) in rw (e, e) refl

-- a tank put back as it was
same_house : (s : Tanks) (t : ℕ) → t < 8 → with_tank (meaning s) t (view (tank_of s t)) ≡ meaning s
unfolding meaning
same_house s t h =
    ap (λ (vs : List View). record { settings = s.settings; tanks = vs })
    (ap (set (meaning s).tanks t) (sym (tank_at_lem s t h)) ∙ set_own fresh_view (meaning s).tanks t (omega (arith, tanks_length s)))

tail_same : (s : Tanks) (t number : ℕ) (x : Tank) → Sound s → t < 8 → x ≡ tank_of s t → first_refusal number (judgement s.settings (runs_in s.heads) t x.runs) ≡ 0 → Tail s t number x 0 s
tail_same s t number x ok h q z = record { verdict_is = sym z; is = sym (ap (λ (y : Tank). with_tank (meaning s) t (view y)) q ∙ same_house s t h); sound = ok }

-- ---- the runs taken out into lent arrays
-- a head, as the edits on lent arrays have it
abbrev pub outlined : Head → Outline
outlined h = record { touched = h.touched; length = h.length; runs = h.runs; marks = h.marks }

pub lent_tank : (hs : List Head) (pool : List Run) (table : Table) (t : ℕ) → runs_below hs t + runs_in hs t ≤ length pool → runs_in hs t ≤ 514 → {lens sets : List ℕ}
    → lens ≡ stored (λ k. (get_or pool (runs_below hs t + k) no_run).len) (replicate 514 0) (runs_in hs t)
    → sets ≡ stored (λ k. (get_or pool (runs_below hs t + k) no_run).set) (replicate 514 0) (runs_in hs t)
    → tank_on (outlined (get_or hs t no_head)) lens sets table.marks ≡ tank_in hs pool table t
unfolding tank_in
lent_tank hs pool table t inside few {lens} {sets} l k =
    tank_eq (tank_on (outlined (get_or hs t no_head)) lens sets table.marks) (tank_in hs pool table t) refl refl refl refl
    (l ∙ own_stored hs pool t inside (λ (r : Run). r.len) few) (k ∙ own_stored hs pool t inside (λ (r : Run). r.set) few) refl

-- what an edit on them comes to, and where it has changed the tank
abbrev pub outcome : Tank → List ℕ → List ℕ → Leaving → Performed
outcome x lens sets r = record { number = r.number; styles = styles_of (pick (table_of x) r.shown); first = r.first; tank = tank_left x lens sets r }

abbrev pub outcome_made : Tank → List ℕ → List ℕ → Leaving → Performed
outcome_made x lens sets r = record { number = r.number; styles = styles_of (pick (table_of x) r.shown); first = r.first; tank = tank_made x lens sets r }

left_made : (x : Tank) (lens sets : List ℕ) (r : Leaving) → r.changed ≡ true → tank_left x lens sets r ≡ tank_made x lens sets r
left_made x lens sets r c = rw c refl

pub left_same : (x : Tank) (lens sets : List ℕ) (r : Leaving) → r.changed ≡ false → tank_left x lens sets r ≡ x
left_same x lens sets r c = rw c refl

pub performed : {e : Edit} {x : Tank} {lens sets : List ℕ} {r : Leaving} → PerformsOn e x lens sets r → PerformedAs e x (outcome x lens sets r)
performed p = record { called = p.called; styles_are = p.styles_are; first_is = p.first_is }

pub performed_made : {e : Edit} {x : Tank} {lens sets : List ℕ} {r : Leaving} → PerformsOn e x lens sets r → r.changed ≡ true → PerformedAs e x (outcome_made x lens sets r)
performed_made {e} {x} {lens} {sets} {r} p c =
    record { called = subst (λ (y : Tank). Called e x r.number y) (left_made x lens sets r c) p.called; styles_are = p.styles_are; first_is = p.first_is }

-- the verdict, by the runs of the tank that is left
pub known_by : (t : ℕ) (e : Edit) (number : ℕ) (st : List Setting) (hs : List Head) (pool : List Run) (table : Table) {x : Tank} {m n v : ℕ}
    → x ≡ tank_in hs pool table t → m ≡ n → v ≡ first_refusal (first_refusal number (share_number (made_by e) (share_of st t) (runs_in hs t) m)) (judgement st (runs_in hs) t m)
    → Known t e x number n v st hs pool table
known_by t e number st hs pool table {x} {m} {n} {v} q k w =
    (q, subst (λ (i : ℕ). v ≡ first_refusal (first_refusal number (share_number (made_by e) (share_of st t) (runs_in hs t) i)) (judgement st (runs_in hs) t i)) k w)

module _ (s : Tanks) (t : ℕ) (e : Edit) (ok : Sound s) where
  -- no such tank
  pub parts_past : (r : Parting) → 8 ≤ t → Unchanged 1 s.pool (get_or s.tables (place_of t) no_table) (get_or s.heads 0 no_head) r → DoneAt s t e (done_with s (place_of t) r)
  parts_past r h is =
      let z = place_past t h in
      done_refused s t e 1 (done_with s (place_of t) r) (called_past s t e ok h) (omega arith)
      (is.3, shown_none s (place_of t) r is.4, is.5, with_same s (place_of t) r ok (omega (arith, z)) is.0 is.1 (rw z is.2))

  module _ (h : t < 8) (x : Tank) (p : Performed) (performed : PerformedAs e x p) (v : ℕ) (known : Known t e x p.number p.tank.runs v s.settings s.heads s.pool (get_or s.tables t no_table)) where
    own : TakenOut s t x
    unfolding tank_of
    own = taken s ok t x h known.0

    pub parts_refused : (r : Parting) → 0 < v → Unchanged v s.pool (get_or s.tables t no_table) (get_or s.heads t no_head) r → DoneAt s t e (done_with s t r)
    parts_refused r g is =
        done_refused s t e v (done_with s t r)
        (called_by s t e x p.number p.tank v s ok h own performed.called (tail_refused s t (own_by s t e p.number p.tank.runs) p.tank v ok known.1 g)) g
        (is.3, shown_none s t r is.4, is.5, with_same s t r ok h is.0 is.1 is.2)

    pub parts_done : (r : Parting) → v ≡ 0 → r.pool ≡ (puts s t p.tank).pool → r.table ≡ table_in p.tank → r.head ≡ head_of p.tank → r.number ≡ 0 → styles_of (shown_of s t r) ≡ p.styles → r.first ≡ p.first
        → DoneAt s t e (done_with s t r)
    unfolding puts
    parts_done r z a b c n d f =
        let k =
        called_by s t e x p.number p.tank 0 (puts s t p.tank) ok h own performed.called
        (tail_done s t (own_by s t e p.number p.tank.runs) p.tank ok h performed.called.formed (sym known.1 ∙ z)) in
        let same : record { number = 0; styles = p.styles; first = p.first; tanks = puts s t p.tank } ≡ done_with s t r =
        λ i. record { number = sym n i; styles = sym d i; first = sym f i; tanks = record { settings = s.settings; heads = set s.heads t (sym c i); tables = set s.tables t (sym b i); pool = sym a i } } in
        subst (DoneAt s t e) same (done_by s t e x p (puts s t p.tank) h own performed k)

    -- nothing has changed: the parts as they were
    pub parts_same : (r : Parting) → v ≡ 0 → p.tank ≡ x → r.pool ≡ s.pool → r.table ≡ get_or s.tables t no_table → r.head ≡ get_or s.heads t no_head
        → r.number ≡ 0 → styles_of (shown_of s t r) ≡ p.styles → r.first ≡ p.first → DoneAt s t e (done_with s t r)
    parts_same r z q a b c n d f =
        let k =
        called_by s t e x p.number p.tank 0 s ok h own performed.called
        (tail_same s t (own_by s t e p.number p.tank.runs) p.tank ok h (q ∙ own.is) (sym known.1 ∙ z)) in
        rw (n, d, f) (done_by s t e x p (with_parts s t r) h own performed (subst (λ (u : Tanks). CalledAt s t e 0 u) (sym (with_same s t r ok h a b c)) k))

-- ---- a holder of a state: its own parts, and what comes back put where they were
module _ (s : Tanks) (t u : ℕ) (place : u ≡ place_of t) (ok : Sound s) where
  parts_own : PartsOf s (place_of t) s.settings s.heads s.pool (get_or s.tables u no_table)
  parts_own = record { settings_are = refl; heads_are = refl; pool_is = refl; table_is = ap (λ (k : ℕ). get_or s.tables k no_table) (sym place) }

  pub parts_some : PartsOfSome (place_of t) s.settings s.heads s.pool (get_or s.tables u no_table)
  parts_some = record { state = s; sound = ok; parts = parts_own }

  pub parts_back : (e : Edit) (r : Parting) → EditsParts s.settings s.heads s.pool (get_or s.tables u no_table) t e r → DoneAt s t e (done_with s u r)
  parts_back e r edits = subst (λ (k : ℕ). DoneAt s t e (done_with s k r)) (sym place) (edits.done s ok parts_own)

  -- an accepted edit, what it shows by its bits
  pub parts_applied : (e : Edit) (p : Parts) → EditsParts s.settings s.heads s.pool (get_or s.tables u no_table) t e (parted s.heads s.pool (get_or s.tables u no_table) t (Ok p))
      → AppliedAt s t e (record { settings = s.settings; heads = set s.heads u p.head; tables = set s.tables u p.table; pool = p.pool }) (Ok (record { bits = p.shown; first = p.first }))
  parts_applied e p edits =
      let r = parted s.heads s.pool (get_or s.tables u no_table) t (Ok p) in
      record {
        done =
            subst (λ (k : ℕ). DoneAt s t e (record {
              tanks = with_parts s u r;
              number = 0;
              styles = styles_of (pick (take (get_or s.heads k no_head).marks (get_or s.tables k no_table).marks) p.shown);
              first = p.first;
            })) place (parts_back e r edits);
        fits = edits.fits;
      }

  -- where it is refused, the state stays
  pub parts_kept : (e : Edit) (x : Refusal) → EditsParts s.settings s.heads s.pool (get_or s.tables u no_table) t e (parted s.heads s.pool (get_or s.tables u no_table) t (Err x))
      → DoneAt s t e (coming_to s (Err x))
  parts_kept e x edits =
      let r = parted s.heads s.pool (get_or s.tables u no_table) t (Err x) in
      let table : r.table ≡ get_or s.tables (place_of t) no_table = ap (λ (k : ℕ). get_or s.tables k no_table) place in
      let same : done_with s (place_of t) r ≡ coming_to s (Err x) =
      λ i. record { tanks = with_same s (place_of t) r ok (place_below t) refl table refl i; number = number_of x; styles = shown_none s (place_of t) r refl i; first = 0 } in
      subst (DoneAt s t e) same (edits.done s ok parts_own)

  -- bits of the tank's marks are those of a table's
  pub bits_fit : (x : ℕ) → x < 2 ^ (get_or s.heads (place_of t) no_head).marks → ((get_or s.heads u no_head).marks ≤ 64) × (x < 2 ^ (get_or s.heads u no_head).marks)
  unfolding tank_of tank_in
  bits_fit x h = ((ok.each u (omega (arith, place, place_below t))).laid.few, rw place h)

  -- the bits that it shows are those of a table's marks
  pub parts_shown : (e : Edit) (r : Parting) → EditsParts s.settings s.heads s.pool (get_or s.tables u no_table) t e r
      → ((get_or s.heads u no_head).marks ≤ 64) × (r.shown < 2 ^ (get_or s.heads u no_head).marks)
  unfolding tank_of tank_in
  parts_shown e r edits = ((ok.each u (omega (arith, place, place_below t))).laid.few, rw place edits.fits)
