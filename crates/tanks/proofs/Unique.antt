-- One meaning, one state.
use Prim.Native.Nat.{ℕ, zero, suc, ◌+◌, ◌-◌, ◌<◌, ◌^◌}
use mathlib.Core.Path.{◌≡◌, refl, sym, ap, ◌∙◌}
use mathlib.Core.List.{List}
use native.Mathlib.Omega.{arith}
use native.Mathlib.Decide.{dec_lt}
use lib.ListN.{length, length-take, get_or, take}
use lib.Seq.{ext_get_or, get_or-set_same}
use Rattle.runs.specs.Positions.{sum_below}
use Rattle.tanks.specs.declared.Setting.{Setting}
use Rattle.tanks.specs.declared.Head.{Head}
use Rattle.tanks.specs.declared.Run.{Run}
use Rattle.tank.specs.declared.Tank.{Tank}
use Rattle.styles.specs.declared.Identity.{Identity}
use Rattle.styles.specs.declared.Party.{Party}
use Rattle.styles.specs.declared.Styles.{Styles}
use Rattle.styles.specs.Answers.{styles_of}
use Rattle.styles.specs.Bits.{pick}
use Rattle.styles.proofs.AnswerLaws.{styles_inj}
use Rattle.styles.proofs.SameLaws.{pick_inj}
use Rattle.tank.specs.Rules.{fresh_view, Edit, inserting, removing}
use Rattle.tank.proofs.Unique.{same_tank}
use Rattle.std.specs.Prelude.{Result, []}
use Rattle.refusal.specs.declared.Refusal.{Refusal}
use Rattle.refusal.specs.Answers.{number_in, given_or}
use Rattle.refusal.proofs.NumberLaws.{one_answer, positive}
use Rattle.refusal.proofs.NumberLaws as refusals
use Rattle.tanks.specs.declared.Tanks.{Tanks}
use Rattle.tanks.specs.declared.Opened.{Opened}
use Rattle.tanks.specs.declared.Done.{Done}
use Rattle.tanks.specs.declared.Shown.{Shown}
use Rattle.tanks.specs.declared.Parts.{Parts}
use Rattle.tanks.specs.declared.Table.{Table}
use Rattle.tanks.specs.House.{House, inserted_set_at, removed_first_at}
use Rattle.tanks.specs.Pool.{no_head, no_run, no_table, runs_in, runs_below, tank_in, tank_of, head_of, table_in, meaning, Sound}
use Rattle.tanks.specs.Promises.{Parting, Coming, coming_to, coming_by, Fits, AppliedAt, parted, Opens, CalledAt, place_of, PartsOfSome, done_with, EditsParts, DoneAt, Taken}
use Rattle.tanks.proofs.SliceLaws.{array_at}
use Rattle.tanks.proofs.MeaningLaws.{tank_at_lem}
use Rattle.tanks.proofs.CallLaws.{after_refused}
use Rattle.tanks.proofs.PartsLaws.{place_below}

run_eq : (a b : Run) → a.len ≡ b.len → a.set ≡ b.set → a ≡ b
run_eq a b p q = λ i. record { len = p i; set = q i }

-- the tank that holds place k
record Place (hs : List Head) (n k : ℕ) : Type 0 where
  tank : ℕ
  at : ℕ
  below : tank < n
  inside : at < runs_in hs tank
  is : k ≡ runs_below hs tank + at

place : (hs : List Head) (n k : ℕ) → k < runs_below hs n → Place hs n k
unfolding sum_below
place hs zero k h = absurd (omega arith)
place hs (suc n) k h =
    elim (dec_lt k (runs_below hs n)) [
      | yes l ↦ let p = place hs n k l in record { tank = p.tank; at = p.at; below = omega (arith, p.below); inside = p.inside; is = p.is }
      | no l ↦ record { tank = n; at = k - runs_below hs n; below = omega arith; inside = omega arith; is = omega arith }
    ]

module _ (a b : Tanks) (sa : Sound a) (sb : Sound b) (same : (u : ℕ) → u < 8 → tank_of a u ≡ tank_of b u) where
  heads_same : a.heads ≡ b.heads
  unfolding tank_of tank_in
  heads_same =
      ext_get_or no_head a.heads b.heads (sa.heads_8 ∙ sym sb.heads_8)
      (λ u h. ap head_of (same u (omega (arith, sa.heads_8))))

  run_same : (u : ℕ) → u < 8 → (j : ℕ) → j < runs_in a.heads u
      → get_or a.pool (runs_below a.heads u + j) no_run ≡ get_or b.pool (runs_below b.heads u + j) no_run
  unfolding tank_of tank_in
  run_same u h j g =
      let r : runs_in a.heads u ≡ runs_in b.heads u = ap (λ (x : List Head). runs_in x u) heads_same in
      run_eq (get_or a.pool (runs_below a.heads u + j) no_run) (get_or b.pool (runs_below b.heads u + j) no_run)
      (sym (array_at a.heads a.pool u (λ r. r.len) refl j g) ∙ ap (λ (x : Tank). get_or x.lens j 0) (same u h) ∙ array_at b.heads b.pool u (λ r. r.len) refl j (omega arith))
      (sym (array_at a.heads a.pool u (λ r. r.set) refl j g) ∙ ap (λ (x : Tank). get_or x.sets j 0) (same u h) ∙ array_at b.heads b.pool u (λ r. r.set) refl j (omega arith))

  pool_same : a.pool ≡ b.pool
  pool_same =
      ext_get_or no_run a.pool b.pool (sa.pool_512 ∙ sym sb.pool_512)
      (λ k _. elim (dec_lt k (runs_below a.heads 8)) [
        | yes l ↦
            let p = place a.heads 8 k l in
            let q : runs_below a.heads p.tank ≡ runs_below b.heads p.tank = ap (λ (x : List Head). runs_below x p.tank) heads_same in
            let i : runs_below b.heads p.tank + p.at ≡ k = omega (arith, p.is) in
            ap (λ (z : ℕ). get_or a.pool z no_run) p.is ∙ run_same p.tank p.below p.at p.inside ∙ ap (λ (z : ℕ). get_or b.pool z no_run) i
        | no l ↦
            let q : runs_below a.heads 8 ≡ runs_below b.heads 8 = ap (λ (x : List Head). runs_below x 8) heads_same in
            sa.spare k (omega arith) ∙ sym (sb.spare k (omega arith))
      ])

  tables_same : a.tables ≡ b.tables
  unfolding tank_of tank_in
  tables_same =
      ext_get_or no_table a.tables b.tables (sa.tables_8 ∙ sym sb.tables_8)
      (λ u h. ap table_in (same u (omega (arith, sa.tables_8))))

  pub one_state : a.settings ≡ b.settings → a ≡ b
  one_state e = λ i. record { settings = e i; heads = heads_same i; tables = tables_same i; pool = pool_same i }

-- ---- two sound states with one meaning are equal
pub unique : (a b : Tanks) → Sound a → Sound b → meaning a ≡ meaning b → a ≡ b
unfolding meaning
unique a b sa sb e =
    one_state a b sa sb
    (λ u h.
    same_tank (sa.each u h) (sb.each u h)
    (sym (tank_at_lem a u h)
    ∙ ap (λ (x : House). get_or x.tanks u fresh_view) e
    ∙ tank_at_lem b u h))
    (ap (λ (x : House). x.settings) e)

-- ---- so what each public function hands back is settled by its contract
pub one_opening : (st : List Setting) (r r' : Opened) → Opens st r → Opens st r' → r ≡ r'
one_opening st r r' p q =
    let e : r.tanks ≡ r'.tanks = unique r.tanks r'.tanks p.sound q.sound (p.is ∙ sym q.is) in
    let f : r.number ≡ r'.number = p.number_is ∙ sym q.number_is in
    λ i. record { number = f i; tanks = e i }

module _ {s : Tanks} {t : ℕ} {e : Edit} {n n' : ℕ} {x x' : Tanks} (p : CalledAt s t e n x) (q : CalledAt s t e n' x') where
  pub one_number : n ≡ n'
  one_number = p.number_is ∙ sym q.number_is

  pub one_next : x ≡ x'
  one_next = unique x x' p.sound q.sound (p.is ∙ sym q.is)

-- what the code answers of an annotate or a deletion
pub one_edit : (s : Tanks) (t : ℕ) (e : Edit) (r r' : Result Unit Refusal) (x x' : Tanks) → CalledAt s t e (number_in r) x → CalledAt s t e (number_in r') x' → (r ≡ r') × (x ≡ x')
one_edit s t e r r' x x' p q = (one_answer tt r r' (one_number p q) refl, one_next p q)

-- of an insertion
pub one_insert : (s : Tanks) (t : ℕ) (who : Party) (pos len : ℕ) (r r' : Result Styles Refusal) (x x' : Tanks)
    → CalledAt s t (inserting who pos len) (number_in r) x → given_or (styles_of []) r ≡ styles_of (inserted_set_at (meaning s) t who pos len)
    → CalledAt s t (inserting who pos len) (number_in r') x' → given_or (styles_of []) r' ≡ styles_of (inserted_set_at (meaning s) t who pos len) → (r ≡ r') × (x ≡ x')
one_insert s t who pos len r r' x x' p a q b = (one_answer (styles_of []) r r' (one_number p q) (a ∙ sym b), one_next p q)

-- of a removal
pub one_remove : (s : Tanks) (t : ℕ) (id : Identity) (last : ℕ) (r r' : Result ℕ Refusal) (x x' : Tanks)
    → CalledAt s t (removing id last) (number_in r) x → given_or 0 r ≡ removed_first_at (meaning s) t id last
    → CalledAt s t (removing id last) (number_in r') x' → given_or 0 r' ≡ removed_first_at (meaning s) t id last → (r ≡ r') × (x ≡ x')
one_remove s t id last r r' x x' p a q b = (one_answer 0 r r' (one_number p q) (a ∙ sym b), one_next p q)

-- what whichever edit comes to
pub one_coming : (s : Tanks) (t : ℕ) (e : Edit) (r r' : Coming) → DoneAt s t e r → DoneAt s t e r' → r ≡ r'
one_coming s t e r r' p q =
    let f = p.styles_are ∙ sym q.styles_are in
    let g = p.first_is ∙ sym q.first_is in
    λ i. record { number = one_number p.called q.called i; styles = f i; first = g i; tanks = one_next p.called q.called i }

-- what stands for an accepted edit's answer beside a refusal
done_none : Done
done_none = record { styles = styles_of []; first = 0 }

coming_number : (x : Tanks) (r : Result Done Refusal) → (coming_to x r).number ≡ number_in r
coming_number x (Result.Ok d) = refl
coming_number x (Result.Err f) = refl

coming_next : (x : Tanks) (r : Result Done Refusal) → (coming_to x r).tanks ≡ x
coming_next x (Result.Ok d) = refl
coming_next x (Result.Err f) = refl

coming_done : (x : Tanks) (r : Result Done Refusal) → given_or done_none r ≡ record { styles = (coming_to x r).styles; first = (coming_to x r).first }
unfolding done_none
coming_done x (Result.Ok d) = refl
coming_done x (Result.Err f) = refl

-- what the code answers of whichever edit
pub one_done : (s : Tanks) (t : ℕ) (e : Edit) (r r' : Result Done Refusal) (x x' : Tanks) → DoneAt s t e (coming_to x r) → DoneAt s t e (coming_to x' r') → (r ≡ r') × (x ≡ x')
one_done s t e r r' x x' p q =
    let c = one_coming s t e (coming_to x r) (coming_to x' r') p q in
    let number = sym (coming_number x r) ∙ ap (λ (z : Coming). z.number) c ∙ coming_number x' r' in
    let gives = coming_done x r ∙ ap given c ∙ sym (coming_done x' r') in
    (one_answer done_none r r' number gives, sym (coming_next x r) ∙ ap (λ (z : Coming). z.tanks) c ∙ coming_next x' r')
  where
    given : Coming → Done
    given z = record { styles = z.styles; first = z.first }

-- the marks that two bits pick of a tank's table
module _ {s : Tanks} {u : ℕ} (sound : Sound s) (h : u < 8) where
  bits_inj : (a b : ℕ) → a < 2 ^ (get_or s.heads u no_head).marks → b < 2 ^ (get_or s.heads u no_head).marks
      → styles_of (pick (take (get_or s.heads u no_head).marks (get_or s.tables u no_table).marks) a) ≡ styles_of (pick (take (get_or s.heads u no_head).marks (get_or s.tables u no_table).marks) b) → a ≡ b
  unfolding tank_of tank_in
  bits_inj a b f g e =
      let own = (sound.each u h).laid in
      let n = (get_or s.heads u no_head).marks in
      let ms = take n (get_or s.tables u no_table).marks in
      let long : length ms ≡ n = omega (arith, length-take n (get_or s.tables u no_table).marks, own.few, own.table_64) in
      pick_inj ms a b own.sorted (rw long f) (rw long g) (styles_inj _ _ e)

-- the same with the set by its bits
pub one_applied : (s : Tanks) (t : ℕ) (e : Edit) (r r' : Result Shown Refusal) (x x' : Tanks) → Sound s → AppliedAt s t e x r → AppliedAt s t e x' r' → (r ≡ r') × (x ≡ x')
one_applied s t e r r' x x' sound p q =
    let c = one_coming s t e (coming_by s t x r) (coming_by s t x' r') p.done q.done in
    (alike r r' p.fits q.fits c, sym (next_by x r) ∙ ap (λ (z : Coming). z.tanks) c ∙ next_by x' r')
  where
    next_by : (y : Tanks) (a : Result Shown Refusal) → (coming_by s t y a).tanks ≡ y
    next_by y (Result.Ok d) = refl
    next_by y (Result.Err f) = refl

    alike : (a b : Result Shown Refusal) → Fits s t a → Fits s t b → coming_by s t x a ≡ coming_by s t x' b → a ≡ b
    alike (Result.Ok a) (Result.Ok b) f g c =
        let bits = bits_inj {s = s} {u = place_of t} sound (place_below t) a.bits b.bits f g (ap (λ (z : Coming). z.styles) c) in
        let first = ap (λ (z : Coming). z.first) c in
        ap Result.Ok (λ i. record { bits = bits i; first = first i })
    alike (Result.Ok a) (Result.Err b) f g c = let n = ap (λ (z : Coming). z.number) c in absurd (omega (arith, n, positive b))
    alike (Result.Err a) (Result.Ok b) f g c = let n = ap (λ (z : Coming). z.number) c in absurd (omega (arith, n, positive a))
    alike (Result.Err a) (Result.Err b) f g c = ap Result.Err (refusals.one_number a b (ap (λ (z : Coming). z.number) c))

-- what an edit makes of the parts
pub one_parting : (t : ℕ) (e : Edit) (st : List Setting) (hs : List Head) (pool : List Run) (table : Table) (p q : Parting) → PartsOfSome (place_of t) st hs pool table
    → EditsParts st hs pool table t e p → EditsParts st hs pool table t e q → p ≡ q
one_parting t e st hs pool table p q some l r =
    let s = some.state in
    let u = place_of t in
    let h : u < 8 = place_below t in
    let d = one_coming s t e (done_with s u p) (done_with s u q) (l.done s some.sound some.parts) (r.done s some.sound some.parts) in
    let a = ap (λ (x : Coming). get_or x.tanks.heads u no_head) d in
    let b = ap (λ (x : Coming). get_or x.tanks.tables u no_table) d in
    let head = sym (get_or-set_same s.heads u p.head no_head (omega (arith, some.sound.heads_8))) ∙ a ∙ get_or-set_same s.heads u q.head no_head (omega (arith, some.sound.heads_8)) in
    let marks = sym (get_or-set_same s.tables u p.table no_table (omega (arith, some.sound.tables_8))) ∙ b ∙ get_or-set_same s.tables u q.table no_table (omega (arith, some.sound.tables_8)) in
    let small : (x : ℕ) → x < 2 ^ (get_or hs u no_head).marks → x < 2 ^ (get_or s.heads u no_head).marks = λ x b. rw some.parts.heads_are b in
    let shown = bits_inj {s = s} {u = u} some.sound h p.shown q.shown (small p.shown l.fits) (small q.shown r.fits) (ap (λ (x : Coming). x.styles) d) in
    λ i. record { pool = (d i).tanks.pool; table = marks i; head = head i; number = (d i).number; shown = shown i; first = (d i).first }

-- the parts that the code answers an edit with
pub one_parts : (t : ℕ) (e : Edit) (st : List Setting) (hs : List Head) (pool : List Run) (table : Table) (p q : Result Parts Refusal) → PartsOfSome (place_of t) st hs pool table
    → EditsParts st hs pool table t e (parted hs pool table t p) → EditsParts st hs pool table t e (parted hs pool table t q) → p ≡ q
one_parts t e st hs pool table p q some l r =
    let c = one_parting t e st hs pool table (parted hs pool table t p) (parted hs pool table t q) some l r in
    one_answer none p q (sym (numbered p) ∙ ap (λ (z : Parting). z.number) c ∙ numbered q) (leaves p ∙ ap left c ∙ sym (leaves q))
  where
    left : Parting → Parts
    left z = record { pool = z.pool; head = z.head; first = z.first; shown = z.shown; table = z.table }

    none : Parts
    none = record { pool = pool; head = get_or hs (place_of t) no_head; first = 0; shown = 0; table = table }

    numbered : (a : Result Parts Refusal) → (parted hs pool table t a).number ≡ number_in a
    numbered (Result.Ok x) = refl
    numbered (Result.Err f) = refl

    leaves : (a : Result Parts Refusal) → given_or none a ≡ left (parted hs pool table t a)
    leaves (Result.Ok x) = refl
    leaves (Result.Err f) = refl

-- a tank taken out
pub one_taken : (s : Tanks) (t : ℕ) (x x' : Tank) → Taken s t x → Taken s t x' → x ≡ x'
one_taken s t x x' p q = same_tank p.sound.formed q.sound.formed (p.is ∙ sym q.is)

-- a refused call hands back the very same state
pub refused_same : (s : Tanks) (t : ℕ) (e : Edit) (n : ℕ) (x : Tanks) → Sound s → CalledAt s t e n x → 0 < n → x ≡ s
refused_same s t e n x ok p h =
    unique x s p.sound ok (p.is ∙ after_refused (meaning s) t e (omega (arith, p.number_is)))
