-- The laws of pushes, copies and edits: how many positions one leaves, the set at each, and the form; so that it leaves the joined list of them.
use Prim.Native.Nat.{ℕ, ◌+◌, ◌-◌, ◌≤◌, ◌<◌, ◌^◌, min}
use mathlib.Core.Path.{◌≡◌, sym, ap, ◌∙◌}
use mathlib.Core.Bool.{cond, ◌&&◌}
use mathlib.Core.List.{List, [], ◌∷◌}
use native.Mathlib.Omega.{arith}
use native.Mathlib.Decide.{dec_lt}
use lib.Dec.{ltb, leb}
use lib.ListN.{length}
use lib.Bits.{bit_or, bit_and, or_zero_r, and_zero_r}
use native.Mathlib.Nat.{sub-zero}
use borrow.Author.Tests.{lt-ltb, le-ltb, le-leb, lt-leb}
use Rattle.runs.specs.Runs.{Run, total, set_at, Canon, changing, runs}
use Rattle.runs.specs.Edits.{Joined, CanPush, CanCopy, CanEdit, Appended}
use Rattle.runs.specs.Positions.{altered_at, deleted_at, inserted_at}
use Rattle.runs.proofs.Copies.{push_run, clip, copy_runs, adding, part, altered, deleted, inserted, Room}
use Rattle.runs.proofs.Laws.{unique, at_past, total_push, push_before, push_at, canon_push, push_longer, total_copy, copy_before, copy_at, canon_copy, push_room}

pub add_is : (bits s : ℕ) → adding bits s ≡ bit_or s bits
unfolding changing
add_is bits s = rw and_zero_r (sub-zero (bit_or s bits))

pub add_none : (s : ℕ) → adding 0 s ≡ s
add_none s = add_is 0 s ∙ or_zero_r s

pub drop_is : (drop s : ℕ) → changing 0 drop s ≡ s - bit_and s drop
unfolding changing
drop_is drop s = rw or_zero_r

pub copy_longer : (f : ℕ → ℕ) (base : List Run) (from to : ℕ) (rs : List Run) → length base ≤ length (copy_runs f base from to rs)
unfolding copy_runs
copy_longer f base from to [] = omega arith
copy_longer f base from to (r ∷ rs) =
    omega (arith, copy_longer f base from to rs, push_longer (copy_runs f base from to rs) (clip from to (total rs) r.len) (f r.set))

-- position r of the source stands at position q of the copy
pub copy_to : (f : ℕ → ℕ) (base : List Run) (from to : ℕ) (rs : List Run) (q r : ℕ) → q + from ≡ total base + r → from ≤ r → r < to → r < total rs
    → set_at (copy_runs f base from to rs) q ≡ f (set_at rs r)
copy_to f base from to rs q r e l g h =
    let i : q ≡ total base + (r - from) = omega arith in
    let j : from + (r - from) ≡ r = omega arith in
    ap (set_at (copy_runs f base from to rs)) i ∙ copy_at f base from to rs (r - from) (omega arith) (omega arith) ∙ ap (λ (x : ℕ). f (set_at rs x)) j

-- the set at each position of a copy, in one equation
pub at_copy : (f : ℕ → ℕ) (base : List Run) (from to : ℕ) (rs : List Run) (p : ℕ) → set_at (copy_runs f base from to rs) p
    ≡ cond (ltb p (total base)) (set_at base p) (cond (ltb p (total base + (min to (total rs) - from))) (f (set_at rs (from + (p - total base)))) 0)
at_copy f base from to rs p =
    elim (dec_lt p (total base)) [
      | yes h ↦ simp (lt-ltb p (total base) h) (copy_before f base from to rs p h)
      | no h ↦
          let t = total_copy f base from to rs in
          elim (dec_lt p (total base + (min to (total rs) - from))) [
            | yes g ↦
                simp (le-ltb p (total base) (omega arith), lt-ltb p (total base + (min to (total rs) - from)) g)
                (copy_to f base from to rs p (from + (p - total base)) (omega arith) (omega arith) (omega arith) (omega arith))
            | no g ↦
                simp (le-ltb p (total base) (omega arith), le-ltb p (total base + (min to (total rs) - from)) (omega arith))
                (at_past (copy_runs f base from to rs) p (omega arith))
          ]
    ]

-- ---- the joined list of positions and sets
pub one_joined : {n : ℕ} {at : ℕ → ℕ} {xs ys : List Run} → Joined n at xs → Joined n at ys → xs ≡ ys
one_joined {n} {at} {xs} {ys} j k =
    unique xs ys j.canon k.canon (j.all ∙ sym k.all)
    (λ p.
    elim (dec_lt p n) [
      | yes h ↦ j.sets p h ∙ sym (k.sets p h)
      | no h ↦ at_past xs p (omega (arith, j.all)) ∙ sym (at_past ys p (omega (arith, k.all)))
    ])

pub joined_is : {n : ℕ} {at : ℕ → ℕ} {xs ys : List Run} → Joined n at ys → xs ≡ ys → Joined n at xs
joined_is j e = rw e j

-- what a push and a copy make is the joined list of the positions that were there, and those that are put behind them
pub pushed_joined : (rs : List Run) (l s : ℕ) → Canon rs → Appended rs l (λ q. s) (push_run rs l s)
pushed_joined rs l s c =
    record {
      canon = canon_push rs l s c;
      all = total_push rs l s;
      sets = λ p h.
          elim (dec_lt p (total rs)) [
            | yes k ↦ simp (lt-ltb p (total rs) k) (push_before rs l s p k)
            | no k ↦ simp (le-ltb p (total rs) (omega arith)) (push_at rs l s p (omega arith) h)
          ];
    }

pub pushed_is : (rs : List Run) (l s : ℕ) {out : List Run} → Canon rs → Appended rs l (λ q. s) out → out ≡ push_run rs l s
pushed_is rs l s c j = one_joined j (pushed_joined rs l s c)

module _ (f : ℕ → ℕ) (base : List Run) (from to : ℕ) (rs : List Run) (c : Canon base) where
  pub copied_joined : Appended base (min to (total rs) - from) (λ q. f (set_at rs (from + q))) (copy_runs f base from to rs)
  copied_joined =
      record {
        canon = canon_copy f base from to rs c;
        all = total_copy f base from to rs;
        sets = λ p h. rw (lt-ltb p _ h) at (at_copy f base from to rs p);
      }

  pub copied_is : {out : List Run} → Appended base (min to (total rs) - from) (λ q. f (set_at rs (from + q))) out
      → out ≡ copy_runs f base from to rs
  copied_is j = one_joined j copied_joined

-- base is no longer than out, and holds no more
pub record Inside (base out : List Run) : Type 0 where
  pub longer : length base ≤ length out
  pub holds : total base ≤ total out

pub inside_self : (out : List Run) → Inside out out
inside_self out = omega arith

pub inside_copy : (f : ℕ → ℕ) {base out : List Run} (from to : ℕ) (rs : List Run) → Inside (copy_runs f base from to rs) out → Inside base out
inside_copy f {base} from to rs h = omega (arith, copy_longer f base from to rs, total_copy f base from to rs)

pub inside_push : {base out : List Run} (l s : ℕ) → Inside (push_run base l s) out → Inside base out
inside_push {base} l s h = omega (arith, push_longer base l s, total_push base l s)

-- where there is room for what a push makes, there is for whichever list is the joined one
pub push_can : {lens sets : List ℕ} {n : ℕ} (l s : ℕ) → length sets ≡ length lens → Canon (runs lens sets n)
    → length (push_run (runs lens sets n) l s) ≤ length lens → total (push_run (runs lens sets n) l s) < 2 ^ 63 → CanPush lens sets n l s
push_can {lens} {sets} {n} l s even c room sum =
    record {
      even = even;
      count = push_room lens sets n l s room;
      joined = c;
      room = λ out j. omega (arith, room, ap length (pushed_is (runs lens sets n) l s c j));
      sum = omega (arith, sum, total_push (runs lens sets n) l s);
    }

-- what an edit asks is enough for each of its copies and pushes
module _ {out : List Run} {olens₀ osets₀ lens sets : List ℕ} {m all : ℕ} (can : Room out olens₀ osets₀ lens sets m all)
    (olens osets : List ℕ) (n : ℕ) (l : length olens ≡ length olens₀) (l' : length osets ≡ length osets₀)
    (c : Canon (runs olens osets n)) (base : List Run) (e : runs olens osets n ≡ base) where
  pub can_copy : (f : ℕ → ℕ) (from to : ℕ) → Inside (copy_runs f base from to (runs lens sets m)) out → CanCopy f olens osets n lens sets m from to
  can_copy f from to h =
      let g : copy_runs f (runs olens osets n) from to (runs lens sets m) ≡ copy_runs f base from to (runs lens sets m) = rw e in
      record {
        even = omega arith;
        lens_m = can.lens_m;
        sets_m = can.sets_m;
        source = omega arith;
        joined = c;
        room = λ x j. omega (arith, ap length g, ap length (copied_is f (runs olens osets n) from to (runs lens sets m) c j));
        sum = omega (arith, ap total g, total_copy f (runs olens osets n) from to (runs lens sets m));
      }

  pub can_push : (k s : ℕ) → Inside (push_run base k s) out → CanPush olens osets n k s
  can_push k s h = push_can k s (omega arith) c (rw e (omega arith)) (rw e (omega arith))

-- ---- the edits: how many positions, the set at each, the form
pub part_to : (base : List Run) (from to : ℕ) (rs : List Run) (q r : ℕ) → q + from ≡ total base + r → from ≤ r → r < to → r < total rs
    → set_at (part base from to rs) q ≡ set_at rs r
part_to base from to rs q r e l g h = copy_to (adding 0) base from to rs q r e l g h ∙ add_none (set_at rs r)

-- the positions 0 .. a, alone
pub total_front : (a : ℕ) (rs : List Run) → a ≤ total rs → total (part [] 0 a rs) ≡ a
unfolding total
total_front a rs h = omega (arith, total_copy (adding 0) [] 0 a rs)

pub front_at : (a : ℕ) (rs : List Run) (p : ℕ) → p < a → a ≤ total rs → set_at (part [] 0 a rs) p ≡ set_at rs p
unfolding total
front_at a rs p h g = part_to [] 0 a rs p p (omega arith) (omega arith) h (omega arith)

module _ (rs : List Run) (a b : ℕ) (f : ℕ → ℕ) (up : a ≤ b) (fits : b ≤ total rs) where
  -- the parts before b
  front : List Run
  front = part [] 0 a rs

  both : List Run
  unfolding front
  both = copy_runs f front a b rs

  total_both : total both ≡ b
  unfolding both front
  total_both = omega (arith, total_copy f front a b rs, total_front a rs (omega arith))

  pub total_altered : total (altered rs a b f) ≡ total rs
  unfolding altered both front
  total_altered = omega (arith, total_copy (adding 0) both b (total rs) rs, total_both)

  pub altered_in : (p : ℕ) → a ≤ p → p < b → set_at (altered rs a b f) p ≡ f (set_at rs p)
  unfolding altered both front
  altered_in p g h =
      copy_before (adding 0) both b (total rs) rs p (omega (arith, total_both))
      ∙ copy_to f front a b rs p p (omega (arith, total_front a rs (omega arith))) g h (omega arith)

  pub altered_out : (p : ℕ) → (a ≤ p → p < b → ⊥) → p < total rs → set_at (altered rs a b f) p ≡ set_at rs p
  unfolding altered both front
  altered_out p g h =
      elim (dec_lt p a) [
        | yes k ↦
            copy_before (adding 0) both b (total rs) rs p (omega (arith, total_both))
            ∙ copy_before f front a b rs p (omega (arith, total_front a rs (omega arith)))
            ∙ front_at a rs p k (omega arith)
        | no k ↦
            elim (dec_lt p b) [
              | yes l ↦ absurd (g (omega arith) l)
              | no l ↦ part_to both b (total rs) rs p p (omega (arith, total_both)) (omega arith) h h
            ]
      ]

-- the set at each position, in one equation
pub at_altered : (rs : List Run) (a b : ℕ) (f : ℕ → ℕ) → a ≤ b → b ≤ total rs → (p : ℕ)
    → set_at (altered rs a b f) p ≡ cond (leb a p && ltb p b) (f (set_at rs p)) (set_at rs p)
at_altered rs a b f up fits p =
    elim (dec_lt p a) [
      | yes h ↦ simp (lt-leb a p h) (altered_out rs a b f up fits p (λ x y. omega arith) (omega arith))
      | no h ↦
          elim (dec_lt p b) [
            | yes g ↦ simp (le-leb a p (omega arith), lt-ltb p b g) (altered_in rs a b f up fits p (omega arith) g)
            | no g ↦
                simp (le-leb a p (omega arith), le-ltb p b (omega arith))
                (elim (dec_lt p (total rs)) [
                  | yes k ↦ altered_out rs a b f up fits p (λ x y. omega arith) k
                  | no k ↦ at_past (altered rs a b f) p (omega (arith, total_altered rs a b f up fits)) ∙ sym (at_past rs p (omega arith))
                ])
          ]
    ]

pub canon_altered : (rs : List Run) (a b : ℕ) (f : ℕ → ℕ) → Canon (altered rs a b f)
unfolding altered Canon
canon_altered rs a b f =
    canon_copy (adding 0) (copy_runs f (part [] 0 a rs) a b rs) b (total rs) rs
    (canon_copy f (part [] 0 a rs) a b rs (canon_copy (adding 0) [] 0 a rs tt))

-- ---- a deletion
module _ (rs : List Run) (a b : ℕ) (up : a ≤ b) (fits : b ≤ total rs) where
  pub total_deleted : total (deleted rs a b) ≡ total rs - (b - a)
  unfolding deleted
  total_deleted = omega (arith, total_copy (adding 0) (part [] 0 a rs) b (total rs) rs, total_front a rs (omega arith))

  pub deleted_before : (p : ℕ) → p < a → set_at (deleted rs a b) p ≡ set_at rs p
  unfolding deleted
  deleted_before p h =
      copy_before (adding 0) (part [] 0 a rs) b (total rs) rs p (omega (arith, total_front a rs (omega arith))) ∙ front_at a rs p h (omega arith)

  pub deleted_after : (p : ℕ) → b ≤ p → p < total rs → set_at (deleted rs a b) (p - (b - a)) ≡ set_at rs p
  unfolding deleted
  deleted_after p h g = part_to (part [] 0 a rs) b (total rs) rs (p - (b - a)) p (omega (arith, total_front a rs (omega arith))) h g g

pub at_deleted : (rs : List Run) (a b : ℕ) → a ≤ b → b ≤ total rs → (p : ℕ)
    → set_at (deleted rs a b) p ≡ cond (ltb p a) (set_at rs p) (set_at rs (p + (b - a)))
at_deleted rs a b up fits p =
    elim (dec_lt p a) [
      | yes h ↦ simp (lt-ltb p a h) (deleted_before rs a b up fits p h)
      | no h ↦
          simp (le-ltb p a (omega arith))
          (elim (dec_lt (p + (b - a)) (total rs)) [
            | yes k ↦
                let e : p + (b - a) - (b - a) ≡ p = omega arith in
                rw e at (deleted_after rs a b up fits (p + (b - a)) (omega arith) k)
            | no k ↦ at_past (deleted rs a b) p (omega (arith, total_deleted rs a b up fits)) ∙ sym (at_past rs (p + (b - a)) (omega arith))
          ])
    ]

-- ---- an insertion
module _ (rs : List Run) (pos l s : ℕ) (fits : pos ≤ total rs) where
  grown : List Run
  grown = push_run (part [] 0 pos rs) l s

  total_grown : total grown ≡ pos + l
  unfolding grown
  total_grown = omega (arith, total_push (part [] 0 pos rs) l s, total_front pos rs fits)

  pub total_inserted : total (inserted rs pos l s) ≡ total rs + l
  unfolding inserted grown
  total_inserted = omega (arith, total_copy (adding 0) grown pos (total rs) rs, total_grown)

  pub inserted_before : (p : ℕ) → p < pos → set_at (inserted rs pos l s) p ≡ set_at rs p
  unfolding inserted grown
  inserted_before p h =
      copy_before (adding 0) grown pos (total rs) rs p (omega (arith, total_grown))
      ∙ push_before (part [] 0 pos rs) l s p (omega (arith, total_front pos rs fits))
      ∙ front_at pos rs p h fits

  pub inserted_in : (p : ℕ) → pos ≤ p → p < pos + l → set_at (inserted rs pos l s) p ≡ s
  unfolding inserted grown
  inserted_in p g h =
      copy_before (adding 0) grown pos (total rs) rs p (omega (arith, total_grown))
      ∙ push_at (part [] 0 pos rs) l s p (omega (arith, total_front pos rs fits)) (omega (arith, total_front pos rs fits))

  pub inserted_after : (p : ℕ) → pos ≤ p → p < total rs → set_at (inserted rs pos l s) (p + l) ≡ set_at rs p
  unfolding inserted grown
  inserted_after p g h = part_to grown pos (total rs) rs (p + l) p (omega (arith, total_grown)) g h h

pub at_inserted : (rs : List Run) (pos l s : ℕ) → pos ≤ total rs → (p : ℕ)
    → set_at (inserted rs pos l s) p ≡ cond (ltb p pos) (set_at rs p) (cond (ltb p (pos + l)) s (set_at rs (p - l)))
at_inserted rs pos l s fits p =
    elim (dec_lt p pos) [
      | yes h ↦ simp (lt-ltb p pos h) (inserted_before rs pos l s fits p h)
      | no h ↦
          elim (dec_lt p (pos + l)) [
            | yes g ↦ simp (le-ltb p pos (omega arith), lt-ltb p (pos + l) g) (inserted_in rs pos l s fits p (omega arith) g)
            | no g ↦
                simp (le-ltb p pos (omega arith), le-ltb p (pos + l) (omega arith))
                (elim (dec_lt (p - l) (total rs)) [
                  | yes k ↦
                      let e : p - l + l ≡ p = omega arith in
                      rw e at (inserted_after rs pos l s fits (p - l) (omega arith) k)
                  | no k ↦ at_past (inserted rs pos l s) p (omega (arith, total_inserted rs pos l s fits)) ∙ sym (at_past rs (p - l) (omega arith))
                ])
          ]
    ]

pub canon_deleted : (rs : List Run) (a b : ℕ) → Canon (deleted rs a b)
unfolding deleted Canon
canon_deleted rs a b = canon_copy (adding 0) (part [] 0 a rs) b (total rs) rs (canon_copy (adding 0) [] 0 a rs tt)

pub canon_inserted : (rs : List Run) (pos l s : ℕ) → Canon (inserted rs pos l s)
unfolding inserted Canon
canon_inserted rs pos l s =
    canon_copy (adding 0) (push_run (part [] 0 pos rs) l s) pos (total rs) rs (canon_push (part [] 0 pos rs) l s (canon_copy (adding 0) [] 0 pos rs tt))

-- ---- so each leaves the joined list
-- where there is room for the joined list, there is for a result that is that list
pub room_of : {n : ℕ} {at : ℕ → ℕ} {olens osets lens sets : List ℕ} {m all : ℕ} {out : List Run}
    → CanEdit n at olens osets lens sets m all → Joined n at out → Room out olens osets lens sets m all
room_of {out = out} can j =
    record {
      even = can.even;
      lens_m = can.lens_m;
      sets_m = can.sets_m;
      all_is = can.all_is;
      source = can.source;
      room = can.room out j;
      sum = omega (arith, j.all, can.sum);
    }

module _ (rs : List Run) (n : ℕ) (is : n ≡ total rs) where
  pub altered_joined : (a b : ℕ) (f : ℕ → ℕ) → a ≤ b → b ≤ n → Joined n (altered_at a b f (set_at rs)) (altered rs a b f)
  altered_joined a b f up fits =
      record {
        canon = canon_altered rs a b f;
        all = total_altered rs a b f up (omega arith) ∙ sym is;
        sets = λ p h. at_altered rs a b f up (omega arith) p;
      }

  pub deleted_joined : (a b : ℕ) → a ≤ b → b ≤ n → Joined (n - (b - a)) (deleted_at a b (set_at rs)) (deleted rs a b)
  deleted_joined a b up fits =
      record {
        canon = canon_deleted rs a b;
        all = omega (arith, total_deleted rs a b up (omega arith));
        sets = λ p h. at_deleted rs a b up (omega arith) p;
      }

  pub inserted_joined : (pos l s : ℕ) → pos ≤ n → Joined (n + l) (inserted_at pos l s (set_at rs)) (inserted rs pos l s)
  inserted_joined pos l s fits =
      record {
        canon = canon_inserted rs pos l s;
        all = omega (arith, total_inserted rs pos l s (omega arith));
        sets = λ p h. at_inserted rs pos l s (omega arith) p;
      }
