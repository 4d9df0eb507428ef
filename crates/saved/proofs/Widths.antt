-- Every mark that code holds has the widths of its fields' types. So what is written of a sound state reads back as what it means, with no
-- premise on the marks.
use mathlib.Core.Path.{◌≡◌, sym, ap, subst, ◌∙◌}
use mathlib.Core.Bool.{Bool, true, false, false≢true}
use mathlib.Core.List.{List, [], ◌∷◌, ◌++◌}
use Prim.Native.Nat.{ℕ, ◌+◌, ◌<◌}
use native.Mathlib.Decide.{dec_lt}
use native.Mathlib.Omega.{arith}
use native.Mathlib.Numerals.{add-one}
use lib.Dec.{T}
use lib.Ieee.{binary64, fits}
use lib.IntN.{ℤ}
use lib.ListN.{length, get_or, take}
use lib.Seq.{take-suc}
use denote.Laws.{valss}
use denote.Struct.Struct.{AreAll}
use denote.Struct.Laws.{spells}
use denote.Struct.Declared.{fields}
use Rattle.styles.specs.contracts.Mark as held
use Rattle.styles.proofs.Mark.TheLaws as laws
use Rattle.styles.specs.declared.Mark.{Mark}
use Rattle.styles.specs.declared.Party.{Party}
use Rattle.styles.specs.declared.Value.{Value}
use Rattle.styles.specs.Marks.{blank}
use Rattle.script.proofs.Exact.{Fitting}
use Rattle.tank.specs.declared.Tank.{Tank}
use Rattle.tank.specs.Rules.{carried}
use Rattle.tank.specs.State.{table_of, view, Formed}
use Rattle.tanks.specs.declared.Tanks.{Tanks}
use Rattle.tanks.specs.Pool.{tank_of, meaning, Sound}
use Rattle.tanks.proofs.MeaningLaws.{tank_at_lem}
use Rattle.saved.specs.Saved.{Saved, saved_of}
use Rattle.saved.specs.Saying.{newest}
use Rattle.saved.specs.Writes.{FitsValue, FitsMark, FitsMarks, FitsHouse, SaidAgain}
use Rattle.saved.proofs.Meant.{saved_is}
use Rattle.saved.proofs.MarksBack.{AllFit}
use Rattle.saved.proofs.FromState.{stored_from, read_newest, read_means}

-- what the borrow checker tells of a mark where one of its fields is read
abbrev pub Told : Mark → Type 0
Told m = AreAll (fields held.the_type) ((held.the_type).to m) (valss (fields held.the_type) (spells (held.the_type).parts laws.the_laws) ((held.the_type).to m))

-- the value's part of it, by the kind
fits_with : (key flags : ℕ) (party : Party) (lamport : ℕ) (cnt : ℤ) (peer : ℕ) (v : Value)
    → Told (record { key = key; flags = flags; party = party; lamport = lamport; cnt = cnt; peer = peer; value = v }) → FitsValue v
unfolding FitsValue
fits_with key flags party lamport cnt peer Value.Null h = tt
fits_with key flags party lamport cnt peer (Value.Flag b) h = tt
fits_with key flags party lamport cnt peer (Value.Whole z) h = h.1.1.1.1.1.1.0.1.1.1.1.0.1
fits_with key flags party lamport cnt peer (Value.Decimal x) h = h.1.1.1.1.1.1.0.1.1.1.1.0.1

-- a mark that code holds has its fields' widths
pub fits_mark : (m : Mark) → Told m → FitsMark m
fits_mark m h = record {
  key = h.0.1;
  lamport = h.1.1.0.1;
  peer = h.1.1.1.1.1.0.1;
  cnt = h.1.1.1.0.1;
  flags = h.1.0.1;
  value = fits_with m.key m.flags m.party m.lamport m.cnt m.peer m.value h;
}

-- one more
fits_snoc : (ms : List Mark) (m : Mark) → FitsMarks ms → FitsMark m → FitsMarks (ms ++ m ∷ [])
unfolding FitsMarks
fits_snoc [] m h k = (k, tt)
fits_snoc (x ∷ xs) m h k = (h.0, fits_snoc xs m h.1 k)

pub fits_more : (ms : List Mark) (j : ℕ) → j < length ms → FitsMarks (take j ms) → FitsMark (get_or ms j blank) → FitsMarks (take (j + 1) ms)
fits_more ms j h f k = subst FitsMarks (sym (ap (λ (n : ℕ). take n ms) (add-one j) ∙ take-suc ms j blank h)) (fits_snoc (take j ms) (get_or ms j blank) f k)

-- what holds below t and at t holds below t + 1
pub below_more : (P : ℕ → Type 0) (t : ℕ) → ((u : ℕ) → u < t → P u) → P t → (u : ℕ) → u < t + 1 → P u
below_more P t f k u h =
    elim (dec_lt u t) [
      | yes l ↦ f u l
      | no l ↦ let e : t ≡ u = omega arith in subst P e k
    ]

-- what a tank in form carries is its table
pub carried_is : {x : Tank} → Formed x → carried (view x) ≡ table_of x
unfolding saved_of
carried_is f = ap (λ (s : Saved). s.marks) (saved_is f)

-- ---- so what is written of a sound state reads back as what it means
true_is : (b : Bool) → b ≡ true → T b
true_is true e = tt
true_is false e = absurd (false≢true e)

fitting : (v : Value) → FitsValue v → Fitting v
unfolding FitsValue Fitting
fitting Value.Null h = tt
fitting (Value.Flag b) h = tt
fitting (Value.Whole z) h = record { sfits = h }
fitting (Value.Decimal x) h = true_is (fits binary64 x) h

fit : (ms : List Mark) → FitsMarks ms → AllFit ms
unfolding FitsMarks AllFit
fit [] h = tt
fit (m ∷ ms) h = (
  record { key = h.0.key; lamport = h.0.lamport; peer = h.0.peer; cnt = record { sfits = h.0.cnt }; flags = h.0.flags; value = fitting m.value h.0.value },
  fit ms h.1,
)

pub written_back : (s : Tanks) → Sound s → FitsHouse (meaning s) → SaidAgain (meaning s)
unfolding FitsHouse
written_back s sound f =
    let b = read_newest s sound (λ t h. fit (table_of (tank_of s t)) (subst FitsMarks (ap carried (tank_at_lem s t h) ∙ carried_is (sound.each t h)) (f t h))) in
    record { said = record { version = newest; settings = s.settings; tanks = stored_from s 0 8 }; lines = b.lines; is = b.is; means = read_means newest s }
