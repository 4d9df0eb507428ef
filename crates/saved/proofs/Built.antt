-- A tank that is built from what was read is in form.
use mathlib.Core.Path.{◌≡◌, sym, ap, ◌∙◌}
use mathlib.Core.Bool.{false}
use mathlib.Core.List.{List, [], ◌∷◌}
use Prim.Native.Nat.{ℕ, ◌-◌, ◌≤◌, ◌^◌}
use native.Mathlib.Omega.{arith}
use native.Mathlib.Nat.{pow-zero}
use lib.ListN.{length, get_or, length-take}
use lib.Pow.{pow_pos}
use Rattle.styles.specs.Marks.{blank}
use Rattle.runs.specs.Runs.{Run, run, total, Spare}
use Rattle.runs.specs.Gather.{gather}
use Rattle.tank.specs.declared.Tank.{Tank}
use Rattle.tank.specs.Rules.{fresh_length}
use Rattle.tank.specs.State.{runs_of, table_of, Laid, Formed}
use Rattle.tanks.specs.declared.Setting.{Setting}
use Rattle.saved.proofs.RunLines.{SetsWithin}
use Rattle.saved.proofs.TankLines.{Keeps}
use Rattle.saved.proofs.Meant.{stored_in}

-- the places of its arrays
pub record Placed (t : Tank) : Type 0 where
  pub most : t.runs ≤ 512
  pub few : t.marks ≤ 64
  pub lens_514 : length t.lens ≡ 514
  pub sets_514 : length t.sets ≡ 514
  pub table_64 : length t.table ≡ 64
  pub spare : Spare t.lens t.sets t.runs
  pub blanks : (i : ℕ) → t.marks ≤ i → get_or t.table i blank ≡ blank

-- one run with no mark is the fresh tank's
one_run : (rs : List Run) (l : ℕ) → length rs ≡ 1 → SetsWithin 0 rs → total rs ≡ l → rs ≡ run l 0 ∷ []
unfolding total SetsWithin
one_run [] l e w h = absurd (omega arith)
one_run (r ∷ []) l e w h = let a : r.len ≡ l = omega arith in let b : r.set ≡ 0 = omega (arith, w.0) in λ i. run (a i) (b i) ∷ []
one_run (r ∷ q ∷ rs) l e w h = absurd (omega arith)

module _ {v : ℕ} {st : List Setting} {held : List ℕ} {i : ℕ} (t : Tank) (p : Placed t) (k : Keeps v st held i (stored_in t)) where
  marks_are : length (table_of t) ≡ t.marks
  marks_are = omega (arith, p.few, p.table_64, length-take t.marks t.table)

  whole : gather (runs_of t) ≡ 2 ^ t.marks - 1
  whole = k.whole ∙ ap (λ (n : ℕ). 2 ^ n - 1) marks_are

  laid : Laid t
  laid = record {
    most = omega (arith, p.most);
    canon = k.canon;
    sum = sym k.sum;
    small = omega (arith, k.small);
    spare = p.spare;
    lens_514 = p.lens_514;
    sets_514 = p.sets_514;
    few = p.few;
    table_64 = p.table_64;
    sorted = k.sorted;
    numbers = k.numbers;
    roomy = k.roomy;
    blanks = p.blanks;
    inside = omega (arith, whole, pow_pos t.marks);
  }

  fresh : t.touched ≡ false → runs_of t ≡ run fresh_length 0 ∷ []
  fresh e =
      let f = k.fresh e in
      let z : 2 ^ length (table_of t) - 1 ≡ 0 = ap (λ (n : ℕ). 2 ^ n - 1) f.1 ∙ omega (arith, pow-zero 2) in
      one_run (runs_of t) fresh_length f.2 (rw z at k.within) (k.sum ∙ f.0)

  pub formed_of : Formed t
  formed_of = record { laid = laid; whole = whole; fresh = fresh }
