-- Marks that no position carries leave the table, and their bits leave every set: the tank means what it meant.
use Prim.Native.Nat.{ℕ, ◌-◌, ◌/◌, ◌%◌, ◌≤◌, ◌<◌, ◌^◌}
use mathlib.Core.Path.{◌≡◌, refl, sym, ap, ◌∙◌}
use mathlib.Core.Bool.{true, true≢false}
use mathlib.Core.List.{List, [], ◌∷◌, ◌++◌}
use native.Mathlib.Omega.{arith}
use native.Mathlib.Nat.{pow-suc}
use lib.Bits.{bit_and}
use lib.Count.{ones}
use lib.ListN.{length, get_or, take, replicate}
use lib.Pow.{pow_mono, pow_pos}
use lib.Seq.{take_at}
use Rattle.laws.proofs.Lists.{get_d_past, length_filled}
use Rattle.styles.specs.declared.Mark.{Mark}
use Rattle.styles.specs.declared.Styles.{Styles}
use Rattle.styles.specs.Answers.{styles_of}
use Rattle.styles.specs.Marks.{blank}
use Rattle.styles.specs.Bits.{pick, Squeezed}
use Rattle.styles.proofs.Built.{squeeze}
use Rattle.styles.proofs.BitLaws.{half_less}
use Rattle.styles.proofs.CountLaws.{length_keep, pick_length}
use Rattle.styles.proofs.PickLaws.{keep_by}
use Rattle.styles.proofs.SqueezeLaws.{pick_squeeze, squeeze_only}
use Rattle.styles.proofs.UnionLaws.{squeeze_all, squeeze_none}
use Rattle.styles.proofs.WalkLaws.{sorted_pick, pick_length_le}
use Rattle.runs.specs.Runs.{runs, total, set_at}
use Rattle.runs.specs.Gather.{gather, Renumbered}
use Rattle.runs.proofs.MapLaws.{map_runs, total_map, renumber_runs, renumber_spare}
use Rattle.runs.proofs.GatherLaws.{sets_within, set_within}
use Rattle.runs.proofs.RenumberLaws.{canon_squeeze, gather_squeeze}
use Rattle.tank.specs.declared.Tank.{Tank}
use Rattle.tank.specs.State.{runs_of, table_of, view, Numbers, Laid}
use Rattle.tank.specs.Steps.{Trimmed}
use Rattle.tank.proofs.CrowdLaws.{roomy_pick}
use Rattle.tank.proofs.Unique.{table_length, inside_table}
use Rattle.tank.proofs.ViewLaws.{view_renumbered}

-- a set that keeps every mark of the table has every bit
pick_whole : (ms : List Mark) (s : ℕ) → s < 2 ^ length ms → length (pick ms s) ≡ length ms → s ≡ 2 ^ length ms - 1
unfolding pick
pick_whole [] s h e = omega arith
pick_whole (m ∷ ms) s h e =
    let k = length_keep (s % 2) m (pick ms (s / 2)) (omega arith) in
    let l = pick_length_le ms (s / 2) in
    omega (arith, pick_whole ms (s / 2) (half_less (length ms) s h) (omega arith), pow-suc 2 (length ms), pow_pos (length ms))

numbers_pick : (ms : List Mark) (s : ℕ) → Numbers ms → Numbers (pick ms s)
unfolding Numbers pick
numbers_pick [] s n = tt
numbers_pick (m ∷ ms) s n = let k = numbers_pick ms (s / 2) n.1 in keep_by Numbers (s % 2) k (n.0, k)

module _ {t : Tank} (f : Laid t) (e : t.touched ≡ true) where
  -- what is carried are marks of the table
  pub carried_inside : (carried : ℕ) → carried ≡ gather (runs_of t) → (t.marks ≤ 64) × (carried < 2 ^ t.marks)
  carried_inside carried g = (f.few, rw g f.inside)

  -- all marks are carried: nothing leaves
  pub trim_none : (carried : ℕ) → carried ≡ gather (runs_of t) → ones carried ≡ t.marks → Trimmed t t
  trim_none carried g c =
      let l = pick_length (table_of t) (gather (runs_of t)) (inside_table f) in
      record {
        formed =
            record {
              laid = f;
              whole =
                  pick_whole (table_of t) (gather (runs_of t)) (inside_table f) (l ∙ ap ones (sym g) ∙ c ∙ sym (table_length f))
                  ∙ ap (λ n. 2 ^ n - 1) (table_length f);
              fresh = λ q. absurd (true≢false (sym e ∙ q));
            };
        is = refl;
      }

  module _ (carried : ℕ) (g : carried ≡ gather (runs_of t)) (sets : List ℕ) (squeezed : Renumbered (Squeezed carried) t.runs t.sets sets)
      (kept : Styles) (kept-is : kept ≡ styles_of (pick (table_of t) carried)) where
    count_is : kept.count ≡ length (pick (table_of t) carried)
    count_is = ap (λ (k : Styles). k.count) kept-is

    table_is : kept.marks ≡ pick (table_of t) carried ++ replicate (64 - kept.count) blank
    table_is = rw count_is (ap (λ (k : Styles). k.marks) kept-is)

    small : carried < 2 ^ 64
    small = let a = f.inside in let b = f.few in omega (arith, pow_mono {i = t.marks} {j = 64} (omega arith))

    runs_are_lem : runs t.lens sets t.runs ≡ map_runs (squeeze 64 carried) (runs_of t)
    runs_are_lem = renumber_runs _ (squeeze 64 carried) (λ s r e. squeeze_only 64 carried s r small e) t.lens squeezed

    few : kept.count ≤ 64
    few = let a = f.few in omega (arith, count_is, pick_length_le (table_of t) carried, table_length f)

    front : take kept.count kept.marks ≡ pick (table_of t) carried
    front = ap (take kept.count) table_is ∙ take_at (pick (table_of t) carried) (replicate (64 - kept.count) blank) kept.count (sym count_is)

    table_64 : length kept.marks ≡ 64
    table_64 = ap length table_is ∙ rw count_is (length_filled blank 64 (pick (table_of t) carried) (omega (arith, few, count_is)))

    blanks : (i : ℕ) → kept.count ≤ i → get_or kept.marks i blank ≡ blank
    blanks i h = ap (λ ms. get_or ms i blank) table_is ∙ get_d_past blank (64 - kept.count) i (pick (table_of t) carried) (omega (arith, count_is))

    within : (p : ℕ) → bit_and (set_at (runs_of t) p) carried ≡ set_at (runs_of t) p
    within p = ap (bit_and (set_at (runs_of t) p)) g ∙ set_within (runs_of t) p

    ones_are : ones carried ≡ kept.count
    ones_are = sym (pick_length (table_of t) carried (rw g (inside_table f))) ∙ sym count_is

    whole : gather (runs t.lens sets t.runs) ≡ 2 ^ kept.count - 1
    whole =
        ap gather runs_are_lem ∙ gather_squeeze carried (runs_of t) ∙ ap (squeeze 64 carried) (sym g) ∙ squeeze_all 64 carried small
        ∙ ap (λ n. 2 ^ n - 1) ones_are

    pub trim_done : Trimmed t (record { touched = true; length = t.length; runs = t.runs; marks = kept.count; lens = t.lens; sets = sets; table = kept.marks })
    unfolding view
    trim_done =
        record {
          formed =
              record {
                laid =
                    record {
                      most = f.most;
                      canon = rw runs_are_lem (canon_squeeze carried (runs_of t) small (rw g (sets_within (runs_of t))) f.canon);
                      sum = f.sum ∙ sym (ap total runs_are_lem ∙ total_map (squeeze 64 carried) (runs_of t));
                      small = f.small;
                      spare = renumber_spare t.lens squeezed f.spare;
                      lens_514 = f.lens_514;
                      sets_514 = squeezed.kept ∙ f.sets_514;
                      few = few;
                      table_64 = table_64;
                      sorted = rw front (sorted_pick (table_of t) carried f.sorted);
                      numbers = rw front (numbers_pick (table_of t) carried f.numbers);
                      roomy = rw front (roomy_pick (table_of t) carried f.roomy);
                      blanks = blanks;
                      inside = omega (arith, whole, pow_pos kept.count);
                    };
                whole = whole;
                fresh = λ q. absurd (true≢false q);
              };
          is =
              ap (λ b. record { length = t.length; touched = b; at = λ p. pick (take kept.count kept.marks) (set_at (runs t.lens sets t.runs) p) }) (sym e)
              ∙ view_renumbered t.touched t.length (table_of t) (runs_of t) (squeeze 64 carried) (squeeze_none 64 carried) front runs_are_lem
              (λ p. pick_squeeze 64 (table_of t) carried (set_at (runs_of t) p) (let a = f.few in omega (arith, table_length f)) (within p));
        }
