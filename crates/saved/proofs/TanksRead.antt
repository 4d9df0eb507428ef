-- The lines of a tank as the code reads them, whatever the settings are and the tanks before it hold.
use Rattle.std.specs.Prelude.{Option, Some, None}
use mathlib.Core.Path.{◌≡◌, refl, sym, ap, ◌∙◌}
use mathlib.Core.Bool.{Bool, true, false, cond, ◌&&◌}
use mathlib.Core.List.{List, [], ◌∷◌, ◌++◌}
use Prim.Native.Nat.{ℕ, ◌+◌, ◌-◌, ◌*◌, ◌^◌, ◌≤◌, ◌<◌, min}
use native.Mathlib.Omega.{arith}
use native.Mathlib.Decide.{ℕ_discrete}
use lib.Dec.{eqb, leb}
use lib.ListN.{length, take, drop, replicate, length-take, get_or-replicate}
use borrow.Author.Tests.{eq-eqb, ne_eqb, le-leb}
use Rattle.text.specs.Bytes.{bytes}
use Rattle.text_lines.specs.Lines.{Got, bad, got, then, provided, decimal_from, taken_by}
use Rattle.runs.specs.Runs.{Run, runs, total}
use Rattle.runs.specs.Positions.{sum_below}
use Rattle.runs.proofs.Laws.{length_runs}
use Rattle.styles.specs.declared.Mark.{Mark}
use Rattle.styles.specs.Marks.{blank}
use Rattle.tank.specs.declared.Tank.{Tank}
use Rattle.tank.specs.Rules.{fresh_length, largest}
use Rattle.tank.specs.State.{Formed}
use Rattle.tanks.specs.declared.Setting.{Setting}
use Rattle.tanks.specs.Settings.{no_setting, limit_of}
use Rattle.saved.specs.declared.ReadMarks.{ReadMarks}
use Rattle.saved.specs.declared.ReadRuns.{ReadRuns}
use Rattle.saved.specs.declared.TankHead.{TankHead}
use Rattle.saved.specs.declared.TankLine.{TankLine}
use Rattle.saved.specs.Saying.{least_length, most_length, most_marks, least_runs, most_runs, claimed, roomy, adds_up, adds, tank_lines}
use Rattle.saved.specs.Reads.{got_marks, ReadsMarks, got_runs, ReadsRuns, ReadsHead, ReadsTank, head_with, tank_with, kept_in}
use Rattle.saved.proofs.Steps.{step_bad, step_on}
use Rattle.saved.proofs.MarksRead.{all_blank, marks_bad}
use Rattle.saved.proofs.RunsRead.{runs_bad}
use Rattle.saved.proofs.TankLines.{j1, j2, j3, j4, j5, j6, j7, tank_only}
use Rattle.saved.proofs.Built.{Placed, formed_of}

pub cond_most : (b : Bool) (x y z : ℕ) → x ≤ z → y ≤ z → cond b x y ≤ z
cond_most true x y z p q = p
cond_most false x y z p q = q

-- ---- as far as its runs
abbrev pub wrong_head : ℕ → TankHead
wrong_head line = record { line = line; at = 0; lines = 0; flag = 0; length = 0; marks = 0; table = replicate 64 blank }

module _ (v : ℕ) (text : List ℕ) (from t n : ℕ) where
  abbrev pub H1 : ℕ → ℕ → Type 0
  H1 z at = (st : List Setting) (held : List ℕ) → tank_lines v st held t n (drop from text) ≡ j1 v st held t z (n + 1) (drop at text)

  abbrev pub H2 : ℕ → ℕ → Type 0
  H2 b at = (st : List Setting) (held : List ℕ) → tank_lines v st held t n (drop from text) ≡ j2 v st held t b (n + 1 + 1) (drop at text)

  abbrev pub H3 : ℕ → ℕ → ℕ → Type 0
  H3 b l at = (st : List Setting) (held : List ℕ) → tank_lines v st held t n (drop from text) ≡ j3 v st held t b l (n + 1 + 1 + 1) (drop at text)

  abbrev pub H4 : ℕ → ℕ → ℕ → ℕ → Type 0
  H4 b l k at = (st : List Setting) (held : List ℕ) → tank_lines v st held t n (drop from text) ≡ j4 v st held t b l k (n + 1 + 1 + 1 + 1) (drop at text)

  head_wrong : (line m : ℕ) → line ≡ m + 1 → ((st : List Setting) (held : List ℕ) → bad (m + 1) ≡ tank_lines v st held t n (drop from text)) → ReadsHead v text from t n (wrong_head line)
  head_wrong line m e h = record {
    good = λ z. absurd (omega arith);
    wrong = λ z st held. sym (ap bad e ∙ h st held);
    inside = omega arith;
    lines_most = omega arith;
    few = omega arith;
    small = omega arith;
    table_64 = refl;
    blanks = λ i l. all_blank 64 i;
  }

  pub tank_wrong : None ≡ taken_by (bytes "tank=") (decimal_from t t) text from → ReadsHead v text from t n (wrong_head (n + 1))
  unfolding tank_lines
  tank_wrong e = head_wrong (n + 1) n refl λ st held. step_bad (tank_lines v st held t n (drop from text)) (bytes "tank=") t t text from n (j1 v st held t) refl e

  pub tank_on_lem : (z at : ℕ) → Some (z, at) ≡ taken_by (bytes "tank=") (decimal_from t t) text from → H1 z at
  unfolding tank_lines
  tank_on_lem z at e st held = step_on (tank_lines v st held t n (drop from text)) (bytes "tank=") t t text from n (j1 v st held t) refl z at e

  pub touched_wrong : (z a : ℕ) → H1 z a → None ≡ taken_by (bytes "touched=") (decimal_from 0 1) text a → ReadsHead v text from t n (wrong_head (n + 2))
  touched_wrong z a h e = head_wrong (n + 2) (n + 1) (omega arith) λ st held. step_bad (tank_lines v st held t n (drop from text)) (bytes "touched=") 0 1 text a (n + 1) (j2 v st held t) (h st held) e

  pub touched_on : (z a : ℕ) → H1 z a → (b at : ℕ) → Some (b, at) ≡ taken_by (bytes "touched=") (decimal_from 0 1) text a → H2 b at
  touched_on z a h b at e st held = step_on (tank_lines v st held t n (drop from text)) (bytes "touched=") 0 1 text a (n + 1) (j2 v st held t) (h st held) b at e

  pub length_wrong : (b a : ℕ) → H2 b a → None ≡ taken_by (bytes "length=") (decimal_from (least_length b) (most_length b)) text a → ReadsHead v text from t n (wrong_head (n + 3))
  length_wrong b a h e = head_wrong (n + 3) (n + 1 + 1) (omega arith) λ st held. step_bad (tank_lines v st held t n (drop from text)) (bytes "length=") (least_length b) (most_length b) text a (n + 1 + 1) (j3 v st held t b) (h st held) e

  pub length_on : (b a : ℕ) → H2 b a → (l at : ℕ) → Some (l, at) ≡ taken_by (bytes "length=") (decimal_from (least_length b) (most_length b)) text a → H3 b l at
  length_on b a h l at e st held = step_on (tank_lines v st held t n (drop from text)) (bytes "length=") (least_length b) (most_length b) text a (n + 1 + 1) (j3 v st held t b) (h st held) l at e

  pub count_wrong : (b l a : ℕ) → H3 b l a → None ≡ taken_by (bytes "marks=") (decimal_from 0 (most_marks b)) text a → ReadsHead v text from t n (wrong_head (n + 4))
  count_wrong b l a h e = head_wrong (n + 4) (n + 1 + 1 + 1) (omega arith) λ st held. step_bad (tank_lines v st held t n (drop from text)) (bytes "marks=") 0 (most_marks b) text a (n + 1 + 1 + 1) (j4 v st held t b l) (h st held) e

  pub count_on : (b l a : ℕ) → H3 b l a → (k at : ℕ) → Some (k, at) ≡ taken_by (bytes "marks=") (decimal_from 0 (most_marks b)) text a → H4 b l k at
  count_on b l a h k at e st held = step_on (tank_lines v st held t n (drop from text)) (bytes "marks=") 0 (most_marks b) text a (n + 1 + 1 + 1) (j4 v st held t b l) (h st held) k at e

  module _ (b l k a : ℕ) (h : H4 b l k a) (m : ReadMarks) (r : ReadsMarks v text a (n + 4) k m) where
    marks_step : (i : ℕ) → m.line ≡ i → (st : List Setting) (held : List ℕ) → tank_lines v st held t n (drop from text) ≡ then (got_marks text k m i) (j5 st held t b l k)
    marks_step i e st held =
        let four : n + 1 + 1 + 1 + 1 ≡ n + 4 = omega arith in
        h st held
        ∙ ap (λ (x : ℕ). j4 v st held t b l k x (drop a text)) four
        ∙ ap (λ (g : Got (List Mark)). then g (j5 st held t b l k)) (sym r.is ∙ ap (got_marks text k m) e)

    pub marks_wrong : 0 < m.line → ReadsHead v text from t n (wrong_head m.line)
    marks_wrong z =
        let one : m.line ≡ m.line - 1 + 1 = omega arith in
        head_wrong m.line (m.line - 1) one λ st held.
        sym (marks_step m.line refl st held ∙ ap (λ (g : Got (List Mark)). then g (j5 st held t b l k)) (marks_bad text k m m.line (omega arith)) ∙ ap bad one)

    pub head_read : m.line ≤ 0 → k ≤ most_marks b → l ≤ most_length b → ReadsHead v text from t n (head_with m b l k)
    head_read z few small = record {
      good = λ e st held. marks_step 0 (omega arith) st held;
      wrong = λ e. absurd (omega arith);
      inside = r.inside;
      lines_most = r.lines_most;
      few = omega (arith, few, cond_most (eqb b 1) 64 0 64 (omega arith) (omega arith));
      small = omega (arith, small, cond_most (eqb b 1) largest fresh_length largest (omega arith) (omega arith));
      table_64 = r.table_64;
      blanks = r.blanks;
    }

-- ---- its runs, and what is looked at behind its last line
tank_bad : (v limit : ℕ) (text : List ℕ) (from t n line : ℕ) (r : TankLine) → r.line ≡ line → r.at ≡ 0 → r.lines ≡ 0 → 1 ≤ line
    → ((st : List Setting) (held : List ℕ) → limit_of st t ≡ limit → tank_lines v st held t n (drop from text) ≡ bad line) → ReadsTank v limit text from t n r
tank_bad v limit text from t n line r e a l one h = record {
  good = λ z. absurd (omega arith);
  wrong = λ z st held q. h st held q ∙ ap bad (sym e);
  formed = λ z. absurd (omega arith);
  few = λ z. absurd (omega arith);
  inside = omega arith;
  lines_least = λ z. absurd (omega arith);
  lines_most = omega arith;
}

pub head_bad : (v limit : ℕ) (text : List ℕ) (from t n : ℕ) (h : TankHead) → ReadsHead v text from t n h → 0 < h.line → (r : TankLine) → r.line ≡ h.line → r.at ≡ 0
    → r.lines ≡ 0 → ReadsTank v limit text from t n r
head_bad v limit text from t n h rh z r e a l = tank_bad v limit text from t n h.line r e a l (omega arith) λ st held q. rh.wrong z st held

same_sum : (x l : ℕ) → l ≤ largest → eqb (min (2 ^ 63) x) l ≡ eqb x l
same_sum x l h = elim (ℕ_discrete x l) [ yes e ↦ eq-eqb (min (2 ^ 63) x) l (omega arith) ∙ sym (eq-eqb x l e) | no e ↦ ne_eqb (min (2 ^ 63) x) l (λ q. e (omega arith)) ∙ sym (ne_eqb x l e) ]

module _ (v limit : ℕ) (text : List ℕ) (from t n : ℕ) (h : TankHead) (rh : ReadsHead v text from t n h) (z : h.line ≤ 0) where
  behind_head : (st : List Setting) (held : List ℕ)
      → tank_lines v st held t n (drop from text) ≡ j5 st held t h.flag h.length h.marks (take h.marks h.table) h.lines (drop h.at text)
  behind_head st held = rh.good (omega arith) st held

  abbrev pub RunsIs : Option (ℕ × ℕ) → Type 0
  RunsIs r = r ≡ taken_by (bytes "runs=") (decimal_from (least_runs h.flag) (most_runs h.flag limit)) text h.at

  limited : (st : List Setting) (r : Option (ℕ × ℕ)) → limit_of st t ≡ limit → RunsIs r → r ≡ taken_by (bytes "runs=") (decimal_from (least_runs h.flag) (most_runs h.flag (limit_of st t))) text h.at
  limited st r q e = e ∙ ap (λ (x : ℕ). taken_by (bytes "runs=") (decimal_from (least_runs h.flag) (most_runs h.flag x)) text h.at) (sym q)

  pub runs_count_wrong : RunsIs None → (r : TankLine) → r.line ≡ h.lines + 1 → r.at ≡ 0 → r.lines ≡ 0 → ReadsTank v limit text from t n r
  runs_count_wrong e r p a l = tank_bad v limit text from t n (h.lines + 1) r p a l (omega arith) λ st held q.
      sym (step_bad (tank_lines v st held t n (drop from text)) (bytes "runs=") (least_runs h.flag) (most_runs h.flag (limit_of st t)) text h.at h.lines (j6 st held h.flag h.length h.marks (take h.marks h.table)) (behind_head st held) (limited st None q e))

  module _ (j a : ℕ) (e : RunsIs (Some (j, a))) (r : ReadRuns) (rr : ReadsRuns (2 ^ h.marks - 1) text a (h.lines + 1) j r) where
    runs_step : (i : ℕ) → r.line ≡ i → (st : List Setting) (held : List ℕ) → limit_of st t ≡ limit
        → tank_lines v st held t n (drop from text) ≡ then (got_runs text (h.lines + 1 + 2 * j) j r i) (j7 st held h.flag h.length (take h.marks h.table))
    runs_step i p st held q =
        step_on (tank_lines v st held t n (drop from text)) (bytes "runs=") (least_runs h.flag) (most_runs h.flag (limit_of st t)) text h.at h.lines (j6 st held h.flag h.length h.marks (take h.marks h.table)) (behind_head st held) j a (limited st (Some (j, a)) q e)
        ∙ ap (λ (g : Got (List Run)). then g (j7 st held h.flag h.length (take h.marks h.table))) (sym rr.is ∙ ap (got_runs text (h.lines + 1 + 2 * j) j r) p)

    pub runs_wrong : 0 < r.line → (x : TankLine) → x.line ≡ r.line → x.at ≡ 0 → x.lines ≡ 0 → ReadsTank v limit text from t n x
    runs_wrong w x p b l = tank_bad v limit text from t n r.line x p b l (omega arith) λ st held q.
        runs_step r.line refl st held q
        ∙ ap (λ (g : Got (List Run)). then g (j7 st held h.flag h.length (take h.marks h.table))) (runs_bad text (h.lines + 1 + 2 * j) j r r.line (omega arith))

    module _ (w : r.line ≤ 0) (all : ℕ) (ea : all ≡ 2 ^ h.marks - 1) (room : Bool) (er : room ≡ roomy (take h.marks h.table)) where
      adds_is : (st : List Setting) (held : List ℕ) → adds st held h.length (take h.marks h.table) (runs r.lens r.sets j)
          ≡ (eqb r.sum h.length && (eqb r.all all && room)) && leb (claimed st (held ++ j ∷ [])) 512
      unfolding adds adds_up
      adds_is st held =
          let zero-line : r.line ≡ 0 = omega arith in
          let k : length (take h.marks h.table) ≡ h.marks = omega (arith, rh.few, rh.table_64, length-take h.marks h.table) in
          rw (rr.sum zero-line)
          (rw (rr.all zero-line)
          (rw (same_sum (total (runs r.lens r.sets j)) h.length rh.small)
          (rw ea
          (rw er
          (rw k
          (rw (length_runs r.lens r.sets j)))))))

      pub sums_wrong : (eqb r.sum h.length && (eqb r.all all && room)) ≡ false → (x : TankLine) → x.line ≡ h.lines + 1 + 2 * j → x.at ≡ 0 → x.lines ≡ 0 → ReadsTank v limit text from t n x
      sums_wrong f x p b l = tank_bad v limit text from t n (h.lines + 1 + 2 * j) x p b l (omega arith) λ st held q.
          runs_step 0 (omega arith) st held q
          ∙ rw (adds_is st held ∙ ap (λ (c : Bool). c && leb (claimed st (held ++ j ∷ [])) 512) f)

      module _ (f : (eqb r.sum h.length && (eqb r.all all && room)) ≡ true) (th : t < 8) (least : 1 ≤ limit) (most : limit ≤ 512) (high : j ≤ most_runs h.flag limit) where
        under : j ≤ limit
        under = omega (arith, high, cond_most (eqb h.flag 1) limit 1 limit (omega arith) (omega arith))

        read_is : (st : List Setting) (held : List ℕ) → limit_of st t ≡ limit
            → tank_lines v st held t n (drop from text) ≡ provided (leb (claimed st (held ++ j ∷ [])) 512) (kept_in (tank_with h r j)) (h.lines + 1 + 2 * j) (drop r.at text)
        read_is st held q =
            runs_step 0 (omega arith) st held q
            ∙ ap (λ (c : Bool). provided c (kept_in (tank_with h r j)) (h.lines + 1 + 2 * j) (drop r.at text)) (adds_is st held ∙ ap (λ (c : Bool). c && leb (claimed st (held ++ j ∷ [])) 512) f)

        placed : Placed (tank_with h r j)
        placed = record {
          most = omega (arith, under);
          few = rh.few;
          lens_514 = rr.lens_514;
          sets_514 = rr.sets_514;
          table_64 = rh.table_64;
          spare = rr.spare;
          blanks = rh.blanks;
        }

        -- with settings that leave all the room there is
        lone : List Setting
        lone = replicate 8 (record { share = 0; limit = limit })

        lone_limit : limit_of lone t ≡ limit
        unfolding lone
        lone_limit = ap (λ (s : Setting). s.limit) (get_or-replicate 8 t (record { share = 0; limit = limit }) no_setting th)

        lone_sum : claimed lone (j ∷ []) ≤ 512
        unfolding lone sum_below
        lone_sum = omega (arith, under)

        formed : Formed (tank_with h r j)
        formed =
            let g : tank_lines v lone [] t n (drop from text) ≡ got (kept_in (tank_with h r j)) (h.lines + 1 + 2 * j) (drop r.at text) =
            read_is lone [] lone_limit ∙ rw (le-leb (claimed lone (j ∷ [])) 512 lone_sum) in
            formed_of {v = v} {st = lone} {held = []} {i = t} (tank_with h r j) placed (tank_only v lone [] t n (drop from text) (kept_in (tank_with h r j)) (h.lines + 1 + 2 * j) (drop r.at text) g).keeps

        pub tank_read : (x : Tank) → x ≡ tank_with h r j → ReadsTank v limit text from t n (record { line = 0; at = r.at; lines = h.lines + 1 + 2 * j; tank = x })
        tank_read x ex = rw ex record {
          good = λ e st held q. read_is st held q;
          wrong = λ e. absurd (omega arith);
          formed = λ e. formed;
          few = λ e. under;
          inside = rr.inside;
          lines_least = λ e. omega arith;
          lines_most = omega (arith, under, rh.lines_most, rh.few);
        }
