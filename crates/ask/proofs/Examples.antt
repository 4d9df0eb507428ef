-- Document 01's numbered examples are true of the rules: their lines are computed on runs, and what is found there holds of the positions.
use Prim.Native.Nat.{ℕ}
use mathlib.Core.Path.{◌≡◌, refl, sym, ap, ap₂, ◌∙◌, subst}
use mathlib.Core.Bool.{Bool, true, cond}
use mathlib.Core.List.{List, [], ◌∷◌, map}
use lib.Dec.{eqb}
use lib.ListN.{length, replicate}
use Rattle.styles.specs.declared.Mark.{Mark}
use Rattle.styles.specs.declared.Party.TheVariants.{Plant}
use Rattle.styles.specs.Order.{numbers, stands}
use Rattle.styles.specs.Marks.{Above, Sorted, insert_mark, member, place_of, only, same_content, has_key, winner}
use Rattle.styles.specs.Bits.{pick, with_bit}
use Rattle.runs.specs.Runs.{total, set_at, changing}
use Rattle.runs.proofs.Copies.{join_run, push_run, copy_runs, altered, deleted, inserted}
use Rattle.runs.specs.Gather.{gather}
use Rattle.runs.specs.Positions.{any_at, stretch_to, all_at}
use Rattle.runs.specs.Scan.{common_at}
use Rattle.runs.specs.Positions.{sum_below}
use Rattle.tank.specs.Rules.{View, Edit, annotating, inserting, deleting, removing, shown_to, passes_share, crowded, needs, inherited, for_insert, back_from, barred, empty, over, long, made_flag, retired_flag, mark_number, own_number, clash, clashes, full, refusal}
use Rattle.tank.proofs.Counted.{counted}
use Rattle.tank.proofs.OnRuns.{known, number_on, runs_after, touched_after}
use Rattle.lists.specs.Anchors.{anchors, anchors_of}
use Rattle.lists.proofs.AnchorsOnRuns.{edges, anchors_on, anchors_on_lem}
use Rattle.questions.specs.declared.Told.TheVariants.{Refused}
use Rattle.questions.specs.Questions.{yes_no, yes_no_refusal, range_contains_key}
use Rattle.tanks.specs.declared.Setting.{Setting}
use Rattle.tanks.specs.Settings.{accepted, claims, judgement}
use Rattle.tanks.specs.House.{House, tank_at, open_number, no_tank, refusal_at, inserted_set_at, removed_first_at}
use Rattle.tanks.specs.Pool.{tank_numbers}
use Rattle.tanks.proofs.OnRuns.{RunsKept, fresh, kept_at, kept_after, tried, tried_clear, own_on, held_on, view_on, house_on, number_at, all_after, may, Way, step, steps, Fit, AllFit, all_fresh, opening_on, tank_on_lem, held_on_lem, number_on_lem, after_fit, after_on, step_clear, steps_clear, steps_on}
use Rattle.ask.specs.Examples.{Answer, refused, taken, gives, begins, reply, answer, marks_at, Look, Looks, winners, Line, given, made, would, runs_are, contains_key, wins, anchored, Says, leaves, AllSaid, Case, Holds, AllHold, A, B, C, table}
use Rattle.ask.proofs.Ranges.{range_of, ranges, ranges_at}

-- the marks of all examples, in order
abc : List Mark
abc = A ∷ B ∷ C ∷ []

sorted : Sorted abc
unfolding abc Sorted Above stands numbers
sorted = ((refl, (refl, tt)), ((refl, tt), (tt, tt)))

-- ---- what a call answers, by its number and the tank
unfoldable reply_on : ℕ → Edit → View → Answer
reply_on n (annotating a b m) v = taken
reply_on n (inserting who pos len) v = gives (cond (eqb n 0) (for_insert pos (shown_to who v)) [])
reply_on n (deleting who a b) v = taken
reply_on n (removing id last) v = begins (cond (eqb n 0) (back_from id last v) 0)

unfoldable answer_on : ℕ → Edit → View → Answer
unfolding reply_on
answer_on n e v = cond (eqb n 0) (reply_on n e v) (refused n)

answer_by : (h : House) (t : ℕ) (e : Edit) → answer h t e ≡ answer_on (refusal_at h t e) e (tank_at h t)
unfolding answer_on reply inserted_set_at removed_first_at
answer_by h t (annotating a b m) = refl
answer_by h t (inserting who pos len) = refl
answer_by h t (deleting who a b) = refl
answer_by h t (removing id last) = refl

-- ---- a line computed on runs
unfoldable look_on : RunsKept → Look
unfolding abc
look_on k = record { length = total k.runs; runs = length k.runs; marks = ranges abc k.runs }

-- the line with what is found in place of what it says
unfoldable finds : List Setting → List RunsKept → Line → Line
unfolding answer_on look_on abc
finds st ks (given cs) = given cs
finds st ks (made t e says look) =
    made t e (answer_on (number_at st abc ks t e) e (view_on abc (kept_at ks t))) (look_on (kept_at (all_after st abc ks t e) t))
finds st ks (would t e n) = would t e (length (kept_after abc e (kept_at ks t)).runs)
finds st ks (runs_are ns sum) = runs_are (map (held_on ks) tank_numbers) (claims st (held_on ks) 8)
finds st ks (contains_key t a b key says) = contains_key t a b key (cond (no_tank t) (Refused 1) (range_contains_key a b key (shown_to Plant (view_on abc (kept_at ks t)))))
finds st ks (wins t key p ws) = wins t key p (winners key p (length ws) (view_on abc (kept_at ks t)))
finds st ks (anchored t xs) = anchored t (anchors_on abc (kept_at ks t).runs)

-- and the tanks that it leaves
unfoldable next : List Setting → Way → Line → Way
unfolding abc
next st w (given cs) = steps st abc w cs
next st w (made t e says look) = step st abc w t e
next st w (would t e n) = tried abc w t e
next st w (runs_are ns sum) = w
next st w (contains_key t a b key says) = w
next st w (wins t key p ws) = w
next st w (anchored t xs) = w

-- ---- what is found on runs holds of positions
look_on_lem : (k : RunsKept) (look : Look) → Fit abc k → look_on k ≡ look → Looks look (view_on abc k)
unfolding look_on
look_on_lem k look f e = record {
  length_is = ap (λ (l : Look). l.length) e;
  runs_are_lem = counted abc k.runs sorted f.inside f.canon ∙ ap (λ (l : Look). l.runs) e;
  marks_are = λ p. sym (ranges_at abc k.runs p) ∙ ap (λ (l : Look). marks_at l.marks p) e;
}

-- a line is true of the house that it finds, and leaves the house that is computed
record Stands (st : List Setting) (w : Way) (l : Line) : Type 0 where
  says : Says l (house_on st abc w.kept)
  left : leaves l (house_on st abc w.kept) ≡ house_on st abc (next st w l).kept
  fits : AllFit abc (next st w l).kept

module _ (st : List Setting) (w : Way) (f : AllFit abc w.kept) where
  abbrev ks : List RunsKept
  ks = w.kept

  abbrev h : House
  h = house_on st abc ks

  made_stands : (t : ℕ) (e : Edit) (says : Answer) (look : Look) → (step st abc w t e).clear ≡ true
      → finds st ks (made t e says look) ≡ made t e says look → Stands st w (made t e says look)
  unfolding finds Says leaves next step all_after
  made_stands t e says look m q =
      let a : answer_on (number_at st abc ks t e) e (view_on abc (kept_at ks t)) ≡ says = cc in
      let b : look_on (kept_at (all_after st abc ks t e) t) ≡ look = cc in
      let ok = (step_clear abc sorted st w t e m).1 in
      let moved = after_on abc sorted st ks t e f ok in
      let fit = after_fit abc sorted st ks t e f ok in
      record {
        says = (
          answer_by h t e ∙ ap₂ (λ n v. answer_on n e v) (number_on_lem abc sorted st ks t e f ok) (tank_on_lem abc sorted st ks t) ∙ a,
          subst (Looks look) (sym (ap (λ g. tank_at g t) moved ∙ tank_on_lem abc sorted st (all_after st abc ks t e) t)) (look_on_lem _ look (fit t) b),
        );
        left = moved;
        fits = fit;
      }

  line_stands : (l : Line) → (next st w l).clear ≡ true → finds st ks l ≡ l → Stands st w l
  unfolding finds Says leaves next tried
  line_stands (given cs) m q = let k = steps_on abc sorted st w cs f m in record { says = tt; left = k.0; fits = k.1 }
  line_stands (made t e says look) m q = made_stands t e says look m q
  line_stands (would t e n) m q =
      let a : length (kept_after abc e (kept_at ks t)).runs ≡ n = cc in
      let k = own_on abc sorted st ks t e f (tried_clear abc w t e m).1 in
      record { says = (k.0, k.1 ∙ a); left = refl; fits = f }
  line_stands (runs_are ns sum) m q =
      let a : map (held_on ks) tank_numbers ≡ ns = cc in
      let b : claims st (held_on ks) 8 ≡ sum = cc in
      let e = held_on_lem abc sorted st ks f in
      record { says = (ap (λ g. map g tank_numbers) e ∙ a, ap (λ g. claims st g 8) e ∙ b); left = refl; fits = f }
  line_stands (contains_key t a b key says) m q =
      let r : cond (no_tank t) (Refused 1) (range_contains_key a b key (shown_to Plant (view_on abc (kept_at ks t)))) ≡ says = cc in
      record { says = ap (λ v. cond (no_tank t) (Refused 1) (range_contains_key a b key (shown_to Plant v))) (tank_on_lem abc sorted st ks t) ∙ r; left = refl; fits = f }
  line_stands (wins t key p ws) m q =
      let r : winners key p (length ws) (view_on abc (kept_at ks t)) ≡ ws = cc in
      record { says = ap (winners key p (length ws)) (tank_on_lem abc sorted st ks t) ∙ r; left = refl; fits = f }
  line_stands (anchored t xs) m q =
      let k = kept_at ks t in
      let r : anchors_on abc k.runs ≡ xs = cc in
      record {
        says = ap anchors (tank_on_lem abc sorted st ks t) ∙ anchors_on_lem k.touched abc k.runs sorted (f t).canon ∙ r;
        left = refl;
        fits = f;
      }

-- ---- all lines of an example
record Report : Type 0 where
  clear : Bool
  lines : List Line

abbrev onto : Line → Report → Report
onto l r = record { clear = r.clear; lines = l ∷ r.lines }

unfoldable report : List Setting → Way → List Line → Report
unfolding finds next
report st w [] = record { clear = w.clear; lines = [] }
report st w (l ∷ ls) = onto (finds st w.kept l) (report st (next st w l) ls)

-- where the end is clear, all was
next_clear : (st : List Setting) (w : Way) (l : Line) → (next st w l).clear ≡ true → w.clear ≡ true
unfolding next
next_clear st w (given cs) m = steps_clear abc sorted st w cs m
next_clear st w (made t e says look) m = (step_clear abc sorted st w t e m).0
next_clear st w (would t e n) m = (tried_clear abc w t e m).0
next_clear st w (runs_are ns sum) m = m
next_clear st w (contains_key t a b key says) m = m
next_clear st w (wins t key p ws) m = m
next_clear st w (anchored t xs) m = m

report_clear : (st : List Setting) (w : Way) (ls : List Line) → (report st w ls).clear ≡ true → w.clear ≡ true
unfolding report
report_clear st w [] m = m
report_clear st w (l ∷ ls) m = next_clear st w l (report_clear st (next st w l) ls m)

lines_stand : (st : List Setting) (w : Way) (ls : List Line) → AllFit abc w.kept → (report st w ls).clear ≡ true → (report st w ls).lines ≡ ls
    → AllSaid ls (house_on st abc w.kept)
unfolding report AllSaid
lines_stand st w [] f m q = tt
lines_stand st w (l ∷ ls) f m q =
    let here : finds st w.kept l ≡ l = cc in
    let there : (report st (next st w l) ls).lines ≡ ls = cc in
    let s = line_stands st w f l (report_clear st (next st w l) ls m) here in
    (s.says, subst (AllSaid ls) (sym s.left) (lines_stand st (next st w l) ls s.fits m there))

-- ---- all examples
record Found : Type 0 where
  opens : Bool
  report : Report

abbrev begin : Way
begin = record { clear = true; kept = replicate 8 fresh }

unfoldable found : Case → Found
unfolding report
found c = record { opens = accepted c.settings; report = report c.settings begin c.lines }

unfoldable claimed : Case → Found
claimed c = record { opens = true; report = record { clear = true; lines = c.lines } }

case_holds : (c : Case) → found c ≡ claimed c → Holds c
unfolding found claimed Holds open_number
case_holds c e =
    let a = ap (λ (x : Found). x.opens) e in
    let ls = lines_stand c.settings begin c.lines (all_fresh abc sorted 8)
    (ap (λ (x : Found). x.report.clear) e) (ap (λ (x : Found). x.report.lines) e)
    in (rw a, subst (AllSaid c.lines) (sym (opening_on abc sorted c.settings a)) ls)

all_hold : (cs : List Case) → map found cs ≡ map claimed cs → AllHold cs
unfolding AllHold
all_hold [] e = tt
all_hold (c ∷ cs) e =
    let here : found c ≡ claimed c = cc in
    let there : map found cs ≡ map claimed cs = cc in
    (case_holds c here, all_hold cs there)

pub examples : AllHold table
unfolding table found claimed abc accepted all_at sum_below
    number_at all_after step steps tried may judgement known number_on runs_after touched_after ranges range_of anchors_on edges anchors_of
    altered deleted inserted copy_runs push_run join_run changing gather common_at set_at total
    pick with_bit place_of member stands numbers clash same_content only has_key winner winners
    refusal barred shown_to passes_share crowded needs insert_mark empty over long own_number mark_number made_flag retired_flag clashes full for_insert inherited back_from stretch_to any_at yes_no yes_no_refusal
examples = all_hold table refl
