-- Behind what a log keeps of a line stand zeros, however its bytes came: so where a log stands says all of it.
use mathlib.Core.Path.{◌≡◌, refl, sym, ap, subst, ◌∙◌}
use mathlib.Core.Bool.{Bool, true, false, cond}
use mathlib.Core.List.{List, [], ◌++◌}
use Prim.Native.Nat.{ℕ, ◌+◌, ◌-◌, ◌≤◌, min}
use native.Mathlib.Omega.{arith}
use lib.ListN.{length, drop, replicate, length-take, length-append}
use lib.Seq.{drop-append-add, drop-drop}
use Rattle.script.specs.declared.Call.{Call}
use Rattle.script.specs.declared.Fed.{Fed}
use Rattle.script.specs.declared.Line.{Line}
use Rattle.script.specs.declared.Progress.{Progress}
use Rattle.script.specs.declared.Reader.{Reader}
use Rattle.script.specs.Lines.{line_front, has_end, held_of, empty_line, holding, grown_of, State, state_of, turned_of, read_of, after_of, reader_after, Feeds}
use Rattle.script.proofs.CutLaws.{held_holding}
use Rattle.tanks.specs.House.{House}
use Rattle.day_log.specs.declared.Log.{Log}
use Rattle.day_log.specs.Log.{course_at, log_at, Tidy, Sound}

pub tidy_in : (t : List ℕ) → length t ≤ 65 → Tidy (holding empty_line t)
tidy_in t h =
    let e = held_holding empty_line t in
    record { zeros = ap (holding empty_line) (sym e); short = subst (λ (k : List ℕ). length k ≤ 65) (sym e) h }

pub tidy_empty : Tidy empty_line
tidy_empty = tidy_in [] (omega arith)

-- what stands behind a longer text stood behind the shorter one too
drop_longer : (n : ℕ) (a z : List ℕ) → length a ≤ n → drop n (a ++ drop (length a) z) ≡ drop n z
drop_longer n a z h =
    let e : n ≡ length a + (n - length a) = omega arith in
    ap (λ (k : ℕ). drop k (a ++ drop (length a) z)) e
    ∙ drop-append-add a (drop (length a) z) (n - length a)
    ∙ drop-drop (n - length a) (length a) z
    ∙ ap (λ (k : ℕ). drop k z) (sym e)

holding_more : (l : Line) (t : List ℕ) → Tidy l → length (held_of l) ≤ length t → holding l t ≡ holding empty_line t
holding_more l t y h =
    ap (λ (k : Line). holding k t) y.zeros
    ∙ ap (λ (z : List ℕ). record { text = t ++ z; count = length t }) (drop_longer (length t) (held_of l) (replicate 65 0) h)

turned_held : (n : ℕ) (p : Progress) (c : Call) → (turned_of n p c).held ≡ []
turned_held n Progress.Bad c = refl
turned_held n Progress.More c = refl
turned_held n Progress.Ready c = refl

after_tidy : (r : Reader) (rest : List ℕ) → Tidy r.line → Tidy (reader_after r rest).line
unfolding reader_after after_of
after_tidy r rest y = by (has_end rest) where
  grown : List ℕ
  grown = grown_of (held_of r.line) rest

  grown_length : length grown ≡ min 65 (length (held_of r.line) + length (line_front rest))
  grown_length = length-take 65 (held_of r.line ++ line_front rest) ∙ ap (min 65) (length-append (held_of r.line) (line_front rest))

  next : State
  next = turned_of r.newlines (read_of (state_of r) rest).progress (read_of (state_of r) rest).call

  by : (b : Bool) → Tidy (holding (cond b empty_line r.line) (cond {A = State} b next (record { held = grown; call = r.call; newlines = r.newlines })).held)
  by true = subst (λ (t : List ℕ). Tidy (holding empty_line t)) (sym (turned_held r.newlines (read_of (state_of r) rest).progress (read_of (state_of r) rest).call)) tidy_empty
  by false = subst Tidy (sym (holding_more r.line grown y (omega (arith, grown_length, y.short)))) (tidy_in grown (omega (arith, grown_length)))

pub fed_tidy : {r : Reader} {bytes : List ℕ} {from : ℕ} {f : Fed} → Feeds r bytes from f → Tidy r.line → Tidy f.reader.line
fed_tidy {r} {bytes} {from} fed y = subst (λ (k : Reader). Tidy k.line) (sym fed.reader) (after_tidy r (drop from bytes) y)

-- so a log is that of its course
pub log_of : (h : House) (l : Log) → Sound l → l ≡ log_at (course_at h l)
log_of h l k = ap (λ (t : Line). record { reader = record { line = t; call = l.reader.call; newlines = l.reader.newlines }; edits = l.edits; stop = l.stop }) k.tidy.zeros
