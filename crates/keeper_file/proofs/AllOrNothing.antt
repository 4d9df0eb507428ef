-- All or nothing: for any logs, each cut into reads anywhere, a merge keeps the file of the tanks after all of them, or where one stops the file
-- that there was. Nothing behind a log that stops changes anything.
use mathlib.Core.Path.{◌≡◌, refl, sym, ap, ◌∙◌}
use mathlib.Core.Bool.{Bool, true, false, cond}
use mathlib.Core.List.{List, [], ◌∷◌, ◌++◌, foldl-append, flatten, map}
use Prim.Native.Nat.{ℕ, ◌^◌, ◌≤◌, ◌<◌}
use lib.ListN.{length}
use Rattle.text.specs.Bytes.{bytes, starts_of}
use Rattle.script.specs.Lines.{empty_line, after_of, brings_of, ending_of}
use Rattle.script.proofs.CutLaws.{held_holding}
use Rattle.tanks.specs.declared.Tanks.{Tanks}
use Rattle.tanks.specs.House.{House}
use Rattle.tanks.specs.Pool as pool
use Rattle.day_log.specs.declared.Log.{Log}
use Rattle.day_log.specs.declared.Stop.{Stop}
use Rattle.day_log.specs.Log.{Course, going, after_bytes, at_end, course_at, log_at}
use Rattle.day_log.proofs.Bytes.{cut_anywhere, stopped_stays}
use Rattle.keeper_file.specs.declared.Merge.{Merge}
use Rattle.keeper_file.specs.declared.Renewed.{Renewed}
use Rattle.keeper_file.specs.File.{file_of, most_bytes, kept_then}
use Rattle.keeper_file.specs.Merging.{Standing, set_out, poured_on, ended_with, log_over, after_log, after_logs, merged_house, merged_logs, merged_stop, merged_edits, merged_after, standing_of, Sound, Stands, Settles, Pours, no_read, read, Merges, no_log, log}
use Rattle.keeper_file.proofs.Renewal.{file_fits, renewed_kept}

-- ---- What the theorem speaks of
-- what is kept after a merge of some logs over a house, whose file was kept at a place
pub record AllOrNothing (place : ℕ) (h : House) (all : List (List ℕ)) (kept then : List ℕ) : Type 0 where
  pub every : going (merged_stop h all) ≡ true → then ≡ file_of place (merged_house h all)
  pub none : going (merged_stop h all) ≡ false → then ≡ kept
  pub file : kept ≡ file_of place h → then ≡ file_of place (merged_after h all)

-- and what may be said of them: how many ended well, where the next one stopped, and how many edits those applied
pub record Told (h : House) (all : List (List ℕ)) (last : Merge) : Type 0 where
  pub logs : last.logs ≡ merged_logs h all
  pub stop : last.log.stop ≡ merged_stop h all
  pub edits : last.edits ≡ merged_edits h all

-- ---- Of the rules
-- logs in two lots
pub logs_append : (x : Standing) (a b : List (List ℕ)) → after_logs x (a ++ b) ≡ after_logs (after_logs x a) b
unfolding after_logs
logs_append x a b = foldl-append after_log x a b

course_back : (x : Course) → course_at x.house (log_at x) ≡ x
course_back x = ap (λ (t : List ℕ). record { house = x.house; reader = record { held = t; call = x.reader.call; newlines = x.reader.newlines }; edits = x.edits; stop = x.stop }) (held_holding empty_line x.reader.held)

end_stays : (l : Log) → going l.stop ≡ false → at_end l ≡ l
unfolding at_end
end_stays l g = rw g

-- a merge that stopped stays as it is: by the end of its log
over_stays : (x : Standing) → going x.course.stop ≡ false → log_over x ≡ x
unfolding log_over
over_stays x g = ap (ended_with x) (end_stays (log_at x.course) g) ∙ rw g (ap (λ (c : Course). record { course = c; logs = x.logs; edits = x.edits }) (course_back x.course))

-- by another log
log_stays : (x : Standing) (more : List ℕ) → going x.course.stop ≡ false → after_log x more ≡ x
unfolding after_log
log_stays x more g = ap (λ (c : Course). log_over (record { course = c; logs = x.logs; edits = x.edits })) (stopped_stays x.course more g) ∙ over_stays x g

-- and by any
pub stopped_merge : (x : Standing) (more : List (List ℕ)) → going x.course.stop ≡ false → after_logs x more ≡ x
unfolding after_logs
stopped_merge x [] g = refl
stopped_merge x (a ∷ more) g = ap (λ (y : Standing). after_logs y more) (log_stays x a g) ∙ stopped_merge x more g

-- where the last of some logs did not stop, none before it did
pub none_before : (x : Standing) (a b : List (List ℕ)) → going (after_logs x (a ++ b)).course.stop ≡ true → going (after_logs x a).course.stop ≡ true
none_before x a b h = by (going (after_logs x a).course.stop) refl where
  by : (t : Bool) → going (after_logs x a).course.stop ≡ t → t ≡ true
  by true e = refl
  by false e = sym e ∙ sym (ap (λ (y : Standing). going y.course.stop) (logs_append x a b ∙ stopped_merge (after_logs x a) b e)) ∙ h

-- ---- Of the code's own merges
-- reads of one log are that log
poured_all : {m last : Merge} {reads : List (List ℕ)} → Sound m → Pours m reads last → Stands last (poured_on (standing_of m) (flatten reads))
unfolding after_bytes flatten
poured_all h no_read = record { sound = h; is = refl }
poured_all {m} {last} h (read {bytes = a} {more = more} s p) =
    let k = poured_all s.sound p in
    record {
      sound = k.sound;
      is =
          k.is
          ∙ ap (λ (x : Standing). poured_on x (flatten more)) s.is
          ∙ ap (λ (c : Course). record { course = c; logs = m.logs; edits = m.edits }) (sym (cut_anywhere (standing_of m).course a (flatten more)));
    }

-- and logs in reads are those logs
pub merged_all : {m last : Merge} {all : List (List (List ℕ))} → Sound m → Merges m all last → Stands last (after_logs (standing_of m) (map flatten all))
unfolding after_logs after_log
merged_all h no_log = record { sound = h; is = refl }
merged_all {m} {last} h (log {reads = reads} {more = more} p s rest) =
    let k = merged_all s.sound rest in
    record {
      sound = k.sound;
      is = k.is ∙ ap (λ (x : Standing). after_logs x (map flatten more)) (s.is ∙ ap log_over (poured_all h p).is);
    }

-- ---- What is told of them
module _ (s : Tanks) (all : List (List (List ℕ))) (first last : Merge) (b : Stands first (set_out (pool.meaning s))) (m : Merges first all last) where
  stands : Stands last (after_logs (set_out (pool.meaning s)) (map flatten all))
  stands = let k = merged_all b.sound m in record { sound = k.sound; is = k.is ∙ ap (λ (x : Standing). after_logs x (map flatten all)) b.is }

  pub merge_told : Told (pool.meaning s) (map flatten all) last
  merge_told =
      record {
        logs = ap (λ (x : Standing). x.logs) stands.is;
        stop = ap (λ (x : Standing). x.course.stop) stands.is;
        edits = ap (λ (x : Standing). x.edits) stands.is;
      }

-- ---- All or nothing
module _ (s : Tanks) (place : ℕ) (all : List (List (List ℕ))) (first last : Merge) (kept buffer out : List ℕ) (r : Renewed) (small : place < 2 ^ 64) (room : most_bytes ≤ length buffer) (b : Stands first (set_out (pool.meaning s))) (m : Merges first all last) (w : Settles (standing_of last) place kept buffer r out) where
  abbrev ends : Stands last (after_logs (set_out (pool.meaning s)) (map flatten all))
  ends = stands s all first last b m

  stop_is : going last.log.stop ≡ going (merged_stop (pool.meaning s) (map flatten all))
  stop_is = ap (λ (x : Standing). going x.course.stop) ends.is

  all_kept : going (merged_stop (pool.meaning s) (map flatten all)) ≡ true → kept_then r out kept ≡ file_of place (merged_house (pool.meaning s) (map flatten all))
  all_kept g =
      let e = w.all (stop_is ∙ g) in
      renewed_kept place (pool.meaning last.tanks) kept buffer out r e (e.number_is ∙ file_fits last.tanks place (length buffer) ends.sound.tanks small room)
      ∙ ap (λ (x : Standing). file_of place x.course.house) ends.is

  none_kept : going (merged_stop (pool.meaning s) (map flatten all)) ≡ false → kept_then r out kept ≡ kept
  none_kept g = ap (λ (x : Renewed). kept_then x out kept) (w.none (stop_is ∙ g)).0

  file_kept : kept ≡ file_of place (pool.meaning s) → kept_then r out kept ≡ file_of place (merged_after (pool.meaning s) (map flatten all))
  file_kept k = by (going (merged_stop (pool.meaning s) (map flatten all))) all_kept none_kept where
    by : (t : Bool) → (t ≡ true → kept_then r out kept ≡ file_of place (merged_house (pool.meaning s) (map flatten all))) → (t ≡ false → kept_then r out kept ≡ kept) → kept_then r out kept ≡ file_of place (cond t (merged_house (pool.meaning s) (map flatten all)) (pool.meaning s))
    by true f g = f refl
    by false f g = g refl ∙ k

  pub all_or_nothing : AllOrNothing place (pool.meaning s) (map flatten all) kept (kept_then r out kept)
  all_or_nothing = record { every = all_kept; none = none_kept; file = file_kept }

-- ---- Examples
-- no log, and one of no bytes, leave all as it was
example_none : (h : House) → merged_after h [] ≡ h
unfolding after_logs
example_none h = refl

example_empty : (h : House) → merged_after h ([] ∷ []) ≡ h
unfolding after_logs ending_of
example_empty h = refl

-- the second of two logs is no log: nothing is kept
example_wrong : (h : House) → merged_stop h ([] ∷ bytes "x\n" ∷ []) ≡ Stop.Refused 1 13
unfolding after_logs ending_of brings_of after_of starts_of
example_wrong h = refl
