-- A log in several reads is the same log in one: of the rules, and of the code's own tanks and log.
use mathlib.Core.Path.{◌≡◌, refl, sym, ap, ap₂, ◌∙◌}
use mathlib.Core.List.{List, [], ◌∷◌, ◌++◌, foldl, flatten}
use Prim.Native.Nat.{ℕ}
use Rattle.script.specs.Lines.{empty_line}
use Rattle.script.proofs.CutLaws.{held_holding}
use Rattle.tanks.specs.declared.Tanks.{Tanks}
use Rattle.tanks.proofs.Unique.{unique}
use Rattle.day_log.specs.declared.Log.{Log}
use Rattle.day_log.specs.declared.Taken.{Taken}
use Rattle.day_log.specs.Log.{Course, after_bytes, course_at, course_of, log_at, Takes}
use Rattle.day_log.proofs.Bytes.{cut_anywhere}

-- any number of reads
pub any_reads : (x : Course) (reads : List (List ℕ)) → foldl after_bytes x reads ≡ after_bytes x (flatten reads)
unfolding after_bytes flatten
any_reads x [] = refl
any_reads x (a ∷ more) = any_reads (after_bytes x a) more ∙ sym (cut_anywhere x a (flatten more))

-- a course is that of its tanks and its log
course_again : (x : Course) → course_at x.house (log_at x) ≡ x
course_again x = ap (λ (t : List ℕ). record { house = x.house; reader = record { held = t; call = x.reader.call; newlines = x.reader.newlines }; edits = x.edits; stop = x.stop }) (held_holding empty_line x.reader.held)

pub taken_course : {s : Tanks} {l : Log} {bytes : List ℕ} {r : Taken} → Takes s l bytes r → course_of r.tanks r.log ≡ after_bytes (course_of s l) bytes
taken_course {s} {l} {bytes} t = ap₂ course_at t.house t.log ∙ course_again (after_bytes (course_of s l) bytes)

-- one result, where two reads lead to the same course
same_taken : {s s' : Tanks} {l l' : Log} {bytes more : List ℕ} (r q : Taken) → Takes s l bytes r → Takes s' l' more q → after_bytes (course_of s l) bytes ≡ after_bytes (course_of s' l') more → r ≡ q
same_taken r q t u e =
    let tanks = unique r.tanks q.tanks t.tanks_sound u.tanks_sound (t.house ∙ ap (λ (x : Course). x.house) e ∙ sym u.house) in
    let log = t.log ∙ ap log_at e ∙ sym u.log in
    λ i. record { tanks = tanks i; log = log i }

pub one_take : {s : Tanks} {l : Log} {bytes : List ℕ} (r q : Taken) → Takes s l bytes r → Takes s l bytes q → r ≡ q
one_take r q t u = same_taken r q t u refl

-- two reads hand back the very tanks and log of one
pub two_reads : {s : Tanks} {l : Log} {a b : List ℕ} (first second whole : Taken) → Takes s l a first → Takes first.tanks first.log b second → Takes s l (a ++ b) whole → second ≡ whole
two_reads {s} {l} {a} {b} first second whole t u w = same_taken second whole u w (ap (λ (x : Course). after_bytes x b) (taken_course t) ∙ sym (cut_anywhere (course_of s l) a b))
