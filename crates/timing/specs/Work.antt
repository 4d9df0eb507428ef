-- The benchmark's work by the rules: the tank that is built, the call of each work at a turn, what it counts for, and the sum over the turns.
-- Works 0 to 7 are edits; 8 and 9 ask for a key, 10 for a value, 11 for the marks of a position; 12 to 15 ask the same of a tank in which the
-- lab has a mark too. Only one tank is worked on, t, and every key is counted from a base.
use Rattle.std.specs.Prelude.{Result, Ok, Err, ℕ, zero, suc, ◌+◌, ◌-◌, ◌*◌, ◌/◌, ◌%◌, ◌^◌, min, max, cond, List, length, pos, ◌==◌, nat_lt, slice_set}
use Rattle.styles.specs.declared.Mark.{Mark}
use Rattle.styles.specs.declared.Party.TheVariants.{Plant, Lab}
use Rattle.styles.specs.declared.Value.TheVariants.{Null, Whole}
use Rattle.styles.specs.Order.{id_of}
use Rattle.styles.specs.Values.{same_value}
use Rattle.runs.specs.Positions.{sum_below}
use Rattle.tank.specs.Rules.{Edit, annotating, inserting, deleting, removing}
use Rattle.refusal.specs.declared.Refusal.{Refusal}
use Rattle.tanks.specs.declared.Done.{Done}
use Rattle.tanks.specs.declared.Setting.{Setting}
use Rattle.tanks.specs.House.{House, tank_at, smallest_settings, opening, refusal_at, after_at, inserted_set_at}
use Rattle.tanks.specs.Promises.{set_beside}
use Rattle.questions.specs.declared.Told.{Told}
use Rattle.questions.specs.declared.Shown.{Shown}
use Rattle.ask.specs.Asks.{key_asked, value_asked, marks_asked}

-- ---- Sizes
-- so many runs that a marked one has a neighbour, and that there is room for two more
abbrev pub sized : ℕ → ℕ
sized runs = min 503 (max 3 runs)

-- at least one mark, and room for the extra one
abbrev pub marked : ℕ → ℕ
marked marks = min 47 (max 1 marks)

-- ---- The tank that the work starts from: runs of ten positions each, and the unmarked rest
-- mark b
abbrev pub mark_b : ℕ → ℕ → Mark
mark_b base b = record { key = base + b + 1; flags = 0x84; party = Plant; lamport = b + 10; cnt = pos 0; peer = 1; value = Whole (pos (b + 1)) }

-- the mark that annotate and removal are timed with
abbrev pub extra : ℕ → Mark
extra base = record { key = base + 777; flags = 0x84; party = Plant; lamport = 1; cnt = pos 0; peer = 1; value = Null }

-- the lab's mark, in a tank that both parties have marks in
abbrev pub others : ℕ → Mark
others base = record { key = base + 888; flags = 0x84; party = Lab; lamport = 1; cnt = pos 0; peer = 2; value = Null }

-- all room for tank t
abbrev pub settings : ℕ → List Setting
settings t = slice_set smallest_settings t (record { share = 1; limit = 505 })

-- tank t with a mark more
abbrev pub annotated : ℕ → ℕ → ℕ → Mark → House → House
annotated t a b m h = after_at h t (annotating a b m)

-- step 0, then step 1, up to step n - 1
unfoldable pub steps : (ℕ → House → House) → ℕ → House → House
steps step zero h = h
steps step (suc n) h = step n (steps step n h)

-- mark b on all marked runs, but for run 0 where the runs are an odd number
abbrev pub on_all : ℕ → ℕ → ℕ → ℕ → House → House
on_all t base runs b = annotated t (runs % 2 * 10) (runs * 10 - 10) (mark_b base b)

-- mark b on the run with the number runs % 2 + 2 j: one of every other run, of which the last is the last marked one
abbrev pub other_run : ℕ → ℕ → ℕ → ℕ → ℕ → House → House
other_run t base runs b j = annotated t ((runs % 2 + j * 2) * 10) ((runs % 2 + j * 2) * 10 + 10) (mark_b base b)

-- mark b on all of those: every other run
abbrev pub every_other : ℕ → ℕ → ℕ → ℕ → House → House
every_other t base runs b = steps (other_run t base runs b) (runs / 2)

-- the lower half of the marks on all marked runs
abbrev pub lower : ℕ → ℕ → ℕ → ℕ → House → House
lower t base runs marks = steps (on_all t base runs) (marks / 2)

-- a mark of the upper half on every other run
abbrev pub upper_mark : ℕ → ℕ → ℕ → ℕ → ℕ → House → House
upper_mark t base runs marks j = every_other t base runs (marks / 2 + j)

-- all of them
abbrev pub upper : ℕ → ℕ → ℕ → ℕ → House → House
upper t base runs marks = steps (upper_mark t base runs marks) (marks - marks / 2)

-- the house with that tank
abbrev pub built : ℕ → ℕ → ℕ → ℕ → House
built t base runs marks = upper t base runs marks (lower t base runs marks (opening (settings t)))

-- ---- The calls
-- where the run begins that a turn works on: all marked runs in an order that jumps
abbrev pub spot : ℕ → ℕ → ℕ
spot runs turn = (turn % (runs - 1) * 7 + 3) % (runs - 1) * 10

-- where the run in the middle begins
abbrev pub middle : ℕ → ℕ
middle runs = (runs - 1) / 2 * 10

-- the edit of a turn. Work 0 lays the extra mark inside a run, 1 on the marked part but for its first and last position; 2 inserts inside a
-- run, 3 between two runs; 4 deletes inside a run, 5 across a boundary; 6 removes the extra mark from the end of the run in the middle, 7 from
-- that of the marked part
abbrev pub edit_at : ℕ → ℕ → ℕ → ℕ → Edit
edit_at work base runs turn =
    cond (work == 0) (annotating (spot runs turn + 3) (spot runs turn + 8) (extra base))
    (cond (work == 1) (annotating 1 (runs * 10 - 11) (extra base))
    (cond (work == 2) (inserting Plant (spot runs turn + 5) 1)
    (cond (work == 3) (inserting Plant (spot runs turn + 10) 2)
    (cond (work == 4) (deleting Plant (spot runs turn + 4) (spot runs turn + 6))
    (cond (work == 5) (deleting Plant (spot runs turn + 5) (spot runs turn + 15))
    (cond (work == 6) (removing (id_of (extra base)) (middle runs + 9))
    (removing (id_of (extra base)) (runs * 10 - 11))))))))

-- what the edits start from: for a removal one run in the middle, or the whole marked part, carries the extra mark
abbrev pub carrying : ℕ → ℕ → ℕ → ℕ → House → House
carrying work t base runs h =
    cond (work == 6) (annotated t (middle runs) (middle runs + 10) (extra base) h)
    (cond (work == 7) (annotated t 0 (runs * 10 - 10) (extra base) h) h)

-- what is asked: from work 12 on the run in the middle carries the lab's mark too
abbrev pub parted : ℕ → ℕ → ℕ → ℕ → House → House
parted work t base runs h = cond (nat_lt work 12) h (annotated t (middle runs) (middle runs + 10) (others base) h)

-- where the range begins that is asked for a key: three positions of a run, or for the wide work the whole marked part
abbrev pub key_from : ℕ → ℕ → ℕ → ℕ
key_from work runs turn = cond (work % 2 == 0) (spot runs turn + 3) 0

-- where it ends
abbrev pub key_to : ℕ → ℕ → ℕ → ℕ
key_to work runs turn = cond (work % 2 == 0) (spot runs turn + 6) (runs * 10 - 10)

-- ---- What a call counts for
-- an insertion, works 2 and 3: how many marks its answer holds; another edit: its number
abbrev pub counted : ℕ → ℕ → Edit → House → ℕ
counted work t e h = cond (work / 2 == 1) (length (set_beside (inserted_set_at h t) e)) (refusal_at h t e)

-- how many marks an edit's answer holds
abbrev pub marks_given : Result Done Refusal → ℕ
marks_given (Ok d) = d.styles.count
marks_given (Err refusal) = 0

-- turn k of works 0 to 7
abbrev pub edit_score : ℕ → ℕ → ℕ → ℕ → House → ℕ → ℕ
edit_score work t base runs h k = counted work t (edit_at work base runs k) h

-- 1 for yes
abbrev pub one_if_yes : Told → ℕ
one_if_yes (Told.Refused n) = 0
one_if_yes Told.No = 0
one_if_yes Told.Yes = 1

-- n where the whole number n is shown
abbrev pub if_shown : ℕ → Shown → ℕ
if_shown n (Shown.Refused m) = 0
if_shown n Shown.Nothing = 0
if_shown n (Shown.Shows v) = cond (same_value v (Whole (pos n))) n 0

-- turn k of the works that ask for a key: one that no mark has
abbrev pub key_score : ℕ → ℕ → ℕ → ℕ → House → ℕ → ℕ
key_score work t base runs h k = one_if_yes (key_asked h t Plant (key_from work runs k) (key_to work runs k) (base + 999))

-- of those that ask for a value: that of the highest key at a position
abbrev pub value_score : ℕ → ℕ → ℕ → ℕ → House → ℕ → ℕ
value_score t base runs marks h k = if_shown marks (value_asked h t Plant (spot runs k + 5) (base + marks))

-- of those that ask for the marks of a position: how many
abbrev pub set_score : ℕ → ℕ → House → ℕ → ℕ
set_score t runs h k = (marks_asked h t Plant (spot runs k + 5)).styles.count

-- ---- The sums, in 64 bits
-- of turns 0 to n - 1
abbrev pub summed : (ℕ → ℕ) → ℕ → ℕ
summed score n = sum_below score n % 2 ^ 64

-- the house after the last of n turns; each of them meets the same house
unfoldable pub left : (ℕ → Edit) → ℕ → ℕ → House → House
left edit t zero h = h
left edit t (suc n) h = after_at h t (edit n)

-- has a mark with the extra one's key been left? 1 for yes
abbrev pub extra_left : ℕ → ℕ → House → ℕ
extra_left t base h = one_if_yes (key_asked h t Plant 0 5000 (base + 777))

-- what the last house counts for, so that a compiler can't leave the edits undone
abbrev pub ending : ℕ → ℕ → House → ℕ
ending t base h = ((tank_at h t).length + extra_left t base h) % 2 ^ 64

-- edits
abbrev pub edit_sum : ℕ → ℕ → ℕ → ℕ → ℕ → House → ℕ
edit_sum work t base runs turns h =
    (summed (edit_score work t base runs h) turns + ending t base (left (edit_at work base runs) t turns h)) % 2 ^ 64

-- questions
abbrev pub ask_sum : ℕ → ℕ → ℕ → ℕ → ℕ → ℕ → House → ℕ
ask_sum work t base runs marks turns h =
    cond (nat_lt (work % 4) 2) (summed (key_score work t base runs h) turns)
    (cond (work % 4 == 2) (summed (value_score t base runs marks h) turns) (summed (set_score t runs h) turns))

-- the sum of a work on a tank of so many runs and marks; there is no other work
abbrev pub timed : ℕ → ℕ → ℕ → ℕ → ℕ → ℕ → ℕ
timed work t base runs marks turns =
    cond (nat_lt work 8) (edit_sum work t base runs turns (carrying work t base runs (built t base runs marks)))
    (cond (nat_lt work 16) (ask_sum work t base runs marks turns (parted work t base runs (built t base runs marks))) 0)
