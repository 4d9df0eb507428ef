-- Document 01, "Checked examples": what an example claims of the rules, and the table of the twelve that are numbered.
use Rattle.std.specs.Prelude.{ℕ, zero, suc, ◌+◌, ◌-◌, ◌≡◌, cond, List, [], ◌∷◌, ◌++◌, map, length, replicate, Option, Some}
use Rattle.std.proofs.Math.IntN as int
use Rattle.styles.specs.declared.Mark.{Mark}
use Rattle.styles.specs.declared.Party.TheVariants.{Plant}
use Rattle.styles.specs.declared.Value.TheVariants.{Null}
use Rattle.styles.specs.Marks.{winner}
use Rattle.styles.specs.Order.{id_of}
use Rattle.lists.specs.declared.anchors.Anchor.{Anchor}
use Rattle.richtext.specs.declared.AnchorType.TheVariants.{Start, End}
use Rattle.lists.specs.Anchors.{anchor_of, anchors}
use Rattle.questions.specs.declared.Told.{Told}
use Rattle.questions.specs.declared.Told.TheVariants.{Yes, No}
use Rattle.tank.specs.Rules.{View, fresh_length, runs_held, Edit, annotating, inserting, deleting, removing, after, refusal, when_accepted}
use Rattle.runs.specs.Positions.{within}
use Rattle.tanks.specs.declared.Setting.{Setting}
use Rattle.tanks.specs.Settings.{claims}
use Rattle.tanks.specs.House.{House, tank_at, held, open_number, opening, refusal_at, after_at, inserted_set_at, removed_first_at, Call, after_all}
use Rattle.tanks.specs.Pool.{tank_numbers}
use Rattle.ask.specs.Asks.{key_asked}

-- ---- What an example claims
-- a call's answer: the refusal's number, or accepted, an insertion's set, a removal's first position
pub data Answer : Type 0 where
  refused : ℕ → Answer
  taken : Answer
  gives : List Mark → Answer
  begins : ℕ → Answer

-- what an accepted call answers: an insertion its set, a removal the first position, annotate and delete no more than accepted
unfoldable pub reply : House → ℕ → Edit → Answer
reply h t (annotating a b m) = taken
reply h t (inserting who pos len) = gives (inserted_set_at h t who pos len)
reply h t (deleting who a b) = taken
reply h t (removing id last) = begins (removed_first_at h t id last)

-- what a call answers: its refusal's number, or what an accepted call does
abbrev pub answer : House → ℕ → Edit → Answer
answer h t e = when_accepted (refusal_at h t e) (reply h t e) (refused (refusal_at h t e))

-- the positions start .. end, each with these marks
pub record Range : Type 0 where
  pub start : ℕ
  pub end : ℕ
  pub marks : List Mark

-- the marks at a position: those of the range that it is in, and none outside of all
unfoldable pub marks_at : List Range → ℕ → List Mark
marks_at [] p = []
marks_at (r ∷ rs) p = cond (within r.start r.end p) r.marks (marks_at rs p)

-- a tank told by its length, the runs that it holds, and its marks
pub record Look : Type 0 where
  pub length : ℕ
  pub runs : ℕ
  pub marks : List Range

-- a tank that looks so: it has this length, holds so many runs, and carries these marks at each position
pub record Looks (l : Look) (v : View) : Type 0 where
  pub length_is : v.length ≡ l.length
  pub runs_are_lem : runs_held v ≡ l.runs
  pub marks_are : (p : ℕ) → v.at p ≡ marks_at l.marks p

-- the winners of a key, position by position: n of them from p on
unfoldable pub winners : ℕ → ℕ → ℕ → View → List (Option Mark)
winners key p zero v = []
winners key p (suc n) v = winner key (v.at p) ∷ winners key (suc p) n v

-- an example is told line by line
pub data Line : Type 0 where
  -- calls that went before, their answers left out
  given : List Call → Line
  -- a call on a tank, its answer, and the tank after it
  made : ℕ → Edit → Answer → Look → Line
  -- an edit that a tank's own rules allow would leave it with so many runs
  would : ℕ → Edit → ℕ → Line
  -- the runs that each tank holds, and the sum over tanks of the larger of runs and share
  runs_are : List ℕ → ℕ → Line
  -- of a tank: has any position of a .. b a mark with this key?
  contains_key : ℕ → ℕ → ℕ → ℕ → Told → Line
  -- of a tank: the winners of a key from a position on
  wins : ℕ → ℕ → ℕ → List (Option Mark) → Line
  -- of a tank: all its anchors
  anchored : ℕ → List Anchor → Line

-- what a line says of the house that it finds
unfoldable pub Says : Line → House → Type 0
unfolding reply winners
Says (given cs) h = Unit {0}
Says (made t e says seen) h = (answer h t e ≡ says) × Looks seen (tank_at (after_at h t e) t)
Says (would t e n) h = (refusal e (tank_at h t) ≡ 0) × (runs_held (after e (tank_at h t)) ≡ n)
Says (runs_are ns sum) h = (map (held h) tank_numbers ≡ ns) × (claims h.settings (held h) 8 ≡ sum)
Says (contains_key t a b key says) h = key_asked h t Plant a b key ≡ says
Says (wins t key p ws) h = winners key p (length ws) (tank_at h t) ≡ ws
Says (anchored t xs) h = anchors (tank_at h t) ≡ xs

-- and the house that it leaves
unfoldable pub leaves : Line → House → House
leaves (given cs) h = after_all h cs
leaves (made t e says seen) h = after_at h t e
leaves (would t e n) h = h
leaves (runs_are ns sum) h = h
leaves (contains_key t a b key says) h = h
leaves (wins t key p ws) h = h
leaves (anchored t xs) h = h

-- every line is true of the house that the lines before it leave
unfoldable pub AllSaid : List Line → House → Type 0
unfolding Says leaves
AllSaid [] h = Unit {0}
AllSaid (l ∷ ls) h = Says l h × AllSaid ls (leaves l h)

-- an example: the settings, which opening accepts, and the lines from there on
pub record Case : Type 0 where
  pub settings : List Setting
  pub lines : List Line

-- an example holds: opening accepts its settings, and all its lines are true from there on
unfoldable pub Holds : Case → Type 0
unfolding AllSaid
Holds c = (open_number c.settings ≡ 0) × AllSaid c.lines (opening c.settings)

-- every example of the table holds
unfoldable pub AllHold : List Case → Type 0
unfolding Holds
AllHold [] = Unit {0}
AllHold (c ∷ cs) = Holds c × AllHold cs

-- ---- How the table writes it
-- marks by key, lamport and peer; the flag byte, the counter and the value play no part
abbrev pub mark : ℕ → ℕ → ℕ → Mark
mark key lamport peer = record { key = key; flags = 0x84; party = Plant; lamport = lamport; cnt = int.pos 0; peer = peer; value = Null }

-- A = (key 1, lamport 5, peer 1)
abbrev pub A : Mark
A = mark 1 5 1

-- B = (1, 5, 2)
abbrev pub B : Mark
B = mark 1 5 2

-- C = (2, 3, 1)
abbrev pub C : Mark
C = mark 2 3 1

-- these marks on a .. b
abbrev pub on : ℕ → ℕ → List Mark → Range
on a b ms = record { start = a; end = b; marks = ms }

-- length, how many runs, marks; a fresh tank's length, T, is `fresh_length`
abbrev pub look : ℕ → ℕ → List Range → Look
look l n rs = record { length = l; runs = n; marks = rs }

-- eight pairs of this share and this limit
abbrev pub opened : ℕ → ℕ → List Line → Case
opened share limit lines = record { settings = replicate 8 (record { share = share; limit = limit }); lines = lines }

-- one fresh tank with room, which is tank 0
abbrev pub alone : List Line → Case
alone = opened 1 512

-- a call on that tank, its answer, and the tank after it
abbrev pub edit : Edit → Answer → Look → Line
edit = made 0

-- A on 10..20, with which most of them begin
abbrev pub first_a : Line
first_a = edit (annotating 10 20 A) taken (look fresh_length 3 (on 10 20 (A ∷ []) ∷ []))

-- A on n positions, every second one from p on: 2n runs where p is 0, and 2n + 1 where it is 1
unfoldable pub dots : ℕ → ℕ → List Range
dots p zero = []
dots p (suc n) = on p (p + 1) (A ∷ []) ∷ dots (p + 2) n

-- the calls on a tank that lay A so
unfoldable pub laying : ℕ → List Range → List Call
laying t [] = []
laying t (r ∷ rs) = record { tank = t; edit = annotating r.start r.end A } ∷ laying t rs

-- A on the last position makes a run more
abbrev pub last_a : Edit
last_a = annotating (fresh_length - 1) fresh_length A

-- ---- The table
-- the twelve numbered examples in their order; the tenth takes two cases
unfoldable pub table : List Case
unfolding dots laying
table =
    -- 1. Insert 5, len 3: empty set, length T.
    alone (edit (inserting Plant 5 3) (gives []) (look fresh_length 1 []) ∷ [])
    -- 2. A on 10..20: 3 runs, start at 10, end at 19.
    ∷ alone (first_a ∷ anchored 0 (anchor_of 10 Start A ∷ anchor_of 19 End A ∷ []) ∷ [])
    -- 3. Then insert 15, len 4: {A}, A on 10..24, length 4611686018427387907.
    ∷ alone (first_a ∷ edit (inserting Plant 15 4) (gives (A ∷ [])) (look 4611686018427387907 3 (on 10 24 (A ∷ []) ∷ [])) ∷ [])
    -- 4. Instead insert 10, len 4: empty, A on 14..24, 3 runs.
    ∷ alone (first_a ∷ edit (inserting Plant 10 4) (gives []) (look 4611686018427387907 3 (on 14 24 (A ∷ []) ∷ [])) ∷ [])
    -- 5. A on 10..20, C on 15..25: 5 runs. Insert 15, len 2: {A}, still 5.
    ∷ alone
    (first_a
    ∷ edit (annotating 15 25 C) taken (look fresh_length 5 (on 10 15 (A ∷ []) ∷ on 15 20 (A ∷ C ∷ []) ∷ on 20 25 (C ∷ []) ∷ []))
    ∷ edit (inserting Plant 15 2) (gives (A ∷ [])) (look 4611686018427387905 5 (on 10 17 (A ∷ []) ∷ on 17 22 (A ∷ C ∷ []) ∷ on 22 27 (C ∷ []) ∷ []))
    ∷ [])
    -- 6. A on 10..20, C on 20..30: 4 runs. Insert 20, len 1: empty, 5 runs.
    ∷ alone
    (first_a
    ∷ edit (annotating 20 30 C) taken (look fresh_length 4 (on 10 20 (A ∷ []) ∷ on 20 30 (C ∷ []) ∷ []))
    ∷ edit (inserting Plant 20 1) (gives []) (look 4611686018427387904 5 (on 10 20 (A ∷ []) ∷ on 21 31 (C ∷ []) ∷ []))
    ∷ [])
    -- 7. A and B on 10..20: B wins key 1.
    ∷ alone
    (first_a ∷ edit (annotating 10 20 B) taken (look fresh_length 3 (on 10 20 (A ∷ B ∷ []) ∷ [])) ∷ wins 0 1 10 (replicate 10 (Some B)) ∷ [])
    -- 8. A on 10..20, delete 10..20: 1 run, length 4611686018427387893. Insert 0, len 10: length T.
    ∷ alone
    (first_a ∷ edit (deleting Plant 10 20) taken (look 4611686018427387893 1 []) ∷ edit (inserting Plant 0 10) (gives []) (look fresh_length 1 []) ∷ [])
    -- 9. A on 10..20, remove from 19: answer 10, 1 run.
    ∷ alone (first_a ∷ edit (removing (id_of A) 19) (begins 10) (look fresh_length 1 []) ∷ [])
    -- 10. Remove from 14 instead: answer 10, A on 15..20.
    ∷ alone (first_a ∷ edit (removing (id_of A) 14) (begins 10) (look fresh_length 3 (on 15 20 (A ∷ []) ∷ [])) ∷ [])
    -- From 5: answer 6.
    ∷ alone (first_a ∷ edit (removing (id_of A) 5) (begins 6) (look fresh_length 3 (on 10 20 (A ∷ []) ∷ [])) ∷ [])
    -- 11. A on 10..20. Key 1 in 20..30: no. In 19..20: yes. In 5..5: no.
    ∷ alone (first_a ∷ contains_key 0 20 30 1 No ∷ contains_key 0 19 20 1 Yes ∷ contains_key 0 5 5 1 No ∷ [])
    -- 12. Shares 40, limits 200. Tank 0 holds 200, tank 1 holds 72, tank 3 holds 39, the rest 40: sum 512.
    -- Tank 2 to 41: 10. Tank 0 to 201: 9. Tank 3 from 39 to 40: accepted.
    ∷ opened 40 200
    (given (laying 0 (dots 0 100))
    ∷ given (laying 1 (dots 0 36))
    ∷ given (laying 2 (dots 0 20))
    ∷ given (laying 3 (dots 1 19))
    ∷ given (laying 4 (dots 0 20) ++ laying 5 (dots 0 20) ++ laying 6 (dots 0 20) ++ laying 7 (dots 0 20))
    ∷ runs_are (200 ∷ 72 ∷ 40 ∷ 39 ∷ 40 ∷ 40 ∷ 40 ∷ 40 ∷ []) 512
    ∷ would 2 last_a 41
    ∷ made 2 last_a (refused 10) (look fresh_length 40 (dots 0 20))
    ∷ would 0 last_a 201
    ∷ made 0 last_a (refused 9) (look fresh_length 200 (dots 0 100))
    ∷ made 3 last_a taken (look fresh_length 40 (dots 1 19 ++ on (fresh_length - 1) fresh_length (A ∷ []) ∷ []))
    ∷ runs_are (200 ∷ 72 ∷ 40 ∷ 40 ∷ 40 ∷ 40 ∷ 40 ∷ 40 ∷ []) 512
    ∷ [])
    ∷ []
