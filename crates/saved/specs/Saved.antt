-- Settings and eight tanks as a text: what is written down of a tank, and the text of it in each version. Version 1 is change request 6's, version 2
-- has each mark's party (change request 10), version 3 its counter as well (change request 11).
use Rattle.std.specs.Prelude.{◌≡◌, Bool, cond, List, [], ◌∷◌, ◌++◌, map, ℕ, suc, ◌+◌, ◌-◌, ◌*◌, ◌<◌, leb, pos, length}
use Rattle.text.specs.Bytes.{bytes}
use Rattle.text_lines.specs.Lines.{word_text, number_text, digits_text}
use Rattle.styles.specs.declared.Mark.{Mark}
use Rattle.styles.specs.declared.Party.{Party}
use Rattle.styles.specs.declared.Party.TheVariants.{Plant, Lab}
use Rattle.styles.specs.Order.{id_of}
use Rattle.styles.specs.Marks.{member}
use Rattle.runs.specs.Positions.{Stretch}
use Rattle.runs.specs.Runs.{Run, run}
use Rattle.tank.specs.Rules.{View, carried}
use Rattle.lists.specs.Lists.{stretches_over}
use Rattle.tanks.specs.declared.Setting.{Setting}
use Rattle.tanks.specs.House.{House, tank_at}
use Rattle.script.specs.Writing.{value_text, counter_text}
use Rattle.settings_text.specs.Text.{version_name, pairs_text}

-- ---- What is written down of a tank
-- touched or not, its length, the marks that it carries in their order, and its runs, the last first
pub record Saved : Type 0 where
  pub touched : Bool
  pub length : ℕ
  pub marks : List Mark
  pub runs : List Run

-- a set as a number over a list of marks: bit 0 says whether the first of them is in it
unfoldable pub numbered : List Mark → List Mark → ℕ
numbered [] set = 0
numbered (m ∷ ms) set = numbered ms set * 2 + cond (member (id_of m) set) 1 0

-- the runs of some stretches: how long each is, and the number of the set at its first position
unfoldable pub runs_as : (ℕ → ℕ) → List Stretch → List Run
runs_as number [] = []
runs_as number (x ∷ xs) = run (x.end - x.start) (number x.start) ∷ runs_as number xs

-- a tank, by its positions: the marks that some position carries, and the maximal stretches of equal sets
unfoldable pub saved_of : View → Saved
unfolding runs_as
saved_of v = record {
  touched = v.touched;
  length = v.length;
  marks = carried v;
  runs = runs_as (λ p. numbered (carried v) (v.at p)) (stretches_over 0 v.length v);
}

-- ---- The text of it
-- yes and no
abbrev pub flag_of : Bool → ℕ
flag_of b = cond b 1 0

-- what a version and those after it have
abbrev pub since : ℕ → ℕ → List ℕ → List ℕ
since first version text = cond (leb first version) text []

-- the word for a party
abbrev pub party_name : Party → List ℕ
party_name Plant = bytes "plant"
party_name Lab = bytes "lab"

-- the lines of a mark: the fields of an edge box's annotate, from version 2 on its party before them, from version 3 on its counter behind its peer
unfoldable pub saved_mark : ℕ → Mark → List ℕ
saved_mark version m =
    since 2 version (word_text (bytes "party=") (party_name m.party))
    ++ number_text (bytes "key=") m.key
    ++ number_text (bytes "lamport=") m.lamport
    ++ number_text (bytes "peer=") m.peer
    ++ since 3 version (counter_text m.cnt)
    ++ number_text (bytes "flags=") m.flags
    ++ value_text m.value

-- all marks, one after another
unfoldable pub marks_text : ℕ → List Mark → List ℕ
unfolding saved_mark
marks_text version [] = []
marks_text version (m ∷ ms) = saved_mark version m ++ marks_text version ms

-- the two lines of a run
abbrev pub run_text : Run → List ℕ
run_text r = number_text (bytes "len=") r.len ++ digits_text (bytes "set=") r.set

-- all runs, the first first
unfoldable pub runs_text : List Run → List ℕ
runs_text [] = []
runs_text (r ∷ rs) = runs_text rs ++ run_text r

-- the lines of tank t
unfoldable pub tank_text : ℕ → ℕ → Saved → List ℕ
unfolding marks_text runs_text
tank_text version t s =
    number_text (bytes "tank=") t
    ++ number_text (bytes "touched=") (flag_of s.touched)
    ++ number_text (bytes "length=") s.length
    ++ number_text (bytes "marks=") (length s.marks)
    ++ marks_text version s.marks
    ++ number_text (bytes "runs=") (length s.runs)
    ++ runs_text s.runs

-- the lines of the tanks from t on
unfoldable pub tanks_text : ℕ → ℕ → List Saved → List ℕ
unfolding tank_text
tanks_text version t [] = []
tanks_text version t (s ∷ ss) = tank_text version t s ++ tanks_text version (suc t) ss

-- settings and tanks written down, in a version
unfoldable pub saved_text : ℕ → List Setting → List Saved → List ℕ
unfolding tanks_text
saved_text version st ss = number_text version_name version ++ pairs_text 0 st ++ tanks_text version 0 ss

-- the text of a house in a version: of what it means, and of nothing else
unfoldable pub house_text : ℕ → House → List ℕ
unfolding saved_text saved_of
house_text version h = saved_text version h.settings (map saved_of h.tanks)

-- ---- What a version can say
-- a mark that it can: before version 2 none of the lab's, before version 3 none with a counter
pub record Sayable (version : ℕ) (m : Mark) : Type 0 where
  pub plant : version < 2 → m.party ≡ Plant
  pub uncounted : version < 3 → m.cnt ≡ pos 0

-- each of some marks
unfoldable pub AllSayable : ℕ → List Mark → Type 0
AllSayable version [] = Unit {0}
AllSayable version (m ∷ ms) = Sayable version m × AllSayable version ms

-- a house that it can: each mark that one of the eight tanks carries
abbrev pub SayableHouse : ℕ → House → Type 0
SayableHouse version h = (t : ℕ) → t < 8 → AllSayable version (carried (tank_at h t))
