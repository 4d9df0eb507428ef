-- What a saved text says, and which of its lines is the first that is wrong, in itself or against those before it. A line's bounds are those that
-- the lines before it leave; a sum and an unused mark are looked at when the last line of the settings or of the tank has been read. Earlier versions
-- have fewer lines: what they do not say of a mark is the plant for its party and 0 for its counter.
use Rattle.std.specs.Prelude.{Bool, true, cond, ◌&&◌, not, List, [], ◌∷◌, ◌++◌, map, ℕ, zero, suc, ◌+◌, ◌-◌, ◌^◌, max, leb, eqb, ℤ, pos, length, get_or, Option, Some, None}
use Rattle.text.specs.Bytes.{bytes, same_of}
use Rattle.text.specs.Signed.{signed32_of}
use Rattle.text_lines.specs.Lines.{Got, got, then, provided, ended, line, number_line, hex_line}
use Rattle.runs.specs.Positions.{sum_below}
use Rattle.runs.specs.Runs.{Run, run, total}
use Rattle.runs.specs.Gather.{gather}
use Rattle.styles.specs.declared.Identity.{Identity}
use Rattle.styles.specs.declared.Mark.{Mark}
use Rattle.styles.specs.declared.Party.{Party}
use Rattle.styles.specs.declared.Party.TheVariants.{Plant, Lab}
use Rattle.styles.specs.declared.Value.{Value}
use Rattle.styles.specs.Marks.{same_party}
use Rattle.styles.specs.Order.{rank}
use Rattle.styles.specs.Values.{value_nan}
use Rattle.tank.specs.Rules.{View, fresh_length, largest, marks_of, needs}
use Rattle.tank.specs.State.{view_of}
use Rattle.tanks.specs.declared.Setting.{Setting}
use Rattle.tanks.specs.Settings.{share_of, limit_of, shares}
use Rattle.tanks.specs.House.{House}
use Rattle.script.specs.declared.Kind.{Kind}
use Rattle.script.specs.Reading.{kind_named, value_of}
use Rattle.settings_text.specs.Text.{version_name, pairs_lines}
use Rattle.saved.specs.Saved.{Saved, party_name}

-- ---- A mark
-- a line that a version and those after it have; in earlier ones no line is read, and what it would have said is this
abbrev pub since_line : {A : Type 0} → ℕ → ℕ → A → (ℕ → List ℕ → Got A) → ℕ → List ℕ → Got A
since_line first version missing reading n text = cond (leb first version) (reading n text) (got missing n text)

-- a party by its name
abbrev pub party_named : List ℕ → Option Party
party_named t = cond (same_of t (party_name Plant)) (Some Plant) (cond (same_of t (party_name Lab)) (Some Lab) None)

-- behind a mark of the lab's comes none of the plant's
abbrev pub party_least : Option Mark → ℕ
party_least None = 0
party_least (Some p) = rank p.party

-- a party that is at least so much in their order
abbrev pub party_from : ℕ → Option Party → Option Party
party_from least None = None
party_from least (Some who) = cond (leb least (rank who)) (Some who) None

-- the line of a party
abbrev pub party_line : ℕ → ℕ → ℕ → List ℕ → Got Party
party_line version least n text = since_line 2 version Plant (line (bytes "party=") (λ t. party_from least (party_named t))) n text

-- the mark before, if it is of this party: each party's marks ascend by themselves
abbrev pub own_before : Option Mark → Party → Option Mark
own_before None who = None
own_before (Some p) who = cond (same_party who p.party) (Some p) None

-- the least that a key may be behind the mark before it
abbrev pub key_least : Option Mark → ℕ
key_least None = 0
key_least (Some p) = p.key

-- a lamport behind that mark and this key
abbrev pub lamport_least : Option Mark → ℕ → ℕ
lamport_least None key = 0
lamport_least (Some p) key = cond (eqb key p.key) p.lamport 0

-- a peer behind that mark, this key and this lamport: with both equal it must be greater
abbrev pub peer_least : Option Mark → ℕ → ℕ → ℕ
peer_least None key lamport = 0
peer_least (Some p) key lamport = cond (eqb key p.key && eqb lamport p.lamport) (p.peer + 1) 0

-- the lines of a party's identity, behind the mark of that party before it
unfoldable pub identity_lines : Option Mark → Party → ℕ → List ℕ → Got Identity
identity_lines before who n text =
    then (number_line (bytes "key=") (key_least before) (2 ^ 16 - 1) n text) λ key n text.
    then (number_line (bytes "lamport=") (lamport_least before key) (2 ^ 32 - 1) n text) λ lamport n text.
    then (number_line (bytes "peer=") (peer_least before key lamport) (2 ^ 64 - 1) n text) λ peer n text.
    got (record { party = who; key = key; lamport = lamport; peer = peer }) n text

-- a counter of signed 32 bits
abbrev pub counter_said : Option ℤ → Option ℤ
counter_said None = None
counter_said (Some z) = Some z

-- the line of a counter
abbrev pub counter_line : ℕ → ℕ → List ℕ → Got ℤ
counter_line version n text = since_line 3 version (pos 0) (line (bytes "cnt=") (λ t. counter_said (signed32_of t))) n text

-- a kind by its name
abbrev pub kind_said : Option Kind → Option Kind
kind_said None = None
kind_said (Some k) = Some k

-- a value that is no NaN
abbrev pub value_said : Option Value → Option Value
value_said None = None
value_said (Some v) = cond (value_nan v) None (Some v)

-- a mark by its identity and the rest of it
abbrev pub mark_with : Identity → ℤ → ℕ → Value → Mark
mark_with i cnt flags value = record { key = i.key; flags = flags; party = i.party; lamport = i.lamport; cnt = cnt; peer = i.peer; value = value }

-- the lines behind an identity; every flag byte is taken
unfoldable pub content_lines : ℕ → Identity → ℕ → List ℕ → Got Mark
content_lines version i n text =
    then (counter_line version n text) λ cnt n text.
    then (number_line (bytes "flags=") 0 255 n text) λ flags n text.
    then (line (bytes "kind=") (λ t. kind_said (kind_named t)) n text) λ kind n text.
    then (line (bytes "value=") (λ t. value_said (value_of kind t)) n text) λ value n text.
    got (mark_with i cnt flags value) n text

-- the lines of a mark, behind the mark before it
unfoldable pub mark_lines : ℕ → Option Mark → ℕ → List ℕ → Got Mark
mark_lines version before n text =
    then (party_line version (party_least before) n text) λ who n text.
    then (identity_lines (own_before before who) who n text) λ i n text.
    content_lines version i n text

-- the last of some marks
abbrev pub last_of : List Mark → Option Mark
last_of [] = None
last_of (m ∷ []) = Some m
last_of (m ∷ x ∷ xs) = last_of (x ∷ xs)

-- k marks more behind those that were read
unfoldable pub marks_lines : ℕ → List Mark → ℕ → ℕ → List ℕ → Got (List Mark)
unfolding mark_lines
marks_lines version ms zero n text = got ms n text
marks_lines version ms (suc k) n text = then (mark_lines version (last_of ms) n text) λ m n text. marks_lines version (ms ++ m ∷ []) k n text

-- ---- A run
-- the set of the run before, if there is one
abbrev pub set_before : List Run → Option ℕ
set_before [] = None
set_before (r ∷ rs) = Some r.set

-- another set than that
abbrev pub other_than : ℕ → Option ℕ → Bool
other_than s None = true
other_than s (Some x) = not (eqb s x)

-- the two lines of a run behind one with that set; a set is at most so much
unfoldable pub run_lines : ℕ → Option ℕ → ℕ → List ℕ → Got Run
run_lines most before n text =
    then (number_line (bytes "len=") 1 (2 ^ 64 - 1) n text) λ len n text.
    then (hex_line (bytes "set=") 0 most n text) λ set n text.
    provided (other_than set before) (run len set) n text

-- k runs more, the last first
unfoldable pub runs_lines : ℕ → List Run → ℕ → ℕ → List ℕ → Got (List Run)
unfolding run_lines
runs_lines most rs zero n text = got rs n text
runs_lines most rs (suc k) n text = then (run_lines most (set_before rs) n text) λ r n text. runs_lines most (r ∷ rs) k n text

-- ---- A tank
-- the least that a length may be: an untouched tank has length T
abbrev pub least_length : ℕ → ℕ
least_length touched = cond (eqb touched 1) 0 fresh_length

-- the most: that, or 2^63 - 1
abbrev pub most_length : ℕ → ℕ
most_length touched = cond (eqb touched 1) largest fresh_length

-- the most marks: an untouched tank has none
abbrev pub most_marks : ℕ → ℕ
most_marks touched = cond (eqb touched 1) 64 0

-- the least runs: an untouched tank has one
abbrev pub least_runs : ℕ → ℕ
least_runs touched = cond (eqb touched 1) 0 1

-- the most: that, or the tank's limit
abbrev pub most_runs : ℕ → ℕ → ℕ
most_runs touched limit = cond (eqb touched 1) limit 1

-- refusal 10's sum with so many runs in the tanks that were read: those to come count their shares
abbrev pub claimed : List Setting → List ℕ → ℕ
claimed st held = sum_below (λ u. max (get_or held u 0) (share_of st u)) 8

-- refusal 8's sum, where the lab has a mark: max(plant, 32) + max(lab, 16) is at most 64
unfoldable pub roomy : List Mark → Bool
roomy ms = cond (eqb (marks_of Lab ms) 0) true (leb (needs ms) 64)

-- what is looked at when a tank's last line has been read. Its own: the lengths sum to its length, each mark is in some run, refusal 8's sum
unfoldable pub adds_up : ℕ → List Mark → List Run → Bool
unfolding roomy
adds_up l ms rs = eqb (total rs) l && (eqb (gather rs) (2 ^ length ms - 1) && roomy ms)

-- and refusal 10's sum
unfoldable pub adds : List Setting → List ℕ → ℕ → List Mark → List Run → Bool
unfolding adds_up
adds st held l ms rs = adds_up l ms rs && leb (claimed st (held ++ length rs ∷ [])) 512

-- the lines of tank t, behind tanks with so many runs
unfoldable pub tank_lines : ℕ → List Setting → List ℕ → ℕ → ℕ → List ℕ → Got Saved
unfolding marks_lines runs_lines adds
tank_lines version st held t n text =
    then (number_line (bytes "tank=") t t n text) λ i n text.
    then (number_line (bytes "touched=") 0 1 n text) λ b n text.
    then (number_line (bytes "length=") (least_length b) (most_length b) n text) λ l n text.
    then (number_line (bytes "marks=") 0 (most_marks b) n text) λ k n text.
    then (marks_lines version [] k n text) λ ms n text.
    then (number_line (bytes "runs=") (least_runs b) (most_runs b (limit_of st t)) n text) λ j n text.
    then (runs_lines (2 ^ k - 1) [] j n text) λ rs n text.
    provided (adds st held l ms rs) (record { touched = eqb b 1; length = l; marks = ms; runs = rs }) n text

-- k tanks more behind those that were read
unfoldable pub tanks_lines : ℕ → List Setting → List Saved → ℕ → ℕ → List ℕ → Got (List Saved)
unfolding tank_lines
tanks_lines version st ss zero n text = got ss n text
tanks_lines version st ss (suc k) n text =
    then (tank_lines version st (map (λ s. length s.runs) ss) (length ss) n text) λ s n text. tanks_lines version st (ss ++ s ∷ []) k n text

-- ---- All of it
-- what a text says: its version, settings and tanks
pub record Said : Type 0 where
  pub version : ℕ
  pub settings : List Setting
  pub tanks : List Saved

-- the pairs with each limit at least its share, and the shares summing to at most 512
unfoldable pub settings_lines : ℕ → List ℕ → Got (List Setting)
settings_lines n text = then (pairs_lines true 0 8 n text) λ st n text. provided (leb (shares st 8) 512) st n text

-- the newest version
abbrev pub newest : ℕ
newest = 3

-- a text of a version up to the last that the reader knows, whole
unfoldable pub saying : ℕ → List ℕ → Got Said
unfolding settings_lines tanks_lines
saying last text =
    then (number_line version_name 1 last 0 text) λ v n text.
    then (settings_lines n text) λ st n text.
    then (tanks_lines v st [] 8 n text) λ ss n text.
    ended (record { version = v; settings = st; tanks = ss }) n text

-- what a tank that was written down means
abbrev pub view_in : Saved → View
view_in s = view_of s.touched s.length s.marks s.runs

-- the house that a text speaks of
abbrev pub house_in : Said → House
house_in s = record { settings = s.settings; tanks = map view_in s.tanks }
