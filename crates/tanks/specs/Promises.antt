-- What the functions of this crate promise and ask.
use Rattle.std.specs.Prelude.{Result, Ok, Err, ℕ, ◌≤◌, ◌<◌, ◌^◌, ◌≡◌, Bool, true, cond, List, [], ◌∷◌, ltb, get_or, set, take}
use Rattle.refusal.specs.declared.Refusal.{Refusal}
use Rattle.refusal.specs.Numbers.{number_of}
use Rattle.styles.specs.declared.Identity.{Identity}
use Rattle.styles.specs.declared.Mark.{Mark}
use Rattle.styles.specs.declared.Party.{Party}
use Rattle.styles.specs.declared.Styles.{Styles}
use Rattle.styles.specs.Answers.{styles_of}
use Rattle.styles.specs.Bits.{pick}
use Rattle.tank.specs.declared.Tank.{Tank}
use Rattle.tank.specs.Lending.{Leaving, Leaves}
use Rattle.tank.specs.Rules.{Edit, annotating, inserting, deleting, removing, runs_held, inserted_set, removed_first, when_accepted}
use Rattle.tank.specs.State as state
use Rattle.tanks.specs.declared.Setting.{Setting}
use Rattle.tanks.specs.declared.Head.{Head}
use Rattle.tanks.specs.declared.Run.{Run}
use Rattle.tanks.specs.declared.Table.{Table}
use Rattle.tanks.specs.declared.Tanks.{Tanks}
use Rattle.tanks.specs.declared.Opened.{Opened}
use Rattle.tanks.specs.declared.Edit as code
use Rattle.tanks.specs.declared.Parts.{Parts}
use Rattle.tanks.specs.declared.Done.{Done}
use Rattle.tanks.specs.declared.Shown.{Shown}
use Rattle.tanks.specs.declared.Count.{Count}
use Rattle.tanks.specs.declared.YesNo.{YesNo}
use Rattle.tanks.specs.Settings.{accepted, share_of, limit_of, judgement}
use Rattle.tanks.specs.House.{tank_at, held, with_tank, open_number, opening, refusal_at, after_at, inserted_set_at, removed_first_at, Call}
use Rattle.tanks.specs.Pool.{no_head, no_table, runs_in, meaning, Sound}

-- ---- Public functions
-- what opening hands back
pub record Opens (st : List Setting) (r : Opened) : Type 0 where
  pub number_is : r.number ≡ open_number st
  pub is : meaning r.tanks ≡ opening st
  pub sound : Sound r.tanks

-- what a call of an edit on tank t hands back, whatever the arguments: the number, and the next state
pub record CalledAt (s : Tanks) (t : ℕ) (e : Edit) (number : ℕ) (next : Tanks) : Type 0 where
  pub number_is : number ≡ refusal_at (meaning s) t e
  pub is : meaning next ≡ after_at (meaning s) t e
  pub sound : Sound next

-- document 01's number and value for each case of an answer: 0 and a value, or a refusal's number with nothing beside it
abbrev pub refused_or_given : {A R : Type 0} → (ℕ → R) → (A → R) → ℕ → A → R
refused_or_given refused given number value = when_accepted number (given value) (refused number)

-- a count, as an answer
abbrev pub counts : ℕ → ℕ → Count
counts = refused_or_given Count.Refused Count.Counts

-- yes or no, as an answer
abbrev pub says : ℕ → Bool → YesNo
says = refused_or_given YesNo.Refused YesNo.Says

-- ---- edit, above which the four are thin, and take: public for the crates above
-- an edit as the rules have it
abbrev pub edit_of : code.Edit → Edit
edit_of (code.Edit.Annotate start end mark) = annotating start end mark
edit_of (code.Edit.Insert who pos len) = inserting who pos len
edit_of (code.Edit.Delete who start end) = deleting who start end
edit_of (code.Edit.Remove id last) = removing id last

-- what stands beside the number of an edit: the set that an insertion gives; empty beside any other edit
abbrev pub set_beside : (Party → ℕ → ℕ → List Mark) → Edit → List Mark
set_beside gives (annotating a b m) = []
set_beside gives (inserting who pos len) = gives who pos len
set_beside gives (deleting who a b) = []
set_beside gives (removing id last) = []

-- and the first position that a removal gives; 0 beside any other edit
abbrev pub first_beside : (Identity → ℕ → ℕ) → Edit → ℕ
first_beside gives (annotating a b m) = 0
first_beside gives (inserting who pos len) = 0
first_beside gives (deleting who a b) = 0
first_beside gives (removing id last) = gives id last

-- what an edit comes to: the next state, 0 or the refusal's number, and what stands beside it
pub record Coming : Type 0 where
  pub tanks : Tanks
  pub number : ℕ
  pub styles : Styles
  pub first : ℕ

-- as the code answers it: beside a refusal stand the empty set and 0
abbrev pub coming_to : Tanks → Result Done Refusal → Coming
coming_to next (Ok d) = record { tanks = next; number = 0; styles = d.styles; first = d.first }
coming_to next (Err refusal) = record { tanks = next; number = number_of refusal; styles = styles_of []; first = 0 }

-- what an edit of tank t comes to
pub record DoneAt (s : Tanks) (t : ℕ) (e : Edit) (r : Coming) : Type 0 where
  pub called : CalledAt s t e r.number r.tanks
  pub styles_are : r.styles ≡ styles_of (set_beside (inserted_set_at (meaning s) t) e)
  pub first_is : r.first ≡ first_beside (removed_first_at (meaning s) t) e

-- the place of tank t's head and table; where there is no tank t, the first
abbrev pub place_of : ℕ → ℕ
place_of t = cond (ltb t 8) t 0

-- the marks of a tank by their bits in its table
abbrev pub marks_by : Tanks → ℕ → ℕ → List Mark
marks_by s t bits = pick (take (get_or s.heads (place_of t) no_head).marks (get_or s.tables (place_of t) no_table).marks) bits

-- as the code answers it where the set is shown by its bits
abbrev pub coming_by : Tanks → ℕ → Tanks → Result Shown Refusal → Coming
coming_by s t next (Ok d) = record { tanks = next; number = 0; styles = styles_of (marks_by s t d.bits); first = d.first }
coming_by s t next (Err refusal) = record { tanks = next; number = number_of refusal; styles = styles_of []; first = 0 }

-- these are bits of the tank's marks
abbrev pub Fits : Tanks → ℕ → Result Shown Refusal → Type 0
Fits s t (Ok d) = d.bits < 2 ^ (get_or s.heads (place_of t) no_head).marks
Fits s t (Err refusal) = Unit {0}

-- what an edit of tank t comes to, so answered
pub record AppliedAt (s : Tanks) (t : ℕ) (e : Edit) (next : Tanks) (r : Result Shown Refusal) : Type 0 where
  pub done : DoneAt s t e (coming_by s t next r)
  pub fits : Fits s t r

-- ---- edit_parts, which `apply` calls on the parts of the state
-- the parts of a state that an edit with a head and a table at place u has to do with
pub record PartsOf (s : Tanks) (u : ℕ) (st : List Setting) (hs : List Head) (pool : List Run) (table : Table) : Type 0 where
  pub settings_are : s.settings ≡ st
  pub heads_are : s.heads ≡ hs
  pub pool_is : s.pool ≡ pool
  pub table_is : get_or s.tables u no_table ≡ table

-- they are those of some sound state
pub record PartsOfSome (u : ℕ) (st : List Setting) (hs : List Head) (pool : List Run) (table : Table) : Type 0 where
  pub state : Tanks
  pub sound : Sound state
  pub parts : PartsOf state u st hs pool table

-- what an edit leaves of the parts, refused or not: 0 or the refusal's number, and the fields of `Parts`
pub record Parting : Type 0 where
  pub pool : List Run
  pub head : Head
  pub number : ℕ
  pub first : ℕ
  pub shown : ℕ
  pub table : Table

-- as the code answers it: a refused edit leaves all parts as they were
abbrev pub parted : List Head → List Run → Table → ℕ → Result Parts Refusal → Parting
parted hs pool table t (Ok p) = record {
  pool = p.pool;
  head = p.head;
  number = 0;
  first = p.first;
  shown = p.shown;
  table = p.table;
}
parted hs pool table t (Err refusal) = record {
  pool = pool;
  head = get_or hs (place_of t) no_head;
  number = number_of refusal;
  first = 0;
  shown = 0;
  table = table;
}

-- a state with the parts that an edit leaves, put back where they were read
abbrev pub with_parts : Tanks → ℕ → Parting → Tanks
with_parts s u p = record { settings = s.settings; heads = set s.heads u p.head; tables = set s.tables u p.table; pool = p.pool }

-- the marks of the set that an edit shows, by their bits in the table before it
abbrev pub shown_of : Tanks → ℕ → Parting → List Mark
shown_of s u p = pick (take (get_or s.heads u no_head).marks (get_or s.tables u no_table).marks) p.shown

-- what the edit hands back once they are put back
abbrev pub done_with : Tanks → ℕ → Parting → Coming
done_with s u p = record { number = p.number; styles = styles_of (shown_of s u p); first = p.first; tanks = with_parts s u p }

-- an edit of tank t on the parts of a state: what it shows are bits of the table's marks; and put back into any sound state that they are parts of,
-- they are what the edit leaves of it
pub record EditsParts (st : List Setting) (hs : List Head) (pool : List Run) (table : Table) (t : ℕ) (e : Edit) (p : Parting) : Type 0 where
  pub fits : p.shown < 2 ^ (get_or hs (place_of t) no_head).marks
  pub done : (s : Tanks) → Sound s → PartsOf s (place_of t) st hs pool table → DoneAt s t e (done_with s (place_of t) p)

-- a tank taken out: it means what the house's tank t does, and is a fresh one where there is none
pub record Taken (s : Tanks) (t : ℕ) (x : Tank) : Type 0 where
  pub is : state.view x ≡ tank_at (meaning s) t
  pub sound : state.Sound x

-- tank t replaced by one that means what x does: 9 or 10 by the runs that it holds, or the next state
pub record PutAt (s : Tanks) (t : ℕ) (x : Tank) (number : ℕ) (next : Tanks) : Type 0 where
  pub number_is : number ≡ judgement s.settings (held (meaning s)) t (runs_held (state.view x))
  pub is : meaning next ≡ when_accepted number (with_tank (meaning s) t (state.view x)) (meaning s)
  pub sound : Sound next

-- ---- Inner functions
-- what the judgement asks: settings that keep the rule, and no tank over its limit
pub record Judged (st : List Setting) (hs : List Head) : Type 0 where
  pub rule : accepted st ≡ true
  pub limits : (t : ℕ) → t < 8 → runs_in hs t ≤ limit_of st t

-- what its sum asks, so that it fits
pub record Small (st : List Setting) (hs : List Head) (n : ℕ) : Type 0 where
  pub shares : (t : ℕ) → t < 8 → share_of st t ≤ 512
  pub runs : (t : ℕ) → t < 8 → runs_in hs t ≤ 512
  pub more : n ≤ 512

-- what an edit of a tank taken out comes to: what it hands back, and the tank after it
pub record Performed : Type 0 where
  pub number : ℕ
  pub styles : Styles
  pub first : ℕ
  pub tank : Tank

-- by the tank's own rules
pub record PerformedAs (e : Edit) (x : Tank) (r : Performed) : Type 0 where
  pub called : state.Called e x r.number r.tank
  pub styles_are : r.styles ≡ styles_of (set_beside (λ who pos len. inserted_set who pos len (state.view x)) e)
  pub first_is : r.first ≡ first_beside (λ id last. removed_first id last (state.view x)) e

-- the same where the tank's runs stand in lent arrays
abbrev pub PerformsOn : Edit → Tank → List ℕ → List ℕ → Leaving → Type 0
PerformsOn e x lens sets r =
    Leaves e x lens sets (set_beside (λ who pos len. inserted_set who pos len (state.view x)) e) (first_beside (λ id last. removed_first id last (state.view x)) e) r

-- ---- What the theorems speak of
-- the code's own states, call after call: whatever the contracts allow from one state to the next, refused calls among them
pub data Calls : Tanks → List Call → Tanks → Type 0 where
  no_call : {s : Tanks} → Calls s [] s
  call : {s next last : Tanks} {c : Call} {cs : List Call} {number : ℕ} → CalledAt s c.tank c.edit number next → Calls next cs last → Calls s (c ∷ cs) last
