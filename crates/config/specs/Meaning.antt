-- The meaning of a map, and when a map is sound: every place that its meaning leaves open is blank.
use Rattle.std.specs.Prelude.{◌≡◌, true, false, cond, List, [], ◌++◌, map, ℕ, ◌+◌, ◌-◌, ◌≤◌, ◌<◌, length, get_or, take, drop, set, replicate, eqb, Result}
use Rattle.richtext.specs.declared.ExpandType.TheVariants.{Before}
use Rattle.config.specs.Names.{holds_colon, zeros}
use Rattle.config.specs.Table.{Named, Table, once, insert_number, after_insert, default_number, after_default}
use Rattle.config.specs.Answers.{call_number}
use Rattle.config.specs.declared.ConfigRefusal.{ConfigRefusal}
use Rattle.config.specs.declared.Entry.{Entry}
use Rattle.config.specs.declared.StyleConfig.{StyleConfig}
use Rattle.config.specs.declared.StyleConfigMap.{StyleConfigMap}

-- a place that holds no entry
abbrev pub blank_entry : Entry
blank_entry = record { name = zeros 32; len = 0; style = record { expand = Before } }

-- the entry of a name: its bytes, then zeros
abbrev pub entry_of : List ℕ → StyleConfig → Entry
entry_of k s = record { name = k ++ zeros (32 - length k); len = length k; style = s }

-- the bytes that are its name
abbrev pub name_in : Entry → List ℕ
name_in e = take e.len e.name

-- its name with its style
abbrev pub named_of : Entry → Named
named_of e = record { name = name_in e; style = e.style }

-- the names of the first `count` places, in their order, and the default
abbrev pub configured : StyleConfigMap → Table
configured m = record { entries = map named_of (take m.count m.entries); default = m.default_style }

-- no place past the last is read: this stands for what would be there
abbrev pub no_entry : Entry
no_entry = record { name = []; len = 0; style = record { expand = Before } }

-- the entry at a place
abbrev pub entry_at : StyleConfigMap → ℕ → Entry
entry_at m i = get_or m.entries i no_entry

-- with an entry put at a place: one entry more where it stands after the last
abbrev pub stored : StyleConfigMap → ℕ → Entry → StyleConfigMap
stored m at e =
    record {
      entries = set m.entries at e;
      count = cond (eqb at m.count) (m.count + 1) m.count;
      default_style = m.default_style;
    }

-- a name of at most 32 bytes with no colon, and zeros after it
pub record Tidy (e : Entry) : Type 0 where
  pub wide : length e.name ≡ 32
  pub within : e.len ≤ 32
  pub rest : drop e.len e.name ≡ zeros (32 - e.len)
  pub plain : holds_colon (name_in e) ≡ false

-- 32 tidy places, the first `count` with a name each, no name twice, and blank ones after them
pub record Sound (m : StyleConfigMap) : Type 0 where
  pub wide : length m.entries ≡ 32
  pub within : m.count ≤ 32
  pub tidy : (i : ℕ) → i < 32 → Tidy (entry_at m i)
  pub rest : drop m.count m.entries ≡ replicate (32 - m.count) blank_entry
  pub names : once (configured m).entries ≡ true

-- a sound map with this meaning
pub record Means (t : Table) (m : StyleConfigMap) : Type 0 where
  pub sound : Sound m
  pub means : configured m ≡ t

-- what a new default answers, 18 or nothing, and the table after it
pub record SetsDefault (m : StyleConfigMap) (s : StyleConfig) (r : Result (Unit {0}) ConfigRefusal) (n : StyleConfigMap) : Type 0 where
  pub refusal : call_number r ≡ default_number s
  pub table : Means (after_default s (configured m)) n

-- what an insertion answers, 19, 18 or nothing, and the table after it
pub record Inserts (m : StyleConfigMap) (k : List ℕ) (s : StyleConfig) (r : Result (Unit {0}) ConfigRefusal) (n : StyleConfigMap) : Type 0 where
  pub refusal : call_number r ≡ insert_number k s (configured m)
  pub table : Means (after_insert k s (configured m)) n
