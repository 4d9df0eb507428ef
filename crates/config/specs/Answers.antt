-- What an answer says in the document's terms: its refusal number, 0 where there is none, and the value, where there is one.
use Rattle.std.specs.Prelude.{Bool, cond, List, ℕ, Option, Result, option_map}
use Rattle.richtext.specs.Flags.{flag_of, new_byte}
use Rattle.richtext.specs.Types.{reversed}
use Rattle.richtext.specs.declared.TextStyleInfoFlag.{TextStyleInfoFlag}
use Rattle.config.specs.Names.{too_long, cut}
use Rattle.config.specs.Table.{Table, style_for}
use Rattle.config.specs.declared.StyleConfig.{StyleConfig}
use Rattle.config.specs.declared.ConfigRefusal.{ConfigRefusal}

-- the number that document 01 and change request 13 give a refusal
abbrev pub refusal_number : ConfigRefusal → ℕ
refusal_number ConfigRefusal.RetiredType = 18
refusal_number ConfigRefusal.UnfitName = 19

-- that of a call: 0 where it is accepted
abbrev pub call_number : {A : Type 0} → Result A ConfigRefusal → ℕ
call_number (Result.Ok v) = 0
call_number (Result.Err e) = refusal_number e

-- the number of a refused question, and of an answered one
abbrev pub number : Bool → ℕ
number refused = cond refused 19 0

-- a number and a value
pub record Said (A : Type 0) : Type 0 where
  pub refusal : ℕ
  pub value : Option A

-- each case of the answer to a question
abbrev pub said : {A : Type 0} → Result (Option A) ConfigRefusal → Said A
said (Result.Ok v) = record { refusal = 0; value = v }
said (Result.Err e) = record { refusal = refusal_number e; value = Option.None }

-- a question about a name: refused where the name is too long, else what is found
abbrev pub asked : {A : Type 0} → List ℕ → Option A → Said A
asked k found = record { refusal = number (too_long k); value = cond (too_long k) Option.None found }

-- the flag of a new mark of this style
abbrev pub mark_flag : StyleConfig → TextStyleInfoFlag
mark_flag s = flag_of (new_byte s.expand)

-- the flag of a mark that takes it away, the default's too
abbrev pub unmark_flag : StyleConfig → TextStyleInfoFlag
unmark_flag s = flag_of (new_byte (reversed s.expand))

-- get: the name whole
abbrev pub get_says : List ℕ → Table → Said StyleConfig
get_says k t = asked k (style_for k t)

-- get_style_flag: the name up to its first colon
abbrev pub flag_says : List ℕ → Table → Said TextStyleInfoFlag
flag_says k t = asked k (option_map mark_flag (style_for (cut k) t))

-- the unmark form: the same, with the type reversed
abbrev pub unmark_says : List ℕ → Table → Said TextStyleInfoFlag
unmark_says k t = asked k (option_map unmark_flag (style_for (cut k) t))
