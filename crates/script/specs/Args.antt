-- What calls are about, from the numbers that were read.
use Rattle.std.specs.Prelude.{cond, ℕ, ◌%◌, ◌^◌, eqb, get_or}
use Rattle.styles.specs.declared.Identity.{Identity}
use Rattle.styles.specs.declared.Mark.{Mark}
use Rattle.styles.specs.declared.Party.{Party}
use Rattle.styles.specs.declared.Party.TheVariants.{Plant, Lab}
use Rattle.script.specs.declared.Call.{Call}

-- the number of the i-th field
abbrev pub number_at : Call → ℕ → ℕ
number_at c i = get_or c.numbers i 0

-- A number that was read is within its field's width (Grammar), so that a remainder below is the number itself.

-- the key at a place
abbrev pub key_at : Call → ℕ → ℕ
key_at c i = number_at c i % 2 ^ 16

-- the party of a number: that of the plant is 0
unfoldable pub party_by : ℕ → Party
party_by n = cond (eqb n 0) Plant Lab

-- the mark of an annotate by a party: key, lamport, peer, counter and flags are its fields 3 to 7
abbrev pub mark_of : Party → Call → Mark
mark_of who c = record { key = key_at c 3; flags = number_at c 7 % 2 ^ 8; party = who; lamport = number_at c 4 % 2 ^ 32; cnt = c.cnt; peer = number_at c 5; value = c.value }

-- the identity of a remove by a party: key, lamport and peer are its fields 1 to 3
abbrev pub identity_of : Party → Call → Identity
identity_of who c = record { party = who; key = key_at c 1; lamport = number_at c 2 % 2 ^ 32; peer = number_at c 3 }
