-- A line that does not begin with the field's name is bad; what stands behind the name is read by what the field holds.
use mathlib.Core.Path.{◌≡◌, refl, ◌∙◌}
use mathlib.Core.List.{List}
use Prim.Native.Nat.{ℕ}
use Rattle.script.specs.declared.Call.{Call}
use Rattle.script.specs.declared.Holds.{Holds}
use Rattle.script.specs.Grammar.{Field}
use Rattle.script.specs.Reading.{NoValue, bad_of, number_of, held_line}
use Rattle.script.proofs.reading.held_line.Goals as goal

none_held : (c : Call) (f : Field) (h : Holds) (line : List ℕ) → NoValue f line → bad_of c ≡ held_line c f h line
unfolding held_line number_of
none_held c f Holds.Nothing line n = refl
none_held c f Holds.Op line n = rw n
none_held c f (Holds.Number most) line n = rw n
none_held c f Holds.Counter line n = rw n
none_held c f Holds.Kind line n = rw n
none_held c f Holds.Value line n = rw n
none_held c f Holds.Byte line n = rw n
none_held c f Holds.Party line n = rw n

pub returns-in_default : goal.returns-in_default
returns-in_default c = c.bad.ensures ∙ none_held _ _ _ _ c.in_default.ensures

pub returns-in-Nothing : goal.returns-in-Nothing
unfolding held_line
returns-in-Nothing c = rw c.in-Nothing.is c.bad-in-Nothing.ensures

pub returns-in-Op : goal.returns-in-Op
unfolding held_line
returns-in-Op c = rw (c.in-Op.is, c.with_op.ensures, c.op_named.ensures, c.in-Some.ensures.starts, c.in-Some.ensures.is)

pub returns-in-Number : goal.returns-in-Number
unfolding held_line number_of
returns-in-Number c = rw (c.in-Number.is, c.with_number.ensures, c.within.ensures, c.decimal.ensures, c.in-Some.ensures.starts, c.in-Some.ensures.is)

pub returns-in-Counter : goal.returns-in-Counter
unfolding held_line
returns-in-Counter c = rw (c.in-Counter.is, c.with_counter.ensures, c.integer32.ensures, c.in-Some.ensures.starts, c.in-Some.ensures.is)

pub returns-in-Kind : goal.returns-in-Kind
unfolding held_line
returns-in-Kind c = rw (c.in-Kind.is, c.with_kind.ensures, c.kind_named.ensures, c.in-Some.ensures.starts, c.in-Some.ensures.is)

pub returns-in-Value : goal.returns-in-Value
unfolding held_line
returns-in-Value c = rw (c.in-Value.is, c.with_value.ensures, c.value_of.ensures, c.in-Some.ensures.starts, c.in-Some.ensures.is)

pub returns-in-Byte : goal.returns-in-Byte
unfolding held_line
returns-in-Byte c = rw (c.in-Byte.is, c.with_number-in-Byte.ensures, c.byte_of.ensures, c.in-Some.ensures.starts, c.in-Some.ensures.is)

pub returns-in-Party : goal.returns-in-Party
unfolding held_line
returns-in-Party c = rw (c.in-Party.is, c.with_number-in-Party.ensures, c.party_named.ensures, c.in-Some.ensures.starts, c.in-Some.ensures.is)
