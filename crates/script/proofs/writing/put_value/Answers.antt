-- Two lines, one behind the other.
use mathlib.Core.Path.{◌≡◌, ap, ◌∙◌}
use native.Mathlib.Omega.{arith}
use mathlib.Core.List.{List, ◌++◌, append_assoc}
use Prim.Native.Nat.{ℕ}
use Rattle.styles.specs.declared.Value.{Value}
use Rattle.script.specs.declared.Kind.{Kind}
use Rattle.text.specs.Bytes.{bytes}
use Rattle.script.specs.Grammar.{kind_name}
use Rattle.script.specs.Writing.{line_text, kind_of, value_word, value_text}
use Rattle.script.proofs.PutLaws.{puts_then, puts_all, puts_as, puts_more}
use Rattle.script.proofs.writing.put_value.Goals as goal

-- the pieces are the two lines
as-lines : (v : Value) (k : Kind) → k ≡ kind_of v → line_text (bytes "kind=") (kind_name k) ++ bytes "value=" ++ value_word v ++ bytes "\n" ≡ value_text v
unfolding value_text
as-lines v k e =
    let l : List ℕ = line_text (bytes "kind=") (kind_name k) in
    append_assoc (l ++ bytes "value=") (value_word v) (bytes "\n") ∙ append_assoc l (bytes "value=") (value_word v ++ bytes "\n") ∙ ap (λ (x : Kind). line_text (bytes "kind=") (kind_name x) ++ line_text (bytes "value=") (value_word v)) e

pub returns : goal.returns
returns c =
    puts_as (as-lines _ _ c.kind_of-k.ensures)
    (puts_more (omega arith)
    (puts_then (omega arith) (puts_then (omega arith) (puts_then (omega arith) c.put_kind-a.ensures (puts_all c.put-b.ensures)) c.put_word-c.ensures) (puts_all c.put.ensures)))
