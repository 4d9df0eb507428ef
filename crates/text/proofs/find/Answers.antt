-- Before the byte are as many bytes as `position` has passed.
use Rattle.std.specs.Prelude.{Option}
use mathlib.Core.Path.{ap, ◌∙◌}
use mathlib.Core.List.{List}
use Prim.Native.Nat.{ℕ, ◌+◌, ◌-◌}
use native.Mathlib.Omega.{arith}
use lib.Dec.{eqb}
use lib.ListN.{length, take, drop}
use Rattle.std.proofs.Common.{rules, tests}
use Rattle.std.proofs.lemmas.Iterator.{YieldsList-from_slice}
use Rattle.std.proofs.lemmas.Iterator.Search.{position_from_yields_List}
use Rattle.std.specs.Option.{unwrap_or}
use Rattle.text.specs.Bytes.{up_to}
use Rattle.text.proofs.Prefix.{rest_part}
use Rattle.text.proofs.Finding.{found_none, front_found}
use Rattle.text.proofs.find.Goals as goal

pub returns-then-from-bytes : goal.returns-then-from-bytes
returns-then-from-bytes c = omega (arith, found_none c.args.byte c.args.bytes.now c.args.from c.if-from-bytes.true)

pub returns : goal.returns
returns c =
    let a = c.args in
    let l : List ℕ = take (length a.bytes.now - a.from) (drop a.from a.bytes.now) in
    let place = position_from_yields_List (λ (x : ℕ). eqb x a.byte) _ _ c.position.result c.position.ensures.ran (YieldsList-from_slice l c.iter.ensures.rest) (λ x b q k. search (rules, tests)) in
    ap (λ (n : ℕ). a.from + n)
    (c.unwrap_or.ensures ∙ ap (λ (p : Option ℕ). unwrap_or p (length l)) place ∙ front_found a.byte l ∙ ap (λ (t : List ℕ). length (up_to a.byte t)) (rest_part a.from a.bytes.now))
