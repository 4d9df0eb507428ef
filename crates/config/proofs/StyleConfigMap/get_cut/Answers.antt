-- `StyleConfigMap::get_cut` meets its contract: the part handed on is the name up to its first colon. Assumes nothing.
use mathlib.Core.Path.{◌≡◌, sym, ap, ◌∙◌}
use mathlib.Core.List.{List}
use Prim.Native.Nat.{ℕ}
use native.Mathlib.Omega.{arith}
use lib.ListN.{length, take}
use lib.Seq.{length-take-le}
use Rattle.config.specs.Names.{cut}
use Rattle.config.specs.Table.{style_for}
use Rattle.config.specs.Meaning.{configured}
use Rattle.text.proofs.Finding.{front_take, front_length}
use Rattle.config.proofs.AnswerLaws.{asked_long, asked_found}
use Rattle.config.proofs.StyleConfigMap.get_cut.Goals as goal

pub returns-then-key-gt-MAX_NAME : goal.returns-then-key-gt-MAX_NAME
returns-then-key-gt-MAX_NAME c =
    let k = c.args.key.now in
    asked_long k (style_for (cut k) (configured c.args.self.now)) c.if-key-gt-MAX_NAME.true

pub slice_bounds-style_for-end : goal.slice_bounds-style_for-end
slice_bounds-style_for-end c =
    let k = c.args.key.now in
    sym (length-take-le c.find-end.result k (omega (arith, c.find-end.ensures, front_length 58 k)))

pub returns : goal.returns
returns c =
    let k = c.args.key.now in
    let n : c.find-end.result ≡ length (cut k) = omega (arith, c.find-end.ensures) in
    let e : take c.find-end.result k ≡ cut k = rw n (front_take 58 k) in
    asked_found k (style_for (cut k) (configured c.args.self.now)) c.if-key-gt-MAX_NAME.false _
    (c.style_for.ensures ∙ ap (λ (x : List ℕ). style_for x (configured c.args.self.now)) e)
