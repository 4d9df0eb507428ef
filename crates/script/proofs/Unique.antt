-- `feed` has one answer: any two results that meet its statement are equal, and the reader's state goes on by `after_of`. The statements of the other functions that are read from outside are equations `r ≡ ..`, or say each part of the result.
use mathlib.Core.Path.{◌≡◌, sym, ap, ◌∙◌}
use mathlib.Core.Bool.{cond}
use mathlib.Core.List.{List}
use Prim.Native.Nat.{ℕ}
use lib.ListN.{drop}
use Rattle.script.specs.declared.Fed.{Fed}
use Rattle.script.specs.declared.Line.{Line}
use Rattle.script.specs.declared.Reader.{Reader}
use Rattle.script.specs.Lines.{has_end, empty_line, State, state_of, reader_in, after_of, reader_after, Feeds}
use Rattle.script.proofs.CutLaws.{held_holding}

pub one_feed : {r : Reader} {bytes : List ℕ} {from : ℕ} (f g : Fed) → Feeds r bytes from f → Feeds r bytes from g → f ≡ g
one_feed f g x y =
    let r = x.reader ∙ sym y.reader in
    let e = x.event ∙ sym y.event in
    let c = x.call ∙ sym y.call in
    let a = x.at ∙ sym y.at in
    λ i. record { reader = r i; event = e i; call = c i; at = a i }

-- a reader in a state stands there, whatever the places behind what is kept
state_in : (l : Line) (s : State) → state_of (reader_in l s) ≡ s
state_in l s = ap (λ (t : List ℕ). record { held = t; call = s.call; newlines = s.newlines }) (held_holding l s.held)

-- the state after the bytes comes from the state before them alone
pub fed_state : {r : Reader} {bytes : List ℕ} {from : ℕ} {f : Fed} → Feeds r bytes from f → state_of f.reader ≡ after_of (state_of r) (drop from bytes)
unfolding reader_after
fed_state {r} {bytes} {from} x =
    let rest = drop from bytes in
    ap state_of x.reader ∙ state_in (cond (has_end rest) empty_line r.line) (after_of (state_of r) rest)
