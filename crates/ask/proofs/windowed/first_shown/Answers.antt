-- `first_shown` meets its contract: no such tank, or the windows of the one that is there.
use Prim.Native.Nat.{ℕ}
use mathlib.Core.Path.{refl, sym, ap}
use mathlib.Core.Bool.{Bool, cond}
use lib.ListN.{length}
use borrow.Author.Tests.{le-leb, lt-leb}
use Rattle.windows.specs.Windows.{windows}
use Rattle.ask.proofs.Standing.{none_there, one_there}
use Rattle.ask.proofs.windowed.first_shown.Goals as goal

abbrev numbered : Bool → ℕ
numbered b = cond b 1 0

pub returns-then-tank-ge8 : goal.returns-then-tank-ge8
returns-then-tank-ge8 c = let a = c.args in record { value = sym (ap numbered (le-leb 8 a.tank c.if-tank-ge8.true)); out_after = none_there a.heads a.pool a.table a.tank a.who a.out.now (λ v. windows v a.keys a.start a.k (length a.out.now)) c.if-tank-ge8.true refl }

pub windows_in-requires : goal.windows_in-requires
windows_in-requires c = c.requires c.if-tank-ge8.false

pub returns : goal.returns
returns c = let a = c.args in record { value = sym (ap numbered (lt-leb 8 a.tank c.if-tank-ge8.false)); out_after = one_there a.heads a.pool a.table a.tank a.who a.out.now (λ v. windows v a.keys a.start a.k (length a.out.now)) c.if-tank-ge8.false c.windows_in.ensures }
