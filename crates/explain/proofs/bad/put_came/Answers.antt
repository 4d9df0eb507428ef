-- By what came.
use mathlib.Core.Path.{sym, ap}
use native.Mathlib.Omega.{arith}
use Rattle.script.proofs.PutLaws.{puts_all, puts_as, puts_more}
use Rattle.explain.specs.Told.{came_text}
use Rattle.explain.proofs.bad.put_came.Goals as goal

pub returns-in-Long : goal.returns-in-Long
returns-in-Long c = puts_as (sym (ap came_text c.in-Long.is)) (puts_more (omega arith) (puts_all c.put.ensures))

pub returns-in-Empty : goal.returns-in-Empty
returns-in-Empty c = puts_as (sym (ap came_text c.in-Empty.is)) (puts_more (omega arith) (puts_all c.put-in-Empty.ensures))

pub returns-in-Return : goal.returns-in-Return
returns-in-Return c = puts_as (sym (ap came_text c.in-Return.is)) (puts_more (omega arith) (puts_all c.put-in-Return.ensures))

pub returns-in-Other : goal.returns-in-Other
returns-in-Other c = puts_as (sym (ap came_text c.in-Other.is)) (puts_more (omega arith) (puts_all c.put-in-Other.ensures))

pub returns-in-NoOp : goal.returns-in-NoOp
returns-in-NoOp c = puts_as (sym (ap came_text c.in-NoOp.is)) (puts_more (omega arith) (puts_all c.put-in-NoOp.ensures))

pub returns-in-NoNumber : goal.returns-in-NoNumber
returns-in-NoNumber c = puts_as (sym (ap came_text c.in-NoNumber.is)) (puts_more (omega arith) (puts_all c.put-in-NoNumber.ensures))

pub returns-in-Zero : goal.returns-in-Zero
returns-in-Zero c = puts_as (sym (ap came_text c.in-Zero.is)) (puts_more (omega arith) (puts_all c.put-in-Zero.ensures))

pub returns-in-Large : goal.returns-in-Large
returns-in-Large c = puts_as (sym (ap came_text c.in-Large.is)) (puts_more (omega arith) (puts_all c.put-in-Large.ensures))

pub returns-in-NoCounter : goal.returns-in-NoCounter
returns-in-NoCounter c = puts_as (sym (ap came_text c.in-NoCounter.is)) (puts_more (omega arith) (puts_all c.put-in-NoCounter.ensures))

pub returns-in-NoKind : goal.returns-in-NoKind
returns-in-NoKind c = puts_as (sym (ap came_text c.in-NoKind.is)) (puts_more (omega arith) (puts_all c.put-in-NoKind.ensures))

pub returns-in-NoValue : goal.returns-in-NoValue
returns-in-NoValue c = puts_as (sym (ap came_text c.in-NoValue.is)) (puts_more (omega arith) (puts_all c.put-in-NoValue.ensures))

pub returns-in-NoParty : goal.returns-in-NoParty
returns-in-NoParty c = puts_as (sym (ap came_text c.in-NoParty.is)) (puts_more (omega arith) (puts_all c.put-in-NoParty.ensures))

pub returns-in-Ended : goal.returns-in-Ended
returns-in-Ended c = puts_as (sym (ap came_text c.in-Ended.is)) (puts_more (omega arith) (puts_all c.put-in-Ended.ensures))

pub returns-in-Cut : goal.returns-in-Cut
returns-in-Cut c = puts_as (sym (ap came_text c.in-Cut.is)) (puts_more (omega arith) (puts_all c.put-in-Cut.ensures))
