use Rattle.std.proofs.Common.{◌≡◌, length, sym, refl, ◌∙◌, arith, length-set}
use Rattle.styles.specs.Marks.{insert_at}
use Rattle.styles.proofs.TableLaws.{put_turn, put_all, put_there, put_nowhere, put_full}
use Rattle.std.proofs.Common.{rules}
use Rattle.styles.proofs.table.insert_mark.Goals as goal
use Rattle.styles.proofs.table.insert_mark.Goals.{then-n-i-via-then-n-i, then-n-i-via-else-n-i+then-n-ge64}

pub returns-then-n-i : goal.returns-then-n-i
returns-then-n-i c = let a = c.args in
    elim c.then-n-i.branch [
      | then-n-i-via-then-n-i w ↦ sym (put_nowhere a.n a.i a.m a.table w.if-n-i.true)
      | then-n-i-via-else-n-i+then-n-ge64 w ↦ sym (put_full a.n a.i a.m a.table w.if-n-ge64.true)
    ]

pub loop-k-init : goal.loop-k-init
loop-k-init c = ((search rules), refl)

pub loop-k-preserved : goal.loop-k-preserved
loop-k-preserved c =
    let l = c.loop-k in
    (length-set l.table l.k l.carried ∙ l.invariant.0, put_turn l.table l.k l.carried _ (omega arith) ∙ l.invariant.1)

pub returns : goal.returns
returns c =
    let l = c.loop-k in
    let a = c.args in
    let e : l.k ≡ a.n = omega arith in
    let long : length a.table ≡ 64 = search rules in
    let g : insert_at a.n l.carried l.table ≡ insert_at a.i a.m a.table = rw (← e) l.invariant.1 in
    put_all a.table l.table a.n a.i a.m l.carried (omega arith) (omega arith) (omega arith) g
    ∙ sym (put_there a.n a.i a.m a.table (omega arith) (omega arith))
