-- No set is kept, no log is under way, no range is pending, and the legend is the first.
use Rattle.styles.specs.declared.Party.TheVariants.{Plant}
use Rattle.clerk.proofs.empty.Goals as goal

pub returns : goal.returns
returns c =
    let p = c.none-sets.ensures in
    let q = c.begin-log.ensures in
    let f = c.empty_plan-pending.ensures in
    let l = c.digits-legend.ensures in
    let e = p.0 in
    let g = q.0 in
    ((λ i. record { sets = e i; log = g i; pending = f i; legend = l i; party = Plant }), record { sets = p.1; log = q.1 })
