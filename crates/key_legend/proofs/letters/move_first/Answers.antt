use Rattle.std.proofs.Common.{arith, sym, ap, ◌∙◌}
use lib.ListN.{set}
use Rattle.key_legend.proofs.Drawn.{moved_here, moved_on, moved_all}
use Rattle.key_legend.proofs.letters.move_first.Goals as goal

pub returns-then-carried-key : goal.returns-then-carried-key
returns-then-carried-key c =
    let w = c.loop-place in
    ap (set w.keys w.place-index) c.swap.ensures.x_after
    ∙ moved_here c.args.keys.now w.keys c.args.key w.carried w.place-index w.invariant (omega arith) (sym c.swap.ensures.y_after ∙ c.if-carried-key.true) c.requires

pub loop-place-preserved : goal.loop-place-preserved
loop-place-preserved c =
    let w = c.loop-place in
    rw (c.swap.ensures.x_after, c.swap.ensures.y_after)
    (moved_on c.args.keys.now w.keys c.args.key w.carried w.place-index w.invariant (omega arith) (λ e. c.if-carried-key.false (c.swap.ensures.y_after ∙ e)))

pub returns : goal.returns
returns c = moved_all c.args.keys.now c.loop-place.keys c.args.key c.loop-place.carried c.loop-place.place-index c.loop-place.invariant (omega arith) c.requires
