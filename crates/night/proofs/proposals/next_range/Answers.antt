-- `proposals::next_range` meets its contract: two walks over the runs, each clipped.
use mathlib.Core.Path.{◌∙◌}
use mathlib.Core.Bool.{not}
use native.Mathlib.Omega.{arith}
use Rattle.runs.specs.Runs.{set_at, total}
use Rattle.runs.specs.Scan.{meets}
use Rattle.tank.specs.State.{runs_of}
use Rattle.night.proofs.UnheldLaws.{clipped}
use Rattle.night.proofs.proposals.next_range.Goals as goal

-- src/proposals.rt:36:1
pub returns : goal.returns
returns c =
    let t = c.args.t in
    let low = c.requires.1 in
    let fits = c.requires.2 in
    let sum = c.requires.0.laid.sum in
    let start = c.min-start.result in
    let e = c.min-start.ensures in (
      c.min-start.ensures
          ∙ clipped (λ p. not (meets c.args.mask (set_at (runs_of t) p))) c.args.at c.args.below (total (runs_of t)) c.first_without-first.result low (omega arith) c.first_without-first.ensures,
      c.min-end.ensures
          ∙ clipped (λ p. meets c.args.mask (set_at (runs_of t) p)) start c.args.below (total (runs_of t)) c.first_with-past.result (omega arith) (omega arith) c.first_with-past.ensures,
    )
