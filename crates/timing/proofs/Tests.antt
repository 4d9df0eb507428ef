-- The definitions on numbers that can be worked out by hand.
use Rattle.std.proofs.Common.{◌≡◌, ◌+◌, ◌^◌, refl}
use Rattle.styles.specs.declared.Party.TheVariants.{Plant}
use Rattle.runs.specs.Positions.{sum_below}
use Rattle.tank.specs.Rules.{inserting, removing}
use Rattle.styles.specs.Order.{id_of}
use Rattle.timing.specs.Work.{extra, spot, edit_at, summed, timed}

-- of 50 runs 49 are marked: turn 0 works on run 3, turn 1 on run 10, turn 7 on run 3 again
spots : (spot 50 0 ≡ 30) × (spot 50 1 ≡ 100) × (spot 50 7 ≡ 30)
spots = (refl, refl, refl)

-- between two runs, and from the end of the marked part
calls : (edit_at 3 0 50 0 ≡ inserting Plant 40 2) × (edit_at 7 100 50 0 ≡ removing (id_of (extra 100)) 489)
calls = (refl, refl)

-- the sum has 64 bits
wraps : summed (λ k. 2 ^ 63 + k) 2 ≡ 1
unfolding sum_below
wraps = refl

-- there is no work 16
none : timed 16 0 0 3 1 5 ≡ 0
none = refl
