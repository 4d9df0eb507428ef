-- The version, the settings, the tanks.
use native.Mathlib.Omega.{arith}
use Rattle.tanks.specs.Pool.{meaning}
use Rattle.saved.specs.Saved.{saved_text, house_text}
use Rattle.saved.proofs.Laying.{lays_then, lays_more}
use Rattle.saved.proofs.writing.lay_all.Goals as goal

pub lay_pairs-b-requires : goal.lay_pairs-b-requires
lay_pairs-b-requires c = (omega arith, c.requires.settings_8)

pub returns : goal.returns
unfolding meaning saved_text house_text
returns c =
    let l = c.lay_tanks.ensures in
    record { lays = lays_more (omega arith) (lays_then (lays_then c.lay_number-a.ensures c.lay_pairs-b.ensures) l.lays); fits_house = l.fits_house }
