-- The groups that were taken, the place behind them, and the file of both.
use Rattle.keeper_file.proofs.after_read.Goals as goal

pub renew-file-requires : goal.renew-file-requires
renew-file-requires c = c.take_groups-t.ensures.sound

pub returns : goal.returns
returns c =
    record {
      groups = c.take_groups-t.ensures;
      place_is = c.further-to.ensures;
      renewed = c.renew-file.ensures;
    }
