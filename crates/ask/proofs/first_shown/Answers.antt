-- `first_shown` meets its contract: the parts of the state that the tank stands in are walked for it.
use mathlib.Core.Path.{◌∙◌}
use lib.ListN.{length}
use Rattle.windows.specs.Windows.{windows}
use Rattle.ask.proofs.Standing.{can_ask, asked_there}
use Rattle.ask.proofs.first_shown.Goals as goal

pub first_shown-requires : goal.first_shown-requires
first_shown-requires c = can_ask c.args.s c.args.tank c.place.result c.place.ensures.0 c.requires

pub returns : goal.returns
returns c =
    let a = c.args in record {
      value = c.first_shown.ensures.value;
      out_after = c.first_shown.ensures.out_after
          ∙ asked_there a.s a.tank c.place.result c.place.ensures.0 a.who a.out.now (λ v. windows v a.keys a.start a.k (length a.out.now));
    }
