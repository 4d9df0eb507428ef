-- The parts of the state that the tank stands in are listed for it.
use Rattle.answers.proofs.Laws.{adds_as}
use Rattle.answers.specs.Replies.{refused_says, or_refused, list_says}
use Rattle.ask.proofs.Standing.{can_ask, asked_there}
use Rattle.lists.specs.Lists.{whole_number, whole_list}
use Rattle.tank.specs.Rules.{View}
use Rattle.clerk.specs.Calls.{whole_says, whole_look}
use Rattle.clerk.proofs.listing.whole.Goals as goal

pub whole_there-requires : goal.whole_there-requires
whole_there-requires c = record { can_ask = can_ask c.args.s c.args.tank c.place.result c.place.ensures.0 c.requires.sound; piece_room_in_bounds = c.requires.piece_room_in_bounds }

pub returns : goal.returns
unfolding whole_says whole_look
returns c =
    let a = c.args in
    adds_as (asked_there a.s a.tank c.place.result c.place.ensures.0 a.who (refused_says 1) (λ (v : View). or_refused (whole_number a.room v) (list_says a.tank (whole_list v)))) c.whole_there.ensures
