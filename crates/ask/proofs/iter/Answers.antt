-- `iter` meets its contract: the front part is what was written, and nothing where there is no such tank.
use mathlib.Core.Path.{refl}
use lib.ListN.{length}
use Rattle.lists.specs.Lists.{whole_number, whole_list}
use Rattle.tanks.specs.Pool.{meaning}
use Rattle.ask.proofs.AskLaws.{asked_part, asked_count}
use Rattle.ask.proofs.iter.Goals as goal

pub slice_bounds-result-end : goal.slice_bounds-result-end
slice_bounds-result-end c =
    let e = c.list_whole-whole.ensures in
    asked_count (meaning c.args.s) c.args.tank c.args.who (λ v. whole_number (length c.args.out.now) v) whole_list c.args.out.now _ _
    (e.value, e.out_after)

pub returns : goal.returns
returns c =
    let e = c.list_whole-whole.ensures in
    record {
      result_value =
          asked_part (meaning c.args.s) c.args.tank c.args.who (λ v. whole_number (length c.args.out.now) v) whole_list c.args.out.now _ _
          (e.value, e.out_after);
      ref_ptr_value = refl;
    }
