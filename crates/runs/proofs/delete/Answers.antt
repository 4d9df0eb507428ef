-- `runs::delete` meets its contract: the first copy makes the part before a, and the second adds the part from b on.
use mathlib.Core.Path.{◌≡◌, refl}
use mathlib.Core.List.{[]}
use Rattle.runs.specs.Runs.{runs, Canon}
use Rattle.runs.proofs.Copies.{adding, part, deleted}
use Rattle.runs.proofs.EditLaws.{inside_self, inside_copy, can_copy, room_of, copied_is, deleted_joined, joined_is}
use Rattle.runs.proofs.BehindLaws.{count_copy, behind_on}
use Rattle.runs.proofs.delete.Goals as goal

pub copy-n-requires : goal.copy-n-requires
unfolding runs deleted Canon
copy-n-requires c =
    can_copy (room_of c.requires.2 (deleted_joined _ _ c.requires.2.all_is c.args.a c.args.b c.requires.0 c.requires.1)) c.args.olens.now c.args.osets.now 0 refl refl tt [] refl (adding 0) 0 c.args.a
    (inside_copy (adding 0) c.args.b _ _ (inside_self _))

pub copy-requires : goal.copy-requires
unfolding deleted runs Canon
copy-requires c =
    can_copy (room_of c.requires.2 (deleted_joined _ _ c.requires.2.all_is c.args.a c.args.b c.requires.0 c.requires.1)) c.copy-n.new.olens c.copy-n.new.osets c.copy-n.result c.copy-n.auto.olens c.copy-n.auto.osets c.copy-n.ensures.appended.canon _ ((let h : runs c.copy-n.new.olens c.copy-n.new.osets c.copy-n.result ≡ part [] 0 c.args.a (runs c.args.lens.now c.args.sets.now c.args.m) = copied_is (adding 0) [] _ _ _ tt c.copy-n.ensures.appended in h)) (adding 0) c.args.b c.args.all
    (rw c.requires.2.all_is (inside_self _))

pub returns : goal.returns
unfolding deleted runs Canon
returns c =
    let k = count_copy (adding 0) _ _ _ _ _ _ _ _ _ c.copy-n.ensures.appended.canon c.copy.ensures.appended in
    record { joined = joined_is (deleted_joined _ _ c.requires.2.all_is c.args.a c.args.b c.requires.0 c.requires.1) (rw ((let h : runs c.copy-n.new.olens c.copy-n.new.osets c.copy-n.result ≡ part [] 0 c.args.a (runs c.args.lens.now c.args.sets.now c.args.m) = copied_is (adding 0) [] _ _ _ tt c.copy-n.ensures.appended in h), c.requires.2.all_is) at (copied_is (adding 0) _ _ _ _ c.copy-n.ensures.appended.canon c.copy.ensures.appended)); same_behind = behind_on _ _ k c.copy-n.ensures.same_behind c.copy.ensures.same_behind }
