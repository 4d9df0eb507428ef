-- `joined::delete` meets its contract: the front before a, and the rear from b on.
use mathlib.Core.Path.{◌≡◌, refl}
use mathlib.Core.List.{[]}
use Rattle.runs.specs.Runs.{runs, Canon}
use Rattle.runs.proofs.Copies.{adding, part, deleted}
use Rattle.runs.proofs.EditLaws.{inside_self, inside_copy, can_copy, room_of, copied_is, deleted_joined, joined_is}
use Rattle.runs.proofs.BehindLaws.{count_copy, behind_on}
use Rattle.runs.proofs.joined.delete.Goals as goal

pub front-n-requires : goal.front-n-requires
unfolding runs deleted Canon
front-n-requires c =
    record {
      all_is = c.requires.1.2.all_is;
      canon = c.requires.0;
      can =
          can_copy (room_of c.requires.1.2 (deleted_joined _ _ c.requires.1.2.all_is c.args.a c.args.b c.requires.1.0 c.requires.1.1)) c.args.olens.now c.args.osets.now 0 refl refl tt [] refl (adding 0) 0 c.args.a
          (inside_copy (adding 0) c.args.b _ _ (inside_self _));
    }

pub rear-requires : goal.rear-requires
unfolding deleted runs Canon
rear-requires c =
    record {
      all_is = c.requires.1.2.all_is;
      canon = c.requires.0;
      can =
          can_copy (room_of c.requires.1.2 (deleted_joined _ _ c.requires.1.2.all_is c.args.a c.args.b c.requires.1.0 c.requires.1.1)) c.front-n.new.olens c.front-n.new.osets c.front-n.result c.front-n.auto.olens c.front-n.auto.osets c.front-n.ensures.appended.canon _ ((let h : runs c.front-n.new.olens c.front-n.new.osets c.front-n.result ≡ part [] 0 c.args.a (runs c.args.lens.now c.args.sets.now c.args.m) = copied_is (adding 0) [] _ _ _ tt c.front-n.ensures.appended in h)) (adding 0) c.args.b c.args.all
          (rw c.requires.1.2.all_is (inside_self _));
    }

pub returns : goal.returns
unfolding deleted runs Canon
returns c =
    let k = count_copy (adding 0) _ _ _ _ _ _ _ _ _ c.front-n.ensures.appended.canon c.rear.ensures.appended in
    record { joined = joined_is (deleted_joined _ _ c.requires.1.2.all_is c.args.a c.args.b c.requires.1.0 c.requires.1.1) (rw ((let h : runs c.front-n.new.olens c.front-n.new.osets c.front-n.result ≡ part [] 0 c.args.a (runs c.args.lens.now c.args.sets.now c.args.m) = copied_is (adding 0) [] _ _ _ tt c.front-n.ensures.appended in h), c.requires.1.2.all_is) at (copied_is (adding 0) _ _ _ _ c.front-n.ensures.appended.canon c.rear.ensures.appended)); same_behind = behind_on _ _ k c.front-n.ensures.same_behind c.rear.ensures.same_behind }
