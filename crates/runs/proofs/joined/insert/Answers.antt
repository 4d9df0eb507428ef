-- `joined::insert` meets its contract: the front before pos, a push of the new positions, and the rear from pos on.
use mathlib.Core.Path.{◌≡◌, refl, ◌∙◌}
use mathlib.Core.List.{[]}
use Rattle.runs.specs.Runs.{runs, Canon}
use Rattle.runs.proofs.Copies.{push_run, adding, part, inserted}
use Rattle.runs.proofs.EditLaws.{inside_self, inside_copy, inside_push, can_copy, can_push, room_of, pushed_is, copied_is, inserted_joined, joined_is}
use Rattle.runs.proofs.BehindLaws.{count_push, count_copy, behind_on}
use Rattle.runs.proofs.joined.insert.Goals as goal

pub front-n-requires : goal.front-n-requires
unfolding runs inserted Canon
front-n-requires c =
    record {
      all_is = c.requires.1.1.all_is;
      canon = c.requires.0;
      can =
          can_copy (room_of c.requires.1.1 (inserted_joined _ _ c.requires.1.1.all_is c.args.pos c.args.len c.args.set c.requires.1.0)) c.args.olens.now c.args.osets.now 0 refl refl tt [] refl (adding 0) 0 c.args.pos
          (inside_push c.args.len c.args.set (inside_copy (adding 0) c.args.pos _ _ (inside_self _)));
    }

pub push-k-requires : goal.push-k-requires
unfolding inserted runs Canon
push-k-requires c =
    can_push (room_of c.requires.1.1 (inserted_joined _ _ c.requires.1.1.all_is c.args.pos c.args.len c.args.set c.requires.1.0)) c.front-n.new.olens c.front-n.new.osets c.front-n.result c.front-n.auto.olens c.front-n.auto.osets c.front-n.ensures.appended.canon _ ((let h : runs c.front-n.new.olens c.front-n.new.osets c.front-n.result ≡ part [] 0 c.args.pos (runs c.args.lens.now c.args.sets.now c.args.m) = copied_is (adding 0) [] _ _ _ tt c.front-n.ensures.appended in h))
    c.args.len c.args.set (inside_copy (adding 0) c.args.pos _ _ (inside_self _))

pub rear-requires : goal.rear-requires
unfolding inserted runs Canon
rear-requires c =
    record {
      all_is = c.requires.1.1.all_is;
      canon = c.requires.0;
      can =
          can_copy (room_of c.requires.1.1 (inserted_joined _ _ c.requires.1.1.all_is c.args.pos c.args.len c.args.set c.requires.1.0)) c.push-k.new.lens c.push-k.new.sets c.push-k.result (c.push-k.auto.lens ∙ c.front-n.auto.olens) (c.push-k.auto.sets ∙ c.front-n.auto.osets)
          c.push-k.ensures.appended.canon _ ((let h : let rs = runs c.args.lens.now c.args.sets.now c.args.m in
          runs c.push-k.new.lens c.push-k.new.sets c.push-k.result ≡ push_run (part [] 0 c.args.pos rs) c.args.len c.args.set = rw ((let h : runs c.front-n.new.olens c.front-n.new.osets c.front-n.result ≡ part [] 0 c.args.pos (runs c.args.lens.now c.args.sets.now c.args.m) = copied_is (adding 0) [] _ _ _ tt c.front-n.ensures.appended in h)) at (pushed_is _ _ _ c.front-n.ensures.appended.canon c.push-k.ensures.appended) in h)) (adding 0) c.args.pos c.args.all (rw c.requires.1.1.all_is (inside_self _));
    }

pub returns : goal.returns
unfolding inserted runs Canon
returns c =
    let k = count_push _ _ _ _ _ _ _ _ c.front-n.ensures.appended.canon c.push-k.ensures.appended in
    let l = count_copy (adding 0) _ _ _ _ _ _ _ _ _ c.push-k.ensures.appended.canon c.rear.ensures.appended in record {
      joined = joined_is (inserted_joined _ _ c.requires.1.1.all_is c.args.pos c.args.len c.args.set c.requires.1.0) (rw (
        (let h : let rs = runs c.args.lens.now c.args.sets.now c.args.m in
            runs c.push-k.new.lens c.push-k.new.sets c.push-k.result ≡ push_run (part [] 0 c.args.pos rs) c.args.len c.args.set = rw ((let h : runs c.front-n.new.olens c.front-n.new.osets c.front-n.result ≡ part [] 0 c.args.pos (runs c.args.lens.now c.args.sets.now c.args.m) = copied_is (adding 0) [] _ _ _ tt c.front-n.ensures.appended in h)) at (pushed_is _ _ _ c.front-n.ensures.appended.canon c.push-k.ensures.appended) in h),
        c.requires.1.1.all_is,
      ) at (copied_is (adding 0) _ _ _ _ c.push-k.ensures.appended.canon c.rear.ensures.appended));
      same_behind = behind_on _ _ l (behind_on _ _ k c.front-n.ensures.same_behind c.push-k.ensures.same_behind) c.rear.ensures.same_behind;
    }
