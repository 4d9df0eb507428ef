-- `runs::alter` meets its contract: a copy of the part before a, one of a .. b altered, and one of the part from b on.
use mathlib.Core.Path.{◌≡◌, refl, ◌∙◌}
use mathlib.Core.List.{[]}
use Rattle.runs.specs.Runs.{runs, Canon, changing}
use Rattle.runs.proofs.Copies.{copy_runs, adding, part, altered}
use Rattle.runs.proofs.EditLaws.{inside_self, inside_copy, can_copy, room_of, copied_is, altered_joined, joined_is}
use Rattle.runs.proofs.BehindLaws.{count_copy, behind_on}
use Rattle.runs.proofs.alter.Goals as goal

pub copy-n-requires : goal.copy-n-requires
unfolding runs altered Canon
copy-n-requires c =
    can_copy (room_of c.requires.2 (altered_joined _ _ c.requires.2.all_is c.args.a c.args.b (changing c.args.bits c.args.gone) c.requires.0 c.requires.1)) c.args.olens.now c.args.osets.now 0 refl refl tt [] refl (adding 0) 0 c.args.a
    (inside_copy (changing c.args.bits c.args.gone) c.args.a c.args.b _ (inside_copy (adding 0) c.args.b _ _ (inside_self _)))

pub copy-k-requires : goal.copy-k-requires
unfolding altered runs Canon
copy-k-requires c =
    can_copy (room_of c.requires.2 (altered_joined _ _ c.requires.2.all_is c.args.a c.args.b (changing c.args.bits c.args.gone) c.requires.0 c.requires.1)) c.copy-n.new.olens c.copy-n.new.osets c.copy-n.result c.copy-n.auto.olens c.copy-n.auto.osets c.copy-n.ensures.appended.canon _ ((let h : runs c.copy-n.new.olens c.copy-n.new.osets c.copy-n.result ≡ part [] 0 c.args.a (runs c.args.lens.now c.args.sets.now c.args.m) = copied_is (adding 0) [] _ _ _ tt c.copy-n.ensures.appended in h))
    (changing c.args.bits c.args.gone) c.args.a c.args.b (inside_copy (adding 0) c.args.b _ _ (inside_self _))

pub copy-requires : goal.copy-requires
unfolding altered runs Canon
copy-requires c =
    can_copy (room_of c.requires.2 (altered_joined _ _ c.requires.2.all_is c.args.a c.args.b (changing c.args.bits c.args.gone) c.requires.0 c.requires.1)) c.copy-k.new.olens c.copy-k.new.osets c.copy-k.result (c.copy-k.auto.olens ∙ c.copy-n.auto.olens) (c.copy-k.auto.osets ∙ c.copy-n.auto.osets)
    c.copy-k.ensures.appended.canon _ ((let h : let rs = runs c.args.lens.now c.args.sets.now c.args.m in
    runs c.copy-k.new.olens c.copy-k.new.osets c.copy-k.result ≡ copy_runs (changing c.args.bits c.args.gone) (part [] 0 c.args.a rs) c.args.a c.args.b rs = rw ((let h : runs c.copy-n.new.olens c.copy-n.new.osets c.copy-n.result ≡ part [] 0 c.args.a (runs c.args.lens.now c.args.sets.now c.args.m) = copied_is (adding 0) [] _ _ _ tt c.copy-n.ensures.appended in h)) at (copied_is (changing _ _) _ _ _ _ c.copy-n.ensures.appended.canon c.copy-k.ensures.appended) in h)) (adding 0) c.args.b c.args.all (rw c.requires.2.all_is (inside_self _))

pub returns : goal.returns
unfolding altered runs Canon
returns c =
    let k = count_copy (changing c.args.bits c.args.gone) _ _ _ _ _ _ _ _ _ c.copy-n.ensures.appended.canon c.copy-k.ensures.appended in
    let l = count_copy (adding 0) _ _ _ _ _ _ _ _ _ c.copy-k.ensures.appended.canon c.copy.ensures.appended in record {
      joined = joined_is (altered_joined _ _ c.requires.2.all_is c.args.a c.args.b (changing c.args.bits c.args.gone) c.requires.0 c.requires.1) (rw (
        (let h : let rs = runs c.args.lens.now c.args.sets.now c.args.m in
            runs c.copy-k.new.olens c.copy-k.new.osets c.copy-k.result ≡ copy_runs (changing c.args.bits c.args.gone) (part [] 0 c.args.a rs) c.args.a c.args.b rs = rw ((let h : runs c.copy-n.new.olens c.copy-n.new.osets c.copy-n.result ≡ part [] 0 c.args.a (runs c.args.lens.now c.args.sets.now c.args.m) = copied_is (adding 0) [] _ _ _ tt c.copy-n.ensures.appended in h)) at (copied_is (changing _ _) _ _ _ _ c.copy-n.ensures.appended.canon c.copy-k.ensures.appended) in h),
        c.requires.2.all_is,
      ) at (copied_is (adding 0) _ _ _ _ c.copy-k.ensures.appended.canon c.copy.ensures.appended));
      same_behind = behind_on _ _ l (behind_on _ _ k c.copy-n.ensures.same_behind c.copy-k.ensures.same_behind) c.copy.ensures.same_behind;
    }
