use native.Mathlib.Omega.{arith}
use Prim.Native.Nat.{ℕ}
use mathlib.Core.Path.{◌≡◌, refl, sym, ap, ◌∙◌}
use Rattle.std.proofs.lemmas.Result.{err_from_is_err_and}
use Rattle.refusal.proofs.NumberLaws.{positive}
use Rattle.tank.specs.declared.Tank.{Tank}
use Rattle.tank.specs.State as state
use Rattle.tank.proofs.Unique.{runs_held_lem}
use Rattle.tanks.specs.declared.Tanks.{Tanks}
use Rattle.tanks.specs.Settings.{judgement}
use Rattle.tanks.specs.House.{held}
use Rattle.tanks.specs.Pool.{meaning, Sound}
use Rattle.tanks.specs.Promises.{PutAt}
use Rattle.tanks.proofs.LaidLaws.{laid}
use Rattle.tanks.proofs.Put.{run_from}
use Rattle.tanks.proofs.SettingLaws.{sound_held, sound_judged}
use Rattle.tanks.proofs.MeaningLaws.{Tail, tail_refused, tail_done, judged_is}
use Rattle.tanks.proofs.WriteLaws.{with_pool, run_step, read_kept, part_all, run_own, run_behind, run_blank, inside, put_at_last}
use Rattle.tanks.proofs.Tanks.put.Goals as goal
use Rattle.tanks.proofs.Tanks.put.Goals.{then-j-m, else-j-m+then-j-s, else-j-m+else-j-s}

put_of : (s : Tanks) (t : ℕ) (x : Tank) (v : ℕ) (next : Tanks) → Sound s → state.Formed x → Tail s t 0 x v next → PutAt s t x v next
put_of s t x v next ok f tail = record {
  number_is = tail.verdict_is ∙ sym (judged_is s ok t x.runs) ∙ ap (judgement s.settings (held (meaning s)) t) (sym (runs_held_lem f.laid));
  is = tail.is;
  sound = tail.sound;
}

pub judge-requires : goal.judge-requires
judge-requires c = record { t_bound = c.requires.1; judged = sound_judged c.args.self.now c.requires.0 }

pub returns-in_err-judge : goal.returns-in_err-judge
returns-in_err-judge c =
    let s = c.args.self.now in
    let p = err_from_is_err_and c.from_residual.result c.from_residual.ensures.1 in
    rw (p.1, p.2) (put_of s c.args.t c.args.x _ s c.requires.0 c.requires.2 (tail_refused s c.args.t 0 c.args.x _ c.requires.0 c.in_err-judge.ensures (positive _)))

pub spots-s-requires : goal.spots-s-requires
spots-s-requires c = (c.requires.1, c.requires.2.laid.most, sound_held c.args.self.now c.requires.0)

pub loop-k-init : goal.loop-k-init
unfolding laid
loop-k-init c =
    (inside c.args.self.now c.args.t 0 c.args.x c.requires.0 c.requires.1 c.requires.2 (sym c.in_ok-judge.ensures) _ c.spots-s.ensures, refl)

pub loop-k-preserved : goal.loop-k-preserved
loop-k-preserved c =
    let s = c.args.self.now in
    let q = c.spots-s.result in
    let l = c.loop-k in
    let x = c.args.x in
    let j = c.turn-j in (
      l.invariant.0,
      elim c.if-j-m.branch [
        | then-j-m w ↦
            w.self-is
            ∙ run_step s l.self s.pool q.at (run_from s.pool x q.from q.full) q.grows q.count l.k j.result _
            (omega arith) j.ensures.0 l.invariant.1
            (run_own s.pool x q.from q.full j.result (omega arith))
        | else-j-m+then-j-s w ↦
            w.self-is
            ∙ run_step s l.self s.pool q.at (run_from s.pool x q.from q.full) q.grows q.count l.k j.result _
            (omega arith) j.ensures.0 l.invariant.1
            (read_kept s l.self q.at (run_from s.pool x q.from q.full) q.grows q.from x.runs q.count l.k j.result l.invariant.0.back (omega arith) j.ensures.0 (omega arith) l.invariant.1
            ∙ run_behind s.pool x q.from q.full j.result (omega arith) (omega arith))
        | else-j-m+else-j-s w ↦
            w.self-is
            ∙ run_step s l.self s.pool q.at (run_from s.pool x q.from q.full) q.grows q.count l.k j.result _
            (omega arith) j.ensures.0 l.invariant.1
            (run_blank s.pool x q.from q.full j.result (omega arith) (omega arith))
      ],
    )

pub returns : goal.returns
returns c =
    let s = c.args.self.now in
    let l = c.loop-k in
    let q = c.spots-s.result in
    let x = c.args.x in
    let all : l.k ≡ q.count = omega arith in
    let g : l.self ≡ with_pool s (laid s.pool q.at (run_from s.pool x q.from q.full) q.count) =
    (rw all at l.invariant.1) ∙ ap (with_pool s) (part_all s.pool q.at _ q.grows q.count) in
    rw (put_at_last s l.self c.args.t x q _ _ c.spots-s.ensures c.head_of.ensures c.table_in.ensures g)
    (put_of s c.args.t x 0 _ c.requires.0 c.requires.2 (tail_done s c.args.t 0 x c.requires.0 c.requires.1 c.requires.2 (sym c.in_ok-judge.ensures)))
