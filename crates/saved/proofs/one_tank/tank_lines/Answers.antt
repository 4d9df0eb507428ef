-- The tank as far as its runs, the runs, and the sums.
use Rattle.std.specs.Prelude.{Some}
use mathlib.Core.Path.{◌≡◌, sym, ◌∙◌, subst}
use Prim.Native.Nat.{ℕ, ◌+◌, ◌-◌, ◌^◌, ◌≤◌}
use native.Mathlib.Omega.{arith}
use lib.Dec.{eqb}
use Rattle.text.specs.Bytes.{bytes}
use Rattle.text_lines.specs.Lines.{taken_by, decimal_from}
use Rattle.text_lines.proofs.Laws.{taken_inside}
use Rattle.saved.specs.Saying.{least_runs, most_runs}
use Rattle.saved.specs.Reads.{ReadsRuns}
use Rattle.saved.proofs.Steps.{taken_within}
use Rattle.saved.proofs.TanksRead as tanks
use Rattle.saved.proofs.one_tank.tank_lines.Goals as goal

-- ---- what is asked for
pub returns-then-h-gt0 : goal.returns-then-h-gt0
returns-then-h-gt0 c =
    let a = c.args in
    tanks.head_bad a.version a.limit a.bytes.now a.from a.t a.n c.tank_head-h.result c.tank_head-h.ensures c.if-h-gt0.true c.wrong_tank.result c.wrong_tank.ensures.0 c.wrong_tank.ensures.1 c.wrong_tank.ensures.2

pub count_line-requires : goal.count_line-requires
count_line-requires c = c.tank_head-h.ensures.inside

pub overflow_add-h : goal.overflow_add-h
overflow_add-h c = record { fits = omega (arith, (let c : c.tank_head-h.result.lines ≤ c.args.n + 516 = omega (arith, c.tank_head-h.ensures.lines_most, c.tank_head-h.ensures.few) in c), c.requires.0) }

pub returns-in_default : goal.returns-in_default
returns-in_default c =
    let a = c.args in
    tanks.runs_count_wrong a.version a.limit a.bytes.now a.from a.t a.n c.tank_head-h.result c.tank_head-h.ensures c.if-h-gt0.false (sym c.in_default.is ∙ c.count_line.ensures) c.wrong_tank-in_default.result c.wrong_tank-in_default.ensures.0 c.wrong_tank-in_default.ensures.1 c.wrong_tank-in_default.ensures.2

pub all_of-all-requires : goal.all_of-all-requires
all_of-all-requires c = c.tank_head-h.ensures.few

pub overflow_add-h-2 : goal.overflow_add-h-2
overflow_add-h-2 c = record { fits = omega (arith, (let c : c.tank_head-h.result.lines ≤ c.args.n + 516 = omega (arith, c.tank_head-h.ensures.lines_most, c.tank_head-h.ensures.few) in c), c.requires.0) }

pub runs_lines-r-requires : goal.runs_lines-r-requires
runs_lines-r-requires c =
    let a = c.args in (
      omega (arith, (let c : c.tank_head-h.result.lines ≤ c.args.n + 516 = omega (arith, c.tank_head-h.ensures.lines_most, c.tank_head-h.ensures.few) in c), c.requires.0),
      (let c : c.in-Some.j ≤ 512 = omega (
        arith,
        (let c : (let a = c.args in c.in-Some.j ≤ most_runs c.tank_head-h.result.flag a.limit) = let a = c.args in
            (taken_within (bytes "runs=") (least_runs c.tank_head-h.result.flag) (most_runs c.tank_head-h.result.flag a.limit) a.bytes.now c.tank_head-h.result.at c.in-Some.j c.in-Some.a ((let c : (let a = c.args in
            Some (c.in-Some.j, c.in-Some.a) ≡ taken_by (bytes "runs=") (decimal_from (least_runs c.tank_head-h.result.flag) (most_runs c.tank_head-h.result.flag a.limit)) a.bytes.now c.tank_head-h.result.at) = sym c.in-Some.is ∙ c.count_line.ensures in c))).1 in c),
        tanks.cond_most (eqb c.tank_head-h.result.flag 1) c.args.limit 1 512 c.requires.3 (omega arith),
      ) in c),
      taken_inside (bytes "runs=") (decimal_from (least_runs c.tank_head-h.result.flag) (most_runs c.tank_head-h.result.flag a.limit)) a.bytes.now c.tank_head-h.result.at c.in-Some.j c.in-Some.a (sym ((let c : (let a = c.args in
          Some (c.in-Some.j, c.in-Some.a) ≡ taken_by (bytes "runs=") (decimal_from (least_runs c.tank_head-h.result.flag) (most_runs c.tank_head-h.result.flag a.limit)) a.bytes.now c.tank_head-h.result.at) = sym c.in-Some.is ∙ c.count_line.ensures in c))),
    )

pub returns-then-r-gt0 : goal.returns-then-r-gt0
returns-then-r-gt0 c =
    let a = c.args in
    tanks.runs_wrong a.version a.limit a.bytes.now a.from a.t a.n c.tank_head-h.result c.tank_head-h.ensures c.if-h-gt0.false c.in-Some.j c.in-Some.a ((let c : (let a = c.args in
    Some (c.in-Some.j, c.in-Some.a) ≡ taken_by (bytes "runs=") (decimal_from (least_runs c.tank_head-h.result.flag) (most_runs c.tank_head-h.result.flag a.limit)) a.bytes.now c.tank_head-h.result.at) = sym c.in-Some.is ∙ c.count_line.ensures in c)) c.runs_lines-r.result ((let c : (let a = c.args in
    ReadsRuns (2 ^ c.tank_head-h.result.marks - 1) a.bytes.now c.in-Some.a (c.tank_head-h.result.lines + 1) c.in-Some.j c.runs_lines-r.result) = let a = c.args in
    subst (λ (x : ℕ). ReadsRuns x a.bytes.now c.in-Some.a (c.tank_head-h.result.lines + 1) c.in-Some.j c.runs_lines-r.result) c.all_of-all.ensures c.runs_lines-r.ensures in c)) c.if-r-gt0.true c.wrong_tank-then-r-gt0.result c.wrong_tank-then-r-gt0.ensures.0 c.wrong_tank-then-r-gt0.ensures.1 c.wrong_tank-then-r-gt0.ensures.2

pub overflow_add-last : goal.overflow_add-last
overflow_add-last c = record { fits = omega (arith, (let c : c.tank_head-h.result.lines ≤ c.args.n + 516 = omega (arith, c.tank_head-h.ensures.lines_most, c.tank_head-h.ensures.few) in c), c.requires.0) }

pub overflow_mul-last : goal.overflow_mul-last
overflow_mul-last c =
    record {
      fits = omega (
        arith,
        (let c : c.in-Some.j ≤ 512 = omega (
          arith,
          (let c : (let a = c.args in c.in-Some.j ≤ most_runs c.tank_head-h.result.flag a.limit) = let a = c.args in
              (taken_within (bytes "runs=") (least_runs c.tank_head-h.result.flag) (most_runs c.tank_head-h.result.flag a.limit) a.bytes.now c.tank_head-h.result.at c.in-Some.j c.in-Some.a ((let c : (let a = c.args in
              Some (c.in-Some.j, c.in-Some.a) ≡ taken_by (bytes "runs=") (decimal_from (least_runs c.tank_head-h.result.flag) (most_runs c.tank_head-h.result.flag a.limit)) a.bytes.now c.tank_head-h.result.at) = sym c.in-Some.is ∙ c.count_line.ensures in c))).1 in c),
          tanks.cond_most (eqb c.tank_head-h.result.flag 1) c.args.limit 1 512 c.requires.3 (omega arith),
        ) in c),
      );
    }

pub overflow_add-last-2 : goal.overflow_add-last-2
overflow_add-last-2 c =
    record {
      fits = omega (
        arith,
        (let c : c.tank_head-h.result.lines ≤ c.args.n + 516 = omega (arith, c.tank_head-h.ensures.lines_most, c.tank_head-h.ensures.few) in c),
        c.requires.0,
        (let c : c.in-Some.j ≤ 512 = omega (
          arith,
          (let c : (let a = c.args in c.in-Some.j ≤ most_runs c.tank_head-h.result.flag a.limit) = let a = c.args in
              (taken_within (bytes "runs=") (least_runs c.tank_head-h.result.flag) (most_runs c.tank_head-h.result.flag a.limit) a.bytes.now c.tank_head-h.result.at c.in-Some.j c.in-Some.a ((let c : (let a = c.args in
              Some (c.in-Some.j, c.in-Some.a) ≡ taken_by (bytes "runs=") (decimal_from (least_runs c.tank_head-h.result.flag) (most_runs c.tank_head-h.result.flag a.limit)) a.bytes.now c.tank_head-h.result.at) = sym c.in-Some.is ∙ c.count_line.ensures in c))).1 in c),
          tanks.cond_most (eqb c.tank_head-h.result.flag 1) c.args.limit 1 512 c.requires.3 (omega arith),
        ) in c),
      );
    }

pub have_room-requires : goal.have_room-requires
have_room-requires c = c.tank_head-h.ensures.few

pub returns-then-adds_up : goal.returns-then-adds_up
returns-then-adds_up c =
    let a = c.args in
    tanks.tank_read a.version a.limit a.bytes.now a.from a.t a.n c.tank_head-h.result c.tank_head-h.ensures c.if-h-gt0.false c.in-Some.j c.in-Some.a ((let c : (let a = c.args in
    Some (c.in-Some.j, c.in-Some.a) ≡ taken_by (bytes "runs=") (decimal_from (least_runs c.tank_head-h.result.flag) (most_runs c.tank_head-h.result.flag a.limit)) a.bytes.now c.tank_head-h.result.at) = sym c.in-Some.is ∙ c.count_line.ensures in c)) c.runs_lines-r.result ((let c : (let a = c.args in
    ReadsRuns (2 ^ c.tank_head-h.result.marks - 1) a.bytes.now c.in-Some.a (c.tank_head-h.result.lines + 1) c.in-Some.j c.runs_lines-r.result) = let a = c.args in
    subst (λ (x : ℕ). ReadsRuns x a.bytes.now c.in-Some.a (c.tank_head-h.result.lines + 1) c.in-Some.j c.runs_lines-r.result) c.all_of-all.ensures c.runs_lines-r.ensures in c)) c.if-r-gt0.false c.all_of-all.result c.all_of-all.ensures c.have_room.result c.have_room.ensures
    (sym c.adds_up.ensures ∙ c.if-adds_up.true) c.requires.1 c.requires.2 c.requires.3 ((let c : (let a = c.args in c.in-Some.j ≤ most_runs c.tank_head-h.result.flag a.limit) = let a = c.args in
    (taken_within (bytes "runs=") (least_runs c.tank_head-h.result.flag) (most_runs c.tank_head-h.result.flag a.limit) a.bytes.now c.tank_head-h.result.at c.in-Some.j c.in-Some.a ((let c : (let a = c.args in
    Some (c.in-Some.j, c.in-Some.a) ≡ taken_by (bytes "runs=") (decimal_from (least_runs c.tank_head-h.result.flag) (most_runs c.tank_head-h.result.flag a.limit)) a.bytes.now c.tank_head-h.result.at) = sym c.in-Some.is ∙ c.count_line.ensures in c))).1 in c)) c.tank_with.result c.tank_with.ensures

pub returns : goal.returns
returns c =
    let a = c.args in
    tanks.sums_wrong a.version a.limit a.bytes.now a.from a.t a.n c.tank_head-h.result c.tank_head-h.ensures c.if-h-gt0.false c.in-Some.j c.in-Some.a ((let c : (let a = c.args in
    Some (c.in-Some.j, c.in-Some.a) ≡ taken_by (bytes "runs=") (decimal_from (least_runs c.tank_head-h.result.flag) (most_runs c.tank_head-h.result.flag a.limit)) a.bytes.now c.tank_head-h.result.at) = sym c.in-Some.is ∙ c.count_line.ensures in c)) c.runs_lines-r.result ((let c : (let a = c.args in
    ReadsRuns (2 ^ c.tank_head-h.result.marks - 1) a.bytes.now c.in-Some.a (c.tank_head-h.result.lines + 1) c.in-Some.j c.runs_lines-r.result) = let a = c.args in
    subst (λ (x : ℕ). ReadsRuns x a.bytes.now c.in-Some.a (c.tank_head-h.result.lines + 1) c.in-Some.j c.runs_lines-r.result) c.all_of-all.ensures c.runs_lines-r.ensures in c)) c.if-r-gt0.false c.all_of-all.result c.all_of-all.ensures c.have_room.result c.have_room.ensures
    (sym c.adds_up.ensures ∙ c.if-adds_up.false) c.wrong_tank-2.result c.wrong_tank-2.ensures.0 c.wrong_tank-2.ensures.1 c.wrong_tank-2.ensures.2
