-- `stretches::write` meets its contract: nothing is stored, or the three numbers of an entry.
use Prim.Native.Nat.{◌+◌, ◌≤◌}
use mathlib.Core.Path.{◌≡◌, refl, sym, ap, ◌∙◌}
use mathlib.Core.List.{[], ◌∷◌}
use native.Mathlib.Omega.{arith}
use lib.ListN.{length, length-set}
use Rattle.runs.specs.Stretches.{entry}
use Rattle.runs.proofs.ListLaws.{entry_none, entry_some, write_three, write_none}
use Rattle.runs.proofs.stretches.write.Goals as goal

pub returns-then-width-eq0 : goal.returns-then-width-eq0
returns-then-width-eq0 c =
    let a = c.args in
    let e = entry_none a.least a.start a.end a.marks (sym c.width.ensures ∙ c.if-width-eq0.true) in
    rw e record { out_after = write_none a.out.now a.at (omega (arith, ap length e)); value = omega arith }

pub offset_bounds-out-at : goal.offset_bounds-out-at
offset_bounds-out-at c =
    omega (
      arith,
      (let h : c.args.at + 3 ≤ length c.args.out.now = omega (
        arith,
        ap length ((let h : let a = c.args in entry a.least a.start a.end a.marks ≡ a.start ∷ a.end ∷ a.marks ∷ [] = let a = c.args in
            entry_some a.least a.start a.end a.marks (λ z. c.if-width-eq0.false (c.width.ensures ∙ z)) in h)),
      ) in h),
    )

pub bounds-out-at : goal.bounds-out-at
bounds-out-at c =
    omega (
      arith,
      (let h : c.args.at + 3 ≤ length c.args.out.now = omega (
        arith,
        ap length ((let h : let a = c.args in entry a.least a.start a.end a.marks ≡ a.start ∷ a.end ∷ a.marks ∷ [] = let a = c.args in
            entry_some a.least a.start a.end a.marks (λ z. c.if-width-eq0.false (c.width.ensures ∙ z)) in h)),
      ) in h),
    )

pub overflow_add-out : goal.overflow_add-out
overflow_add-out c =
    omega (
      arith,
      (let h : c.args.at + 3 ≤ length c.args.out.now = omega (
        arith,
        ap length ((let h : let a = c.args in entry a.least a.start a.end a.marks ≡ a.start ∷ a.end ∷ a.marks ∷ [] = let a = c.args in
            entry_some a.least a.start a.end a.marks (λ z. c.if-width-eq0.false (c.width.ensures ∙ z)) in h)),
      ) in h),
    )

pub offset_bounds-out-at-2 : goal.offset_bounds-out-at-2
offset_bounds-out-at-2 c =
    omega (
      arith,
      (let h : c.args.at + 3 ≤ length c.args.out.now = omega (
        arith,
        ap length ((let h : let a = c.args in entry a.least a.start a.end a.marks ≡ a.start ∷ a.end ∷ a.marks ∷ [] = let a = c.args in
            entry_some a.least a.start a.end a.marks (λ z. c.if-width-eq0.false (c.width.ensures ∙ z)) in h)),
      ) in h),
    )

pub bounds-out-at-2 : goal.bounds-out-at-2
bounds-out-at-2 c =
    simp length-set (omega (
      arith,
      (let h : c.args.at + 3 ≤ length c.args.out.now = omega (
        arith,
        ap length ((let h : let a = c.args in entry a.least a.start a.end a.marks ≡ a.start ∷ a.end ∷ a.marks ∷ [] = let a = c.args in
            entry_some a.least a.start a.end a.marks (λ z. c.if-width-eq0.false (c.width.ensures ∙ z)) in h)),
      ) in h),
    ))

pub overflow_add-out-2 : goal.overflow_add-out-2
overflow_add-out-2 c =
    omega (
      arith,
      (let h : c.args.at + 3 ≤ length c.args.out.now = omega (
        arith,
        ap length ((let h : let a = c.args in entry a.least a.start a.end a.marks ≡ a.start ∷ a.end ∷ a.marks ∷ [] = let a = c.args in
            entry_some a.least a.start a.end a.marks (λ z. c.if-width-eq0.false (c.width.ensures ∙ z)) in h)),
      ) in h),
    )

pub offset_bounds-out-at-3 : goal.offset_bounds-out-at-3
offset_bounds-out-at-3 c =
    omega (
      arith,
      (let h : c.args.at + 3 ≤ length c.args.out.now = omega (
        arith,
        ap length ((let h : let a = c.args in entry a.least a.start a.end a.marks ≡ a.start ∷ a.end ∷ a.marks ∷ [] = let a = c.args in
            entry_some a.least a.start a.end a.marks (λ z. c.if-width-eq0.false (c.width.ensures ∙ z)) in h)),
      ) in h),
    )

pub bounds-out-at-3 : goal.bounds-out-at-3
bounds-out-at-3 c =
    simp length-set (omega (
      arith,
      (let h : c.args.at + 3 ≤ length c.args.out.now = omega (
        arith,
        ap length ((let h : let a = c.args in entry a.least a.start a.end a.marks ≡ a.start ∷ a.end ∷ a.marks ∷ [] = let a = c.args in
            entry_some a.least a.start a.end a.marks (λ z. c.if-width-eq0.false (c.width.ensures ∙ z)) in h)),
      ) in h),
    ))

pub overflow_add-result : goal.overflow_add-result
overflow_add-result c =
    omega (
      arith,
      (let h : c.args.at + 3 ≤ length c.args.out.now = omega (
        arith,
        ap length ((let h : let a = c.args in entry a.least a.start a.end a.marks ≡ a.start ∷ a.end ∷ a.marks ∷ [] = let a = c.args in
            entry_some a.least a.start a.end a.marks (λ z. c.if-width-eq0.false (c.width.ensures ∙ z)) in h)),
      ) in h),
    )

pub returns : goal.returns
returns c =
    let a = c.args in
    rw ((let h : let a = c.args in entry a.least a.start a.end a.marks ≡ a.start ∷ a.end ∷ a.marks ∷ [] = let a = c.args in
    entry_some a.least a.start a.end a.marks (λ z. c.if-width-eq0.false (c.width.ensures ∙ z)) in h)) record {
      out_after = write_three a.out.now a.at a.start a.end a.marks ((let h : c.args.at + 3 ≤ length c.args.out.now = omega (
        arith,
        ap length ((let h : let a = c.args in entry a.least a.start a.end a.marks ≡ a.start ∷ a.end ∷ a.marks ∷ [] = let a = c.args in
            entry_some a.least a.start a.end a.marks (λ z. c.if-width-eq0.false (c.width.ensures ∙ z)) in h)),
      ) in h));
      value = refl;
    }
