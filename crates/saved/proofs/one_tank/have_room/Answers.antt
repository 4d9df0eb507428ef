-- The bits of each party counted.
use mathlib.Core.Path.{◌≡◌, sym, ap, ap₂, ◌∙◌}
use Prim.Native.Nat.{ℕ, ◌+◌, max}
use lib.Dec.{leb}
use lib.ListN.{take}
use borrow.Author.Tests.{eq-eqb, ne_eqb}
use Rattle.styles.specs.declared.Party.TheVariants.{Plant, Lab}
use Rattle.styles.specs.Marks.{is_of}
use Rattle.tank.specs.Rules.{marks_of, needs}
use Rattle.tank.proofs.CrowdLaws.{mask_count}
use Rattle.saved.specs.Saying.{roomy}
use Rattle.saved.proofs.one_tank.have_room.Goals as goal

pub returns-then-lab-eq0 : goal.returns-then-lab-eq0
unfolding roomy
returns-then-lab-eq0 c =
    let a = c.args in
    let labs = mask_count (is_of Lab) _ _ _ c.party_bits-2.ensures c.count-lab.ensures.0 in
    rw (eq-eqb (marks_of Lab (take a.n a.table)) 0 (sym labs ∙ c.if-lab-eq0.true))

pub returns : goal.returns
unfolding roomy needs
returns c =
    let a = c.args in
    let plants = mask_count (is_of Plant) _ _ _ c.party_bits.ensures c.count-plant.ensures.0 in
    let labs = mask_count (is_of Lab) _ _ _ c.party_bits-2.ensures c.count-lab.ensures.0 in
    let p : c.max.result ≡ max (marks_of Plant (take a.n a.table)) 32 = c.max.ensures ∙ ap (λ (x : ℕ). max x 32) plants in
    let q : c.max-2.result ≡ max (marks_of Lab (take a.n a.table)) 16 = c.max-2.ensures ∙ ap (λ (x : ℕ). max x 16) labs in
    rw (ne_eqb (marks_of Lab (take a.n a.table)) 0 (λ e. c.if-lab-eq0.false (labs ∙ e)))
    (ap₂ (λ (x y : ℕ). leb (x + y) 64) p q)
