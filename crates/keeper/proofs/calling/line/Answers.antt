-- The tanks that the clerk leaves are kept: where he says nothing they are those that were kept before.
use mathlib.Core.Path.{◌≡◌, sym, ap, subst, ◌∙◌}
use mathlib.Core.List.{List}
use Prim.Native.Nat.{ℕ}
use Rattle.tanks.specs.declared.Tanks.{Tanks}
use Rattle.tanks.specs.House.{House}
use Rattle.tanks.specs.Pool.{Sound, meaning}
use Rattle.clerk.proofs.Answered.{eats_still}
use Rattle.keeper_file.specs.Keeping.{Holds}
use Rattle.keeper.specs.declared.kept.Kept.{Kept}
use Rattle.keeper.specs.Steps.{InStep}
use Rattle.keeper.proofs.calling.line.Goals as goal

-- what is kept then, by what was kept before and by what the answers' saving says
module _ (k next : Kept) (tanks : Tanks) (at size : ℕ) (text after : List ℕ) where
  kept_on : InStep k text → next ≡ record { place = k.place; size = k.size; tanks = tanks } → (at ≡ 0 → meaning tanks ≡ meaning k.tanks) → Sound tanks
      → ((at ≡ 0 → Holds next.place (meaning next.tanks) next.size text) → Holds next.place (meaning next.tanks) size after)
      → (last : Kept) → last ≡ record { place = next.place; size = size; tanks = next.tanks } → InStep last after
  kept_on step same still sound saves last e =
      let held : at ≡ 0 → Holds k.place (meaning tanks) k.size text = λ z. subst (λ (h : House). Holds k.place h k.size text) (sym (still z)) step.holds in
      let kept : Holds k.place (meaning tanks) size after = subst (λ (x : Kept). (at ≡ 0 → Holds x.place (meaning x.tanks) x.size text) → Holds x.place (meaning x.tanks) size after) same saves held in
      let is : last ≡ record { place = k.place; size = size; tanks = tanks } = e ∙ ap (λ (x : Kept). record { place = x.place; size = size; tanks = x.tanks }) same in
      subst (λ (x : Kept). InStep x after) (sym is) (record { sound = sound; holds = kept })

pub returns-in-Some : goal.returns-in-Some
returns-in-Some c =
    let z = c.eat-e.ensures in (
      kept_on c.args.k c.keeping-kept.result c.eat-e.result.tanks c.eat-e.result.stand.at c.in-Some.size c.args.text.now _
          c.requires.in_step.0 c.keeping-kept.ensures (λ y. eats_still z y) z.ready.sound c.in-Some.ensures _ c.sized.ensures,
      z.ready.settled,
      z.ready.fits,
    )
