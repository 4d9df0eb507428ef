-- The text that is kept after a renewal is that of the file that was to be kept, whether or not it had to be written.
use mathlib.Core.Path.{◌≡◌, refl, sym, ap, ap₂, ◌∙◌}
use mathlib.Core.Bool.{Bool, true, false, not, cond}
use mathlib.Core.List.{List}
use Prim.Native.Nat.{ℕ, ◌^◌, ◌≤◌, ◌<◌}
use native.Mathlib.Omega.{arith}
use lib.ListN.{length, take}
use lib.Seq.{take-append_seam}
use borrow.Author.Tests.{le-ltb}
use Rattle.text.specs.Bytes.{same_of}
use Rattle.text.proofs.Prefix.{same_true}
use Rattle.runs.specs.Stretches.{in_front}
use Rattle.lists.specs.Lists.{list_refusal, unless_refused}
use Rattle.tanks.specs.declared.Tanks.{Tanks}
use Rattle.tanks.specs.House.{House}
use Rattle.tanks.specs.Pool.{Sound, meaning}
use Rattle.keeper_file.specs.declared.Renewed.{Renewed}
use Rattle.keeper_file.specs.File.{file_of, file_number, most_bytes, differs, kept_then, Renews}
use Rattle.keeper_file.proofs.Kept.{file_most}

-- a buffer of the longest file's length has room for every file
pub file_fits : (s : Tanks) (place room : ℕ) → Sound s → place < 2 ^ 64 → most_bytes ≤ room → file_number room place (meaning s) ≡ 0
unfolding list_refusal
file_fits s place room h p r = rw (le-ltb room (length (file_of place (meaning s))) (omega (arith, file_most s place h p)))

module _ (place : ℕ) (h : House) (kept buffer out : List ℕ) (r : Renewed) (e : Renews place h kept buffer r out) (z : r.number ≡ 0) where
  handed : unless_refused r.number (file_of place h) ≡ file_of place h
  handed = ap (λ (n : ℕ). unless_refused n (file_of place h)) z

  -- what is to be written
  pub new_text : take r.count out ≡ file_of place h
  new_text =
      ap₂ take (e.count_is ∙ ap length handed) (e.text ∙ ap (λ (t : List ℕ). in_front t buffer) handed)
      ∙ take-append_seam (file_of place h) _

  same_text : (b : Bool) → differs kept (file_of place h) ≡ b → cond b (take r.count out) kept ≡ file_of place h
  same_text true d = new_text
  same_text false d = same_true kept (file_of place h) (by (same_of kept (file_of place h)) d) where
    by : (b : Bool) → not b ≡ false → b ≡ true
    by true f = refl
    by false f = sym f

  pub renewed_kept : kept_then r out kept ≡ file_of place h
  renewed_kept = ap (λ (b : Bool). cond b (take r.count out) kept) (e.changed z) ∙ same_text (differs kept (file_of place h)) refl
