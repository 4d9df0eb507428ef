-- Whether each byte is a digit, as the library says it.
use mathlib.Core.Path.{◌≡◌, refl, ap, ◌∙◌}
use mathlib.Core.Bool.{Bool, true, false, ◌&&◌}
use mathlib.Core.List.{List, [], ◌∷◌}
use Prim.Native.Nat.{ℕ}
use lib.Dec.{leb}
use Rattle.std.specs.Char.{is_ascii_digit}
use Rattle.std.specs.List.{list_all}
use Rattle.explain.specs.Told.{figures_of}

regroup : (a b c : Bool) → ((a && b) && c) ≡ (a && (b && c))
regroup true b c = refl
regroup false b c = refl

pub figures_all : (t : List ℕ) → list_all is_ascii_digit t ≡ figures_of t
unfolding figures_of
figures_all [] = refl
figures_all (x ∷ xs) = ap (λ (b : Bool). is_ascii_digit x && b) (figures_all xs) ∙ regroup (leb 48 x) (leb x 57) (figures_of xs)
