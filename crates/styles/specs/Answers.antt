-- What a caller is handed: a set with its count, a mark by its rank, and where an identity stands.
use Rattle.std.specs.Prelude.{ℕ, zero, suc, ◌-◌, List, [], ◌∷◌, ◌++◌, length, replicate, Option, None, Some, Result, Ok, Err, cond}
use Rattle.styles.specs.declared.Identity.{Identity}
use Rattle.styles.specs.declared.Mark.{Mark}
use Rattle.styles.specs.declared.Styles.{Styles}
use Rattle.styles.specs.Marks.{member, place_of, blank}

-- a set: how many marks, and the marks in order, blank after the last
abbrev pub styles_of : List Mark → Styles
styles_of ms = record { count = length ms; marks = ms ++ replicate (64 - length ms) blank }

-- the j-th mark of a set, counting from 0; past the last there is none
unfoldable pub rank_of : List Mark → ℕ → Option Mark
rank_of [] j = None
rank_of (m ∷ ms) zero = Some m
rank_of (m ∷ ms) (suc j) = rank_of ms j

-- where an identity stands in a sorted table, or else where it would
abbrev pub placed : Identity → List Mark → Result ℕ ℕ
placed id ms = cond (member id ms) (Ok (place_of id ms)) (Err (place_of id ms))
