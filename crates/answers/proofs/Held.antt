-- A buffer that is held: nothing of it goes out, and the place behind tells whether all had room.
use mathlib.Core.Path.{◌≡◌, refl, sym, ap, ap₂, ◌∙◌}
use mathlib.Core.Bool.{Bool, true, false, cond}
use mathlib.Core.List.{List, [], ◌∷◌, ◌++◌, append-nil, flatten}
use Prim.Native.Nat.{ℕ, ◌+◌, ◌-◌, ◌≤◌, ◌<◌, min}
use native.Mathlib.Decide.{dec_lt}
use native.Mathlib.Omega.{arith}
use lib.Dec.{leb}
use lib.ListN.{length, take, drop, length-append, take-append-drop}
use borrow.Author.Tests.{le-leb, lt-leb}
use Rattle.text.specs.Number.{put}
use Rattle.text.proofs.Putting.{put_room, put_put}
use Rattle.script.specs.Writing.{free_at, most_written, again_at}
use Rattle.answers.specs.Waiting.{Pieces, Waiting, waiting, piece_room, with, with_all, Short, front, sent}
use Rattle.answers.proofs.Sent.{put_length, free_inside}

-- ---- Nothing goes out
silent_by : (a : Bool) (more : List ℕ) → more ≡ [] → cond a [] [] ++ more ≡ []
silent_by true more none = none
silent_by false more none = none

pub held_silent : (w : Waiting) (pieces : Pieces) → most_written < length w.buffer → sent w pieces ≡ []
unfolding sent with
held_silent w [] h = refl
held_silent w (t ∷ ts) h =
    let a = leb (w.at + piece_room) (length w.buffer) in
    ap (λ (out : Bool). cond a [] (cond out (front w) []) ++ sent (with w t) ts) (lt-leb (length w.buffer) most_written h)
    ∙ silent_by a (sent (with w t) ts) (held_silent (with w t) ts (omega (arith, h, put_room w.buffer (free_at piece_room w.at w.buffer) t)))

-- ---- With room for all, pieces stand one behind the other
put_nothing : (d : List ℕ) (at : ℕ) → put d at [] ≡ d
put_nothing d at =
    let e : at + 0 ≡ at = omega arith in
    ap (λ (k : ℕ). (take at d ++ []) ++ drop k d) e
    ∙ ap (λ (l : List ℕ). l ++ drop at d) (append-nil (take at d)) ∙ take-append-drop at d

behind : (at : ℕ) (d : List ℕ) → at + piece_room ≤ length d → free_at piece_room at d ≡ at
behind at d h = rw (le-leb (at + piece_room) (length d) h)

pub all_behind : (d : List ℕ) (at : ℕ) (pieces : Pieces) → Short pieces → at + length (flatten pieces) + piece_room ≤ length d → with_all (waiting d at) pieces ≡ waiting (put d at (flatten pieces)) (at + length (flatten pieces))
unfolding with_all with flatten Short
all_behind d at [] short h = ap₂ waiting (sym (put_nothing d at)) (omega arith)
all_behind d at (t ∷ ts) short h =
    let sum = length-append t (flatten ts) in
    let fits : at + length t ≤ length d = omega (arith, h, sum) in
    ap (λ (k : ℕ). with_all (waiting (put d k t) (k + length t)) ts) (behind at d (omega (arith, h)))
    ∙ all_behind (put d at t) (at + length t) ts short.1 (omega (arith, h, sum, put_length d at t fits))
    ∙ ap₂ waiting (put_put d at t fits (flatten ts)) (omega (arith, sum))

-- ---- Without it, the place stays in the last bytes
late : (at : ℕ) (d : List ℕ) → most_written < length d → min at (length d - piece_room) ≤ free_at piece_room at d
unfolding again_at
late at d held =
    elim (dec_lt (length d) (at + piece_room)) [
      | yes k ↦ rw (lt-leb (at + piece_room) (length d) k) (rw (lt-leb (length d) most_written held) (omega arith))
      | no k ↦ rw (le-leb (at + piece_room) (length d) (omega arith)) (omega arith)
    ]

-- over bare numbers: what is late before a piece is late behind it
late_on : (n at k p more : ℕ) → 192 ≤ n → min at (n - 192) ≤ k → n ≤ at + (p + more) + 192 → n ≤ k + p + more + 192
late_on n at k p more r m h = omega (arith, r, m, h)

pub held_late : (w : Waiting) (pieces : Pieces) → most_written < length w.buffer → Short pieces → length w.buffer ≤ w.at + length (flatten pieces) + piece_room → length w.buffer ≤ (with_all w pieces).at + piece_room
unfolding with_all with flatten Short
held_late w [] held short h = omega (arith, h)
held_late w (t ∷ ts) held short h =
    let d = w.buffer in
    let k = free_at piece_room w.at d in
    let same = put_length d k t (free_inside w.at d t (omega (arith, held)) short.0) in
    let on = late_on (length d) w.at k (length t) (length (flatten ts)) (omega (arith, held)) (late w.at d held) (omega (arith, h, length-append t (flatten ts))) in
    omega (arith, same, held_late (with w t) ts (omega (arith, same, held)) short.1 (omega (arith, same, on)))
