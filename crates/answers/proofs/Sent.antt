-- Nothing is lost, and nothing comes twice, in a buffer that is written out: what went out and what waits are what waited before and the pieces behind it.
use mathlib.Core.Path.{◌≡◌, sym, ap, ◌∙◌}
use mathlib.Core.Bool.{Bool, true, false, cond}
use mathlib.Core.List.{List, [], ◌∷◌, ◌++◌, append_assoc, append-nil, flatten}
use Prim.Native.Nat.{ℕ, ◌+◌, ◌≤◌}
use native.Mathlib.Decide.{dec_lt}
use native.Mathlib.Omega.{arith}
use lib.Dec.{leb}
use lib.ListN.{length, take, drop, length-append, length-take, length-drop}
use borrow.Author.Tests.{le-leb, lt-leb}
use Rattle.text.specs.Number.{put}
use Rattle.text.proofs.Putting.{take_put}
use Rattle.script.specs.Writing.{free_at, most_written, again_at}
use Rattle.answers.specs.Waiting.{Pieces, Waiting, waiting, piece_room, with, with_all, Short, Adds, front, goes_out, sent}

-- a text put where there is room for it leaves the buffer as long as it was
pub put_length : (d : List ℕ) (at : ℕ) (s : List ℕ) → at + length s ≤ length d → length (put d at s) ≡ length d
put_length d at s h =
    omega (arith, length-append (take at d ++ s) (drop (at + length s) d), length-append (take at d) s, length-take at d, length-drop (at + length s) d, h)

-- where a buffer goes on there is room for a piece
again_inside : (d t : List ℕ) → piece_room ≤ length d → length t ≤ piece_room → again_at piece_room d + length t ≤ length d
unfolding again_at
again_inside d t r h =
    elim (dec_lt most_written (length d)) [
      | yes k ↦ rw (lt-leb (length d) most_written k) (omega arith)
      | no k ↦ rw (le-leb (length d) most_written (omega arith)) (omega arith)
    ]

-- a piece has room where it is put
pub free_inside : (at : ℕ) (d t : List ℕ) → piece_room ≤ length d → length t ≤ piece_room → free_at piece_room at d + length t ≤ length d
free_inside at d t r h =
    elim (dec_lt (length d) (at + piece_room)) [
      | yes k ↦ rw (lt-leb (at + piece_room) (length d) k) (again_inside d t r h)
      | no k ↦ rw (le-leb (at + piece_room) (length d) (omega arith)) (omega arith)
    ]

-- a buffer that is written out goes on at its front
again_front : (d : List ℕ) → length d ≤ most_written → again_at piece_room d ≡ 0
unfolding again_at
again_front d w = rw (le-leb (length d) most_written w)

-- and all that waited goes out
out_front : (w : Waiting) → length w.buffer ≤ most_written → goes_out w ≡ front w
out_front w e = rw (le-leb (length w.buffer) most_written e)

-- the two ways to put a piece
lost_by : (b : Bool) (at z : ℕ) (o d t more last rest : List ℕ) → z ≡ 0 → o ≡ take at d → cond b at z + length t ≤ length d → more ++ last ≡ take (cond b at z + length t) (put d (cond b at z) t) ++ rest → cond b [] o ++ more ++ last ≡ take at d ++ (t ++ rest)
lost_by true at z o d t more last rest none all h e = e ∙ ap (λ (x : List ℕ). x ++ rest) (take_put d at t h) ∙ append_assoc (take at d) t rest
lost_by false at z o d t more last rest none all h e =
    ap (λ (x : List ℕ). x ++ more ++ last) all
    ∙ append_assoc (take at d) more last
    ∙ ap (λ (x : List ℕ). take at d ++ x) (e ∙ ap (λ (x : List ℕ). x ++ rest) (take_put d z t h ∙ ap (λ (k : ℕ). take k d ++ t) none))

kept : (w : Waiting) (pieces : Pieces) → piece_room ≤ length w.buffer → length w.buffer ≤ most_written → w.at ≤ length w.buffer → Short pieces → sent w pieces ++ front (with_all w pieces) ≡ front w ++ flatten pieces
unfolding sent with_all with flatten Short
kept w [] room small inside short = sym (append-nil (front w))
kept w (t ∷ ts) room small inside short =
    let k = free_at piece_room w.at w.buffer in
    let fits = free_inside w.at w.buffer t room short.0 in
    let same = put_length w.buffer k t fits in
    lost_by
    (leb (w.at + piece_room) (length w.buffer))
    w.at
    (again_at piece_room w.buffer)
    (goes_out w)
    w.buffer
    t
    (sent (with w t) ts)
    (front (with_all (with w t) ts))
    (flatten ts)
    (again_front w.buffer small)
    (out_front w small)
    fits
    (kept (with w t) ts (omega (arith, same, room)) (omega (arith, same, small)) (omega (arith, same, fits)) short.1)

-- of whatever is put into a buffer that is written out
pub nothing_lost : {d out : List ℕ} {at after : ℕ} {pieces : Pieces} → piece_room ≤ length d → length d ≤ most_written → at ≤ length d → Adds d at pieces after out → sent (waiting d at) pieces ++ take after out ≡ take at d ++ flatten pieces
nothing_lost {d} {at = at} {pieces = pieces} room small inside x =
    ap (λ (w : Waiting). sent (waiting d at) pieces ++ front w) x.is ∙ kept (waiting d at) pieces room small inside x.short
