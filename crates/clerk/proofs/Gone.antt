-- Nothing that a run says is lost, and nothing of it goes out twice.
use mathlib.Core.Path.{◌≡◌, refl, sym, ap, ap₂, ◌∙◌}
use mathlib.Core.List.{List, [], ◌∷◌, ◌++◌, append_assoc, flatten}
use Prim.Native.Nat.{ℕ, ◌≤◌}
use native.Mathlib.Omega.{arith}
use lib.ListN.{length, take}
use Rattle.script.specs.Writing.{free_at, most_written}
use Rattle.answers.specs.Waiting.{Pieces, Waiting, piece_room, with, with_all, Short, front, sent}
use Rattle.answers.proofs.Sent.{put_length, free_inside, nothing_lost}
use Rattle.clerk.specs.declared.Eaten.{Eaten}
use Rattle.clerk.specs.Course.{Course, after_read, said_read, written_after, said_reads, gone, beginning, RunsWhole}
use Rattle.clerk.proofs.Cuts.{waits_read}

-- of one read into a buffer that is written out, whatever waited before it: what goes out meanwhile and what then waits are what waited before and all that is said
pub run_nothing_lost : (x : Course) (input : List ℕ) → piece_room ≤ length x.waits.buffer → length x.waits.buffer ≤ most_written → x.waits.at ≤ length x.waits.buffer → Short (said_read x input) → sent x.waits (said_read x input) ++ front (after_read x input).waits ≡ front x.waits ++ flatten (said_read x input)
run_nothing_lost x input room small inside short = nothing_lost room small inside (record { is = waits_read x input; short = short })

-- ---- All reads of a run
-- pieces leave a buffer as long as it was
same_room : (w : Waiting) (pieces : Pieces) → piece_room ≤ length w.buffer → Short pieces → length (with_all w pieces).buffer ≡ length w.buffer
unfolding with_all with Short
same_room w [] room short = refl
same_room w (t ∷ ts) room short =
    let same = put_length w.buffer (free_at piece_room w.at w.buffer) t (free_inside w.at w.buffer t room short.0) in
    same_room (with w t) ts (omega (arith, same, room)) short.1 ∙ same

-- and so does a read
read_room : (x : Course) (input : List ℕ) → piece_room ≤ length x.waits.buffer → Short (said_read x input) → length (after_read x input).waits.buffer ≡ length x.waits.buffer
read_room x input room short = ap (λ (w : Waiting). length w.buffer) (waits_read x input) ∙ same_room x.waits (said_read x input) room short

-- parts of short pieces
short_parts : (ts us : Pieces) → Short (ts ++ us) → Short ts × Short us
unfolding Short
short_parts [] us h = (tt, h)
short_parts (t ∷ ts) us h = let p = short_parts ts us h.1 in ((h.0, p.0), p.1)

flatten_parts : (ts us : Pieces) → flatten (ts ++ us) ≡ flatten ts ++ flatten us
unfolding flatten
flatten_parts [] us = refl
flatten_parts (t ∷ ts) us = ap (λ (l : List ℕ). t ++ l) (flatten_parts ts us) ∙ sym (append_assoc t (flatten ts) (flatten us))

-- from a place where nothing waits, all that goes out is all that is said
pub reads_nothing_lost : (x : Course) (inputs : List (List ℕ)) → piece_room ≤ length x.waits.buffer → length x.waits.buffer ≤ most_written → x.waits.at ≡ 0 → Short (said_reads x inputs) → gone x inputs ≡ flatten (said_reads x inputs)
unfolding gone said_reads flatten
reads_nothing_lost x [] room small none short = refl
reads_nothing_lost x (input ∷ inputs) room small none short =
    let p = short_parts (said_read x input) (said_reads (written_after x input) inputs) short in
    let same = read_room x input room p.0 in
    ap₂
    ◌++◌
    (run_nothing_lost x input room small (omega (arith, none)) p.0 ∙ ap (λ (k : ℕ). take k x.waits.buffer ++ flatten (said_read x input)) none)
    (reads_nothing_lost (written_after x input) inputs (omega (arith, room, same)) (omega (arith, small, same)) refl p.1)
    ∙ sym (flatten_parts (said_read x input) (said_reads (written_after x input) inputs))

-- a whole run
pub whole_nothing_lost : {r : Eaten} (w : RunsWhole r) → gone (beginning w.buffer) w.runs.leads.inputs ≡ flatten (said_reads (beginning w.buffer) w.runs.leads.inputs)
whole_nothing_lost w = reads_nothing_lost (beginning w.buffer) w.runs.leads.inputs w.room w.small refl w.runs.leads.short
