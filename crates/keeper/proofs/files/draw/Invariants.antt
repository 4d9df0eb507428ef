-- Five bytes and sixteen letters are as long as the word.
use Rattle.std.proofs.Common.{◌≡◌, length}
use Rattle.keeper.proofs.files.draw.Given as goal

abbrev pub invariant-loop-i : goal.invariant-loop-i
invariant-loop-i l = length l.word ≡ 21
