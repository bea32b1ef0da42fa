use Rattle.std.proofs.Common.{◌≡◌, take}
use Rattle.gmon_gnu.specs.Splitting.{largest}
use Rattle.gmon_gnu.proofs.pieces.largest.Given as goal

-- of the numbers so far
abbrev pub invariant-loop-n : goal.invariant-loop-n
invariant-loop-n l = l.most ≡ largest (take l.n-index l.numbers)
