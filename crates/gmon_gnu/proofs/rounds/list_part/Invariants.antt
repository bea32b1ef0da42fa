use Rattle.std.proofs.Common.{◌≡◌, ◌≤◌, ◌+◌, ◌++◌, length, take}
use Rattle.gmon_gnu.specs.Pieces.{left_of, part_of}
use Rattle.gmon_gnu.proofs.rounds.list_part.Given as goal

-- behind the others, of the addresses so far
abbrev pub invariant-loop-k : goal.invariant-loop-k
invariant-loop-k l = record {
  counted : l.left ≡ l.fn.listed + length (left_of l.j (take l.k (part_of l.size l.part l.profile.blocks)));
  listed : l.left ≤ length l.few → take l.left l.few ≡ take l.fn.listed l.initial.few ++ left_of l.j (take l.k (part_of l.size l.part l.profile.blocks));
  few : l.left ≤ l.fn.listed + l.k;
}
