use Rattle.std.proofs.Common.{◌≡◌, ◌≤◌, ◌*◌, length, take}
use Rattle.gmon_gnu.specs.Pieces.{left_of, AreMarks}
use Rattle.gmon_gnu.proofs.rounds.list_left.Given as goal

-- of the parts so far
abbrev pub invariant-loop-part : goal.invariant-loop-part
invariant-loop-part l = record {
  marked : AreMarks l.j l.size l.profile.blocks l.marks;
  counted : l.left ≡ length (left_of l.j (take (l.part * l.size) l.profile.blocks));
  listed : l.left ≤ length l.few → take l.left l.few ≡ left_of l.j (take (l.part * l.size) l.profile.blocks);
}
