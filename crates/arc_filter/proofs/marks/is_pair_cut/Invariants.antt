use Rattle.std.proofs.Common.{◌≡◌, false, take}
use Rattle.arc_filter.specs.Marks.{is_marked}
use Rattle.arc_filter.proofs.marks.is_pair_cut.Given as goal

abbrev pub invariant-loop-mark : goal.invariant-loop-mark
invariant-loop-mark l = is_marked (take l.mark-index l.marks) l.caller l.callee ≡ false
