use Rattle.std.proofs.Common.{◌≡◌, false, take}
use Rattle.arc_filter.specs.Marks.{is_caller_marked}
use Rattle.arc_filter.proofs.marks.is_caller.Given as goal

abbrev pub invariant-loop-sides : goal.invariant-loop-sides
invariant-loop-sides l = is_caller_marked (take l.sides-index l.marks) l.caller ≡ false
