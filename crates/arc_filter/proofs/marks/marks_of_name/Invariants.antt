use Rattle.std.proofs.Common.{◌≡◌, take}
use Rattle.arc_filter.specs.Marks.{name_marks}
use Rattle.arc_filter.proofs.marks.marks_of_name.Given as goal

abbrev pub invariant-loop-symbol : goal.invariant-loop-symbol
invariant-loop-symbol l = l.marks.items ≡ name_marks (take l.symbol-index l.symbols) l.name
