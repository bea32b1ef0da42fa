use Rattle.std.proofs.Common.{map, string_bytes, take}
use Rattle.arc_filter.specs.Marks.{AreMarks}
use Rattle.arc_filter.proofs.marks.marks_of.Given as goal

abbrev pub invariant-loop-word : goal.invariant-loop-word
invariant-loop-word l = AreMarks l.symbols (map string_bytes (take l.word-index l.cuts)) l.marks.items
