use Rattle.std.proofs.Common.{map}
use Rattle.folded.specs.Nodes.{line_of_node}
use Rattle.folded.specs.Paths.{IsPath, functions_of}
use Rattle.folded.proofs.MarkLemmas.{MarksOf}
use Rattle.folded.proofs.tally.marks_of.Given as goal

abbrev pub invariant-loop-i : goal.invariant-loop-i
invariant-loop-i l = record {
  path : IsPath l.tree.nodes.items l.path;
  marks : MarksOf (map (line_of_node l.tree) l.order) l.tree.functions l.i l.passed (functions_of l.path) l.marks.items;
}
