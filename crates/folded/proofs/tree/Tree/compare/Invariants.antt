use Rattle.std.proofs.Common.{◌+◌, length, min}
use Rattle.folded.proofs.CompareLemmas.{Meets}
use Rattle.folded.proofs.tree.Tree.compare.Given as goal

abbrev pub invariant-loop-x : goal.invariant-loop-x
invariant-loop-x l = Meets l.self.nodes.items (min l.a (length l.self.nodes.items)) (min l.b (length l.self.nodes.items)) l.x l.y l.below_x l.below_y

abbrev pub decreases-loop-x : goal.decreases-loop-x
decreases-loop-x l = l.x + l.y
