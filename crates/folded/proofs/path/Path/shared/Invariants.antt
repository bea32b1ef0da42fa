use Rattle.std.proofs.Common.{◌+◌, ◌≤◌}
use Rattle.folded.proofs.PathLemmas.{Begins}
use Rattle.folded.proofs.path.Path.shared.Given as goal

abbrev pub invariant-loop-len : goal.invariant-loop-len
invariant-loop-len l = record {
  len : l.len ≤ l.self.len;
  begins : Begins l.tree.nodes.items l.fn.node l.node;
}

abbrev pub decreases-loop-len : goal.decreases-loop-len
decreases-loop-len l = l.len + l.node
