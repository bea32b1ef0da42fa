use Rattle.std.proofs.Common.{◌-◌, length}
use Rattle.folded.proofs.LinkLemmas.{Seeks}
use Rattle.folded.proofs.tree.Tree.seek.Given as goal

abbrev pub invariant-nodes : goal.invariant-nodes
invariant-nodes l = Seeks l.self.nodes.items l.self.links.items l.caller l.function l.above l.side l.bits

abbrev pub decreases-nodes : goal.decreases-nodes
decreases-nodes l = length l.self.nodes.items - l.above
