use Rattle.folded.specs.Paths.{IsPath}
use Rattle.folded.proofs.path.Path.+go_to.Given as goal

abbrev pub invariant-loop-self : goal.invariant-loop-self
invariant-loop-self l = IsPath l.tree.nodes.items l.self

abbrev pub decreases-loop-self : goal.decreases-loop-self
decreases-loop-self l = l.self.len

abbrev pub decreases-go_to : goal.decreases-go_to
decreases-go_to l = l.node
