use Rattle.std.proofs.Common.{◌≡◌, ◌++◌, drop}
use Rattle.folded.specs.Nodes.{numbers_from}
use Rattle.folded.proofs.tree.Tree.sampled.Given as goal

abbrev pub invariant-loop-n : goal.invariant-loop-n
invariant-loop-n l = l.numbers.items ++ numbers_from l.n (drop l.n l.self.counts.items) ≡ numbers_from 0 l.self.counts.items
