use Rattle.folded.proofs.AddLemmas.{has_stack}
use Rattle.folded.proofs.tree.Tree.child.Goals as goal

pub returns-then-is_last-clause-node : goal.returns-then-is_last-clause-node
returns-then-is_last-clause-node c =
    let t = c.args.self.now in
    let last = c.is_last.ensures c.if-is_last.true in
    has_stack t.nodes.items t.last c.args.caller c.args.function c.args.self.now.is_tree.callers last.0 last.1
