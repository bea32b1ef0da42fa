use Rattle.std.proofs.Common.{arith}
use Rattle.folded.proofs.PathLemmas.{begins_up, shared_front}
use Rattle.folded.proofs.path.Path.shared.Goals as goal

pub loop-len-preserved : goal.loop-len-preserved
loop-len-preserved c = grind (arith, begins_up)

pub returns-clause-other : goal.returns-clause-other
returns-clause-other c =
    let l = c.loop-len in
    (shared_front c.args.tree.now.nodes.items c.args.self.now c.args.node l.node l.len c.requires.path l.invariant.len c.loop-len-test.false l.invariant.begins).0

pub returns-clause-same : goal.returns-clause-same
returns-clause-same c =
    let l = c.loop-len in
    (shared_front c.args.tree.now.nodes.items c.args.self.now c.args.node l.node l.len c.requires.path l.invariant.len c.loop-len-test.false l.invariant.begins).1
