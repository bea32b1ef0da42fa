use Rattle.std.proofs.Common.{◌∙◌, ◌<◌, ℕ, ap, arith}
use Rattle.folded.specs.Nodes.{stack_of_node}
use Rattle.folded.proofs.PathLemmas.{path_down}
use Rattle.folded.proofs.path.Path.+go_to.Goals as goal

pub bounds-self-self-then-self-node : goal.bounds-self-self-then-self-node
bounds-self-self-then-self-node t c =
    let tree = c.args.tree.now in
    let some : 0 < c.args.node = grind (arith, c.loop-self-test.false, c.if-self-node.true) in
    (path_down tree c.go_to.new.self c.args.node c.function.result some c.requires.node c.function.ensures c.go_to.ensures.path (c.go_to.ensures.stack ∙ ap (λ (n : ℕ). stack_of_node tree.nodes.items n) c.caller.ensures)).0

pub bounds-self-self-then-self-node-2 : goal.bounds-self-self-then-self-node-2
bounds-self-self-then-self-node-2 t c =
    let tree = c.args.tree.now in
    let some : 0 < c.args.node = grind (arith, c.loop-self-test.false, c.if-self-node.true) in
    let down = path_down tree c.go_to.new.self c.args.node c.function.result some c.requires.node c.function.ensures c.go_to.ensures.path (c.go_to.ensures.stack ∙ ap (λ (n : ℕ). stack_of_node tree.nodes.items n) c.caller.ensures) in
    omega (arith, down.0)

pub returns-then-self-node-clause-path : goal.returns-then-self-node-clause-path
returns-then-self-node-clause-path t c =
    let tree = c.args.tree.now in
    let some : 0 < c.args.node = grind (arith, c.loop-self-test.false, c.if-self-node.true) in
    (path_down tree c.go_to.new.self c.args.node c.function.result some c.requires.node c.function.ensures c.go_to.ensures.path (c.go_to.ensures.stack ∙ ap (λ (n : ℕ). stack_of_node tree.nodes.items n) c.caller.ensures)).1

pub returns-then-self-node-clause-stack : goal.returns-then-self-node-clause-stack
returns-then-self-node-clause-stack t c = grind (arith, path_down)
