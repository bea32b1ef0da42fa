use Rattle.std.proofs.Common.{arith}
use Rattle.folded.specs.Nodes.{stack_of_node}
use Rattle.folded.proofs.PrefixLemmas.{prefix_moved}
use Rattle.folded.proofs.prefix.Prefix.go_to.Goals as goal

pub extend-requires : goal.extend-requires
extend-requires c =
    let path = c.go_to.ensures.path in
    let shared = c.shared-shared.ensures in
    prefix_moved c.args.symbols.now c.args.self.now c.go_to.new.self c.shared-shared.result c.min-self.result (stack_of_node c.args.tree.now.nodes.items c.args.node) c.requires.prefix path.few path.functions c.go_to.ensures.stack shared.other shared.same (omega arith) (omega arith)
