use Rattle.std.proofs.Common.{◌<◌, ◌≤◌, ℕ, arith, length, subst, sym}
use Rattle.folded.specs.Links.{EndsAt}
use Rattle.folded.proofs.AddLemmas.{found_node}
use Rattle.folded.proofs.tree.Tree.find.Goals as goal

pub returns-clause-node : goal.returns-clause-node
returns-clause-node c =
    let t = c.args.self.now in
    let is = c.link-node.ensures in
    let some : 0 < c.link-node.result = grind (arith, c.if-node-eq0.false) in
    let inside : c.link-node.result ≤ length t.nodes.items = subst (λ (n : ℕ). n ≤ length t.nodes.items) (sym is) (c.requires.linked.inside c.seek-above.result.0 c.seek-above.result.1) in
    let ends : EndsAt t.nodes.items c.args.caller c.args.function c.link-node.result = subst (λ (n : ℕ). EndsAt t.nodes.items c.args.caller c.args.function n) (sym is) c.seek-above.ensures.ends in
    found_node t.nodes.items c.link-node.result c.args.caller c.args.function c.args.self.now.is_tree.callers inside some ends
