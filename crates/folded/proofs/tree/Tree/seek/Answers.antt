use Rattle.std.proofs.Common.{◌≡◌, ◌/◌, ◌<◌, Bool, false, true, arith, subst, sym}
use Rattle.folded.specs.declared.links.Side.{Side}
use Rattle.folded.proofs.LinkLemmas.{Seeks, seek_first, seek_next}
use Rattle.folded.proofs.tree.Tree.seek.Goals as goal

pub nodes-init : goal.nodes-init
nodes-init c = search (seek_first, c.unwrap_or-bits.ensures)

pub nodes-preserved : goal.nodes-preserved
nodes-preserved c =
    let t = c.args.self.now in
    let l = c.nodes in
    let some : 0 < c.link-node.result = grind (arith, c.if-node-eq0.false) in
    let S : Side → Type 0 = λ side. Seeks t.nodes.items t.links.items c.args.caller c.args.function c.link-node.result side (l.bits / 2) in
    subst S (sym c.side_of-side.ensures) (seek_next t.nodes.items t.links.items c.args.caller c.args.function l.above l.side l.bits c.link-node.result c.requires.linked l.invariant c.link-node.ensures some (λ same.
    let wrong : false ≡ true = subst (λ (b : Bool). b ≡ true) c.if-is_node.false (c.is_node.ensures.1 same) in cc))
