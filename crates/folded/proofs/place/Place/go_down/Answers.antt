use Rattle.std.proofs.Common.{◌∙◌, arith, ap, length}
use Rattle.std.proofs.lemmas.List.{length_push}
use Rattle.folded.specs.Nodes.{stack_of_node}
use Rattle.folded.proofs.PlaceLemmas.{IsGrown-then, call_more}
use Rattle.folded.proofs.NodeLemmas.{Stack}
use Rattle.folded.proofs.place.Place.go_down.Goals as goal

pub loop-self-preserved : goal.loop-self-preserved
loop-self-preserved c =
    let p = c.loop-self.self in
    let i = c.loop-self.invariant in
    let front = stack_of_node c.loop-self.tree.nodes.items p.node in
    let made = c.in_ok-self.ensures in
    record {
      linked = made.linked;
      grown = IsGrown-then c.args.tree.now c.loop-self.tree c.child.new.self i.grown made.grown;
      on = record {
        placed = record { node = made.node.0; depth = omega (arith, ap (λ (s : Stack). length s) made.node.1, length_push front c.owner_near-caller.result, i.on.placed.depth) };
        begins = made.node.1 ∙ call_more c.args.symbols.now c.args.frames.now p.depth front c.owner_near-caller.result c.loop-self-test.true i.on.begins c.owner_near-caller.ensures;
      };
    }
