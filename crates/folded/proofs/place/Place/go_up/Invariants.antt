use Rattle.std.proofs.Common.{◌≡◌, ◌≤◌, min, take}
use Rattle.folded.specs.Nodes.{IsPlaced, stack_of_node}
use Rattle.folded.proofs.place.Place.go_up.Given as goal

-- the functions above the depth are left
abbrev pub invariant-loop-self : goal.invariant-loop-self
invariant-loop-self l = record {
  placed : IsPlaced l.tree.nodes.items l.self;
  least : min l.calls l.initial.self.depth ≤ l.self.depth;
  most : l.self.depth ≤ l.initial.self.depth;
  front : stack_of_node l.tree.nodes.items l.self.node ≡ take l.self.depth (stack_of_node l.tree.nodes.items l.initial.self.node);
}

abbrev pub decreases-loop-self : goal.decreases-loop-self
decreases-loop-self l = l.self.depth
