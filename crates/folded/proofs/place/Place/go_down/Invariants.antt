use Rattle.std.proofs.Common.{◌-◌, length, map}
use Rattle.folded.specs.Links.{AreLinked}
use Rattle.folded.specs.Nodes.{IsGrown, IsOn}
use Rattle.folded.specs.Stacks.{caller_in}
use Rattle.folded.proofs.place.Place.go_down.Given as goal

abbrev pub invariant-loop-self : goal.invariant-loop-self
invariant-loop-self l = record {
  linked : AreLinked l.tree.nodes.items l.tree.links.items;
  grown : IsGrown l.initial.tree l.tree;
  on : IsOn l.tree.nodes.items (map (caller_in l.symbols) l.frames) l.self;
}

abbrev pub decreases-loop-self : goal.decreases-loop-self
decreases-loop-self l = length l.frames - l.self.depth
