use Rattle.std.proofs.Common.{◌≡◌, ◌<◌, length}
use Rattle.std.specs.Prelude.{filter, nat_le}
use Rattle.std.specs.List.{AllPairs}
use Rattle.call_cycles.proofs.depth.join.Given as goal

abbrev pub invariant-loop-parts : goal.invariant-loop-parts
invariant-loop-parts l = record {
  rising : AllPairs (λ a b. a < b) l.parts.items;
  same : filter (λ b. nat_le b l.place) l.parts.items ≡ filter (λ b. nat_le b l.place) l.fn.parts.items;
}

abbrev pub decreases-loop-parts : goal.decreases-loop-parts
decreases-loop-parts l = length l.parts.items
