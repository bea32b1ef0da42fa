use Rattle.std.proofs.Common.{◌≡◌, ◌++◌, length, take}
use Rattle.call_cycles.specs.Passes.{with_rank}
use Rattle.call_cycles.proofs.depth.rank_all.Given as goal

abbrev pub invariant-loop-f : goal.invariant-loop-f
invariant-loop-f l = record {
  len : length l.ranks.items ≡ length l.fn.ranks.items;
  ranks : l.ranks.items ≡ with_rank l.fn.ranks.items (take l.f-index l.functions) l.rank;
  order : l.order.items ≡ l.fn.order.items ++ take l.f-index l.functions;
}
