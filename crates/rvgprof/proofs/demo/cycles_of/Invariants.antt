use Rattle.std.proofs.Common.{◌≡◌, ◌≤◌}
use Rattle.std.specs.List.{count_by}
use Rattle.call_cycles.specs.Graph.{is_cycle}
use Rattle.call_cycles.specs.Sums.{numbers_below}
use Rattle.rvgprof.proofs.demo.cycles_of.Given as goal

abbrev pub invariant-loop-c : goal.invariant-loop-c
invariant-loop-c l = record {
  counted : l.cycles ≡ count_by (is_cycle l.graph) (numbers_below l.c);
  few : l.cycles ≤ l.c;
}
