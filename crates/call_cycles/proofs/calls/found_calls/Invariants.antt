use Rattle.std.proofs.Common.{◌≤◌, length, take}
use Rattle.gmon_data.specs.Tally.{tally_total}
use Rattle.call_cycles.specs.Calls.{HaveCalls, calls_between, count_of}
use Rattle.call_cycles.proofs.calls.found_calls.Given as goal

abbrev pub invariant-loop-i : goal.invariant-loop-i
invariant-loop-i l = record {
  found : HaveCalls (length l.symbols) (calls_between (take l.i l.profile.arcs) l.symbols) l.calls.between.items l.calls.own.items;
  few : count_of l.calls.between.items ≤ tally_total (take l.i l.profile.arcs);
}
