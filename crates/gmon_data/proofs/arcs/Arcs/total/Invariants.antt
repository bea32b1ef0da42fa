use Rattle.std.proofs.Common.{◌≡◌, ◌+◌, drop}
use Rattle.gmon_data.specs.Tally.{tally_total}
use Rattle.gmon_data.proofs.arcs.Arcs.total.Given as goal

abbrev pub invariant-loop-i : goal.invariant-loop-i
invariant-loop-i l = l.sum + tally_total (drop l.i l.self) ≡ tally_total l.self
