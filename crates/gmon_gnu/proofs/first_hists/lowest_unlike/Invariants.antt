use Rattle.std.proofs.Common.{◌≡◌, None, drop}
use Rattle.gmon_gnu.specs.Searching.{counted_hists, lowest_unlike}
use Rattle.gmon_gnu.proofs.first_hists.lowest_unlike.Given as goal

abbrev pub invariant-loop-i : goal.invariant-loop-i
invariant-loop-i l = lowest_unlike None (counted_hists l.fields l.before) l.range ≡ lowest_unlike l.lowest (counted_hists l.fields (drop l.i l.before)) l.range
