use Rattle.std.proofs.Common.{◌≡◌, drop}
use Rattle.gmon_gnu.specs.Searching.{counted_hists}
use Rattle.gmon_gnu.proofs.first_hists.first_unit.Given as goal

-- the entries so far have no histogram with counters
abbrev pub invariant-loop-i : goal.invariant-loop-i
invariant-loop-i l = counted_hists l.fields l.entries ≡ counted_hists l.fields (drop l.i l.entries)
