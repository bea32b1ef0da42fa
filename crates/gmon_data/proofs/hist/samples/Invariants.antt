use Rattle.std.proofs.Common.{◌≡◌, ◌+◌, drop}
use Rattle.gmon_data.specs.Hists.{samples_of}
use Rattle.gmon_data.proofs.hist.samples.Given as goal

abbrev pub invariant-loop-i : goal.invariant-loop-i
invariant-loop-i l = l.samples + samples_of (drop l.i l.hists) ≡ samples_of l.hists
