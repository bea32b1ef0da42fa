use Rattle.std.proofs.Common.{drop, map}
use Rattle.gmon_data.proofs.RecordLemmas.{IsUnderway}
use Rattle.profile_sum.specs.Sum.{hist_record}
use Rattle.profile_sum.proofs.addition.add_hists_of.Given as goal

abbrev pub invariant-loop-i : goal.invariant-loop-i
invariant-loop-i l = IsUnderway (map (hist_record l.«unit») l.more.hists) (map (hist_record l.«unit») (drop l.i l.more.hists)) l.initial.total l.total
