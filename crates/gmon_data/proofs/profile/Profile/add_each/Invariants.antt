use Rattle.std.proofs.Common.{drop}
use Rattle.gmon_data.specs.Content.{wide_records}
use Rattle.gmon_data.proofs.RecordLemmas.{IsUnderway}
use Rattle.gmon_data.proofs.profile.Profile.add_each.Given as goal

abbrev pub invariant-loop-rec : goal.invariant-loop-rec
invariant-loop-rec l = IsUnderway (wide_records l.recs) (wide_records (drop l.rec-index l.recs)) l.initial.self l.self
