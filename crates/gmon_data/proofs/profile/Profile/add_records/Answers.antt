use Rattle.gmon_data.specs.Content.{wide_records}
use Rattle.gmon_data.proofs.ContentLemmas.{on_ok}
use Rattle.gmon_data.proofs.RecordLemmas.{records_stand}
use Rattle.gmon_data.proofs.profile.Profile.add_records.Goals as goal

pub returns-clause-stands : goal.returns-clause-stands
returns-clause-stands c =
    let added = rw c.as_slice.ensures at c.add_each.ensures.added in
    on_ok c.add_each.result added (λ a. records_stand (wide_records c.args.r.now.recs) c.args.self.now c.add_each.new.self a.added)
