use Rattle.std.proofs.Common.{Some, ap, ◌∙◌}
use Rattle.gp_base.specs.declared.records.Records.{Records}
use Rattle.gmon_gnu.specs.Reading.{refusal_read}
use Rattle.gmon_gnu.specs.Ending.{ending_result}
use Rattle.gmon_gnu.specs.Shown.{view_of}
use Rattle.gmon_gnu.proofs.FedLemmas.{accepted_out, read_out, records_out, refusal_on, seen_as}
use Rattle.gmon_gnu.proofs.reader.Reader.records.Goals as goal

pub returns-in-Some-clause-refused : goal.returns-in-Some-clause-refused
returns-in-Some-clause-refused c = λ bytes stands.
    let s = seen_as c.self.view_is stands in
    refusal_on bytes ∙ ap refusal_read (read_out bytes (view_of c.self.inside) (Some c.in-Some.refusal) s (c.end_fault.ensures ∙ ap ending_result c.in-Some.is))

pub returns-in-None-clause-accepted : goal.returns-in-None-clause-accepted
returns-in-None-clause-accepted c = λ bytes stands.
    let s = seen_as c.self.view_is stands in
    accepted_out bytes (view_of c.self.inside) s (c.end_fault.ensures ∙ ap ending_result c.in-None.is)

pub returns-in-None-clause-records : goal.returns-in-None-clause-records
returns-in-None-clause-records c = λ bytes stands.
    let s = seen_as c.self.view_is stands in
    ap (λ (r : Records). r.recs) (records_out bytes (view_of c.self.inside) c.new.result s (c.end_fault.ensures ∙ ap ending_result c.in-None.is) c.new.ensures)
