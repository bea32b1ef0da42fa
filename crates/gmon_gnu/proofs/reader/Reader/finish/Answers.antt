use Rattle.std.proofs.Common.{Some, refl, sym, ap, subst, ◌∙◌}
use Rattle.gmon_cells.proofs.RefusalLemmas.{refusal_answered, nothing_refused}
use Rattle.gmon_gnu.specs.Reading.{refusal_read, gnu_refusal}
use Rattle.gp_base.specs.declared.records.Records.{Records}
use Rattle.gmon_gnu.specs.Grammar.{GnuSpells}
use Rattle.gmon_gnu.specs.Ending.{ending_result}
use Rattle.gmon_gnu.specs.Shown.{view_of}
use Rattle.gmon_gnu.proofs.MeaningLemmas.{spelled_of}
use Rattle.gmon_gnu.proofs.FedLemmas.{accepted_out, read_out, records_out, refusal_on, refused_out, seen_as}
use Rattle.gmon_gnu.proofs.reader.Reader.finish.Goals as goal

pub returns-in-Some-clause-refusal : goal.returns-in-Some-clause-refusal
returns-in-Some-clause-refusal c = λ bytes stands.
    let s = seen_as c.self.view_is stands in
    refused_out bytes (view_of c.self.inside) c.in-Some.refusal s (c.end_fault.ensures ∙ ap ending_result c.in-Some.is)

pub returns-clause-accepted : goal.returns-clause-accepted
returns-clause-accepted c = λ bytes stands.
    let s = seen_as c.self.view_is stands in
    accepted_out bytes (view_of c.self.inside) s (c.end_fault.ensures ∙ ap ending_result c.in-None.is)

pub returns-clause-records : goal.returns-clause-records
returns-clause-records c = λ bytes stands.
    let s = seen_as c.self.view_is stands in
    records_out bytes (view_of c.self.inside) c.in_ok-recs-in-None.recs s (c.end_fault.ensures ∙ ap ending_result c.in-None.is) c.in_ok-recs-in-None.ensures

pub returns-clause-spelled : goal.returns-clause-spelled
returns-clause-spelled c = λ bytes stands.
    let s = seen_as c.self.view_is stands in
    subst (λ (r : Records). GnuSpells bytes r) (sym (returns-clause-records c bytes stands)) (spelled_of bytes s.are_bytes (returns-clause-accepted c bytes stands))

pub returns-in-Some-clause-refused : goal.returns-in-Some-clause-refused
returns-in-Some-clause-refused c = λ bytes stands.
    let s = seen_as c.self.view_is stands in
    let there = refusal_on bytes ∙ ap refusal_read (read_out bytes (view_of c.self.inside) (Some c.in-Some.refusal) s (c.end_fault.ensures ∙ ap ending_result c.in-Some.is)) in
    refusal_answered (gnu_refusal bytes) c.in-Some.refusal _ there refl

pub returns-in_err-recs-in-None-clause-refused : goal.returns-in_err-recs-in-None-clause-refused
returns-in_err-recs-in-None-clause-refused c = λ bytes stands.
    let s = seen_as c.self.view_is stands in
    nothing_refused (gnu_refusal bytes) c.from_residual.result (accepted_out bytes (view_of c.self.inside) s (c.end_fault.ensures ∙ ap ending_result c.in-None.is))

pub returns-clause-refused : goal.returns-clause-refused
returns-clause-refused c = λ bytes stands. nothing_refused (gnu_refusal bytes) _ (returns-clause-accepted c bytes stands)
