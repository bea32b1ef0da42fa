use Rattle.std.proofs.Common.{◌-◌, length, min, ap, ◌∙◌}
use Rattle.gmon_bsd.proofs.FedLemmas.{kept_without_fault, counters_due, arcs_due}
use Rattle.gmon_bsd.proofs.reader.parts.Goals as goal

pub returns-clause-counters : goal.returns-clause-counters
returns-clause-counters c =
    let kept = kept_without_fault c.args.header.now _ c.if-header-lt-HEADER.false c.header_fault.ensures c.if-is_some.ensures in
    let due = c.min.ensures ∙ ap (λ n. min n (length c.args.body.now)) (c.saturating_sub-due.ensures ∙ ap (λ n. n - c.args.at) c.word.ensures) in
    c.split_at-2.ensures.front ∙ counters_due c.args.header.now c.args.at _ c.args.body.now kept due

pub returns-clause-arcs : goal.returns-clause-arcs
returns-clause-arcs c =
    let kept = kept_without_fault c.args.header.now _ c.if-header-lt-HEADER.false c.header_fault.ensures c.if-is_some.ensures in
    let due = c.min.ensures ∙ ap (λ n. min n (length c.args.body.now)) (c.saturating_sub-due.ensures ∙ ap (λ n. n - c.args.at) c.word.ensures) in
    c.split_at-2.ensures.back ∙ arcs_due c.args.header.now c.args.at _ c.args.body.now kept due
