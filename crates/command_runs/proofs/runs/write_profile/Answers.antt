use Rattle.std.proofs.lemmas.Result.{err_from_is_err_and}
use Rattle.host_port.proofs.PerformingLemmas.{create_failed, write_failed, file_performs}
use Rattle.courses.specs.Answer.{held_text}
use Rattle.command_runs.proofs.runs.write_profile.Goals as goal

pub returns-in_err-create_output-clause-performs : goal.returns-in_err-create_output-clause-performs
returns-in_err-create_output-clause-performs g c =
    let p = err_from_is_err_and c.from_residual.result c.from_residual.ensures.1 in
    rw p.1 (create_failed c.args.name.now (held_text c.args.form c.args.rate c.args.gmon.now c.args.counts.now) _ _ _ c.in_err-create_output.ensures.creates c.in_err-create_output.ensures.counts)

pub returns-in_err-write_held-clause-performs : goal.returns-in_err-write_held-clause-performs
returns-in_err-write_held-clause-performs g c =
    let p = err_from_is_err_and c.from_residual-in_err-write_held.result c.from_residual-in_err-write_held.ensures.1 in
    rw p.1 (write_failed c.args.name.now (held_text c.args.form c.args.rate c.args.gmon.now c.args.counts.now) _ _ _ _ _ c.in_ok-create_output.ensures.creates c.in_ok-create_output.ensures.counts c.in_err-write_held.ensures)

pub returns-clause-performs : goal.returns-clause-performs
returns-clause-performs g c =
    file_performs c.args.name.now (held_text c.args.form c.args.rate c.args.gmon.now c.args.counts.now) _ _ _ _ _ _ c.close_output.result c.in_ok-create_output.ensures.creates c.in_ok-create_output.ensures.counts c.in_ok-write_held.ensures c.close_output.ensures.closes c.close_output.ensures.counts
