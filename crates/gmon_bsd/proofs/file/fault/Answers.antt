use Rattle.std.proofs.Common.{sym, ◌∙◌}
use Rattle.gmon_bsd.proofs.RefusalLemmas.{header_of_all}
use Rattle.gmon_bsd.proofs.file.fault.Goals as goal

pub returns-in-Err : goal.returns-in-Err
returns-in-Err c =
    let front = header_of_all c.args.bytes.now c.split_at.result.0.now c.min.result c.min.ensures c.split_at.ensures.front in
    sym c.in-Err.ensures.refusal ∙ front
