use Rattle.std.proofs.lemmas.Result.{err_from_is_err_and}
use Rattle.host_port.specs.declared.side.Side.TheVariants.{File}
use Rattle.host_port.proofs.BufferLemmas.{flushed, stopped}
use Rattle.gmon_cells.specs.FileText.{file_text}
use Rattle.gmon_cells.proofs.run_cells.write_run.Goals as goal

pub returns-in_err-put_run : goal.returns-in_err-put_run
returns-in_err-put_run g c =
    let p = err_from_is_err_and c.from_residual.result c.from_residual.ensures.1 in
    let v = c.args.gmon.now in
    record { puts = rw p.1 (stopped File (file_text c.args.header.now c.args.tag.now v.counters v.arcs) _ _ _ _ _ c.new-out.ensures c.in_err-put_run.ensures.adds) }

pub returns : goal.returns
returns g c =
    let v = c.args.gmon.now in
    record { puts = flushed File (file_text c.args.header.now c.args.tag.now v.counters v.arcs) _ _ _ _ _ _ _ _ c.new-out.ensures c.flush.ensures.emptied c.in_ok-put_run.ensures.adds c.flush.ensures.adds }
