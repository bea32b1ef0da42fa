use Rattle.std.proofs.Common.{◌++◌}
use Rattle.std.specs.List.{flat_map}
use Rattle.std.proofs.lemmas.Result.{err_from_is_err_and}
use Rattle.host_port.specs.declared.side.Side.TheVariants.{File}
use Rattle.host_port.proofs.BufferLemmas.{adds_then, adds_front}
use Rattle.gp_base.specs.Fields.{counters_text}
use Rattle.gmon_cells.specs.FileText.{tagged_by}
use Rattle.gmon_cells.proofs.run_cells.put_run.Goals as goal

pub returns-in_err-put-clause-adds : goal.returns-in_err-put-clause-adds
returns-in_err-put-clause-adds g c =
    let p = err_from_is_err_and c.from_residual.result c.from_residual.ensures.1 in
    let v = c.args.gmon.now in
    rw p.1 (adds_front File c.args.header.now (counters_text v.counters ++ flat_map (tagged_by c.args.tag.now) v.arcs) _ _ _ _ _ c.in_err-put.ensures.adds)

pub returns-in_err-put_counters-clause-adds : goal.returns-in_err-put_counters-clause-adds
returns-in_err-put_counters-clause-adds g c =
    let p = err_from_is_err_and c.from_residual-in_err-put_counters.result c.from_residual-in_err-put_counters.ensures.1 in
    let v = c.args.gmon.now in
    let arcs = flat_map (tagged_by c.args.tag.now) v.arcs in
    rw p.1 (adds_then File c.args.header.now (counters_text v.counters ++ arcs) _ _ _ _ _ _ (tt {0}) _ c.in_ok-put.ensures.adds
    (adds_front File (counters_text v.counters) arcs _ _ _ _ _ c.in_err-put_counters.ensures.adds))

pub returns-clause-adds : goal.returns-clause-adds
returns-clause-adds g c =
    let v = c.args.gmon.now in
    let arcs = flat_map (tagged_by c.args.tag.now) v.arcs in
    adds_then File c.args.header.now (counters_text v.counters ++ arcs) _ _ _ _ _ _ (tt {0}) _ c.in_ok-put.ensures.adds
    (adds_then File (counters_text v.counters) arcs _ _ _ _ _ _ (tt {0}) _ c.in_ok-put_counters.ensures.adds c.put_arcs.ensures.adds)
