use Rattle.host_port.specs.declared.side.Side.TheVariants.{File}
use Rattle.host_port.proofs.BufferLemmas.{adds_then}
use Rattle.gp_base.specs.Fields.{arc_bytes}
use Rattle.gmon_cells.proofs.run_cells.put_arc.Goals as goal

pub returns-clause-adds : goal.returns-clause-adds
returns-clause-adds g c =
    let text = rw c.arc_text.ensures at c.put-2.ensures.adds in
    adds_then File c.args.tag.now (arc_bytes c.args.arc) _ _ _ _ _ _ (tt {0}) _ c.in_ok-put.ensures.adds text
