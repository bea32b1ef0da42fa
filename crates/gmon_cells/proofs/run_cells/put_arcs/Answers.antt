use Rattle.std.proofs.Common.{List, [], ◌∷◌, ◌++◌, append_assoc, sym, ap, ◌∙◌}
use Rattle.std.proofs.lemmas.Result.{err_from_is_err_and}
use Rattle.gp_base.specs.declared.records.RawArc.{RawArc}
use Rattle.host_port.specs.declared.side.Side.TheVariants.{File}
use Rattle.host_port.proofs.BufferLemmas.{adds_nothing, adds_item, adds_until, adds_ready}
use Rattle.gmon_cells.specs.FileText.{tagged_by}
use Rattle.gmon_cells.proofs.run_cells.put_arcs.Goals as goal

pub loop-arc-init : goal.loop-arc-init
loop-arc-init g c = search adds_nothing

pub loop-arc-preserved : goal.loop-arc-preserved
loop-arc-preserved g c =
    let tag = c.args.tag.now in
    let arcs = c.loop-arc.yielded in
    let arc = c.in-Some.arc in
    let one = c.in_ok-put_arc.ensures.adds in
    record {
      left = append_assoc arcs (arc ∷ []) c.next.new.self ∙ ap (λ (rest : List RawArc). arcs ++ rest) (sym c.in-Some.ensures.steps) ∙ c.loop-arc.invariant.left;
      put = adds_item File (tagged_by tag) arcs arc _ _ _ _ _ _ (tt {0}) (tt {0}) c.loop-arc.invariant.put one;
      ready = adds_ready File (tagged_by tag arc) _ _ _ _ (tt {0}) one c.loop-arc.invariant.ready;
    }

pub returns-in_err-put_arc-clause-adds : goal.returns-in_err-put_arc-clause-adds
returns-in_err-put_arc-clause-adds g c =
    let p = err_from_is_err_and c.from_residual.result c.from_residual.ensures.1 in
    let tag = c.args.tag.now in
    let arcs = c.loop-arc.yielded in
    let arc = c.in-Some.arc in
    let one = c.in_err-put_arc.ensures.adds in
    let left = ap (λ (rest : List RawArc). arcs ++ rest) (sym c.in-Some.ensures.steps) ∙ c.loop-arc.invariant.left in
    rw p.1 (adds_until File (tagged_by tag) arcs arc c.next.new.self c.args.gmon.now.arcs _ _ _ _ _ _ (tt {0}) _ left c.loop-arc.invariant.put one)
