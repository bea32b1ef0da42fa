use Rattle.std.proofs.Common.{◌<◌, ◌∙◌, get_or, length, sym, subst}
use Rattle.std.proofs.lemmas.List.{get_or_default}
use Rattle.call_cycles.specs.Graph.{GraphValue, IsArcBefore, arc_at, arc_count, no_arc}
use Rattle.call_cycles.specs.declared.graphs.FunArc.{FunArc}
use Rattle.call_cycles.proofs.graphs.Graph.arc.Goals as goal

pub returns-clause-rising : goal.returns-clause-rising
returns-clause-rising c j less =
    let arcs = c.self.inside.arcs.items in
    let low : c.args.i < length arcs = subst (λ (g : GraphValue). c.args.i < arc_count g) (sym c.self.view_is) c.requires in
    let at = c.index.ensures ∙ get_or_default arcs c.args.i c.index.result.now no_arc low in
    subst (λ (g : GraphValue). IsArcBefore (arc_at g j) c.index.result.now) c.self.view_is
    (subst (λ (a : FunArc). IsArcBefore (get_or arcs j no_arc) a) (sym at) (c.self.invariant.graph.arcs.rising j c.args.i less low))
