use Rattle.std.proofs.Common.{ℕ, List, ◌++◌, ◌∷◌, [], ◌∙◌, sym, ap, arith}
use Rattle.std.proofs.lemmas.List.FromFn.{map-range_with_len_more}
use Rattle.call_cycles.specs.Graph.{component_of}
use Rattle.graph_report.proofs.arc_key.components.Goals as goal

pub loop-f-preserved : goal.loop-f-preserved
loop-f-preserved c =
    let key = component_of c.args.graph.now in
    let f = c.loop-f.f in
    c.in_ok-push.ensures.items
    ∙ ap (λ (x : ℕ). c.loop-f.components.items ++ x ∷ []) c.component.ensures.value
    ∙ ap (λ (xs : List ℕ). xs ++ key f ∷ []) c.loop-f.invariant
    ∙ sym (map-range_with_len_more key 0 f f (omega arith))
