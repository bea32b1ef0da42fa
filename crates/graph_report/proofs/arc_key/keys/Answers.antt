use Rattle.std.proofs.Common.{ℕ, List, ◌++◌, ◌∷◌, [], ◌∙◌, sym, ap, arith}
use Rattle.std.proofs.lemmas.List.FromFn.{map-range_with_len_more}
use Rattle.graph_report.specs.Groups.{arc_key}
use Rattle.graph_report.proofs.arc_key.keys.Goals as goal

pub loop-i-preserved : goal.loop-i-preserved
loop-i-preserved c =
    let key = arc_key c.args.graph.now c.args.key in
    let i = c.loop-i.i in
    c.in_ok-push.ensures.items
    ∙ ap (λ (x : ℕ). c.loop-i.keys.items ++ x ∷ []) c.key_of.ensures
    ∙ ap (λ (xs : List ℕ). xs ++ key i ∷ []) c.loop-i.invariant
    ∙ sym (map-range_with_len_more key 0 i i (omega arith))
