use Rattle.std.proofs.Common.{◌++◌, ◌∷◌, [], ℕ, List, ◌∙◌, sym, ap, arith}
use Rattle.std.proofs.lemmas.List.FromFn.{map-range_with_len_more}
use Rattle.call_cycles.specs.Sums.{list_of}
use Rattle.flat_report.specs.Sources.{calls_by_itself}
use Rattle.flat_report.proofs.calls.self_calls.Goals as goal

pub loop-f-preserved : goal.loop-f-preserved
loop-f-preserved c =
    let own = calls_by_itself c.args.graph.now in
    let f = c.loop-f.f in
    c.in_ok-push.ensures.items ∙ ap (λ (xs : List ℕ). xs ++ c.self_calls.result ∷ []) c.loop-f.invariant
    ∙ ap (λ (x : ℕ). list_of f own ++ x ∷ []) c.self_calls.ensures
    ∙ sym (map-range_with_len_more own 0 f f (omega arith))
