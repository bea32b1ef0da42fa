use Rattle.std.proofs.Common.{Bool, List, ◌++◌, ◌∷◌, [], ◌∙◌, sym, ap, arith}
use Rattle.std.proofs.lemmas.List.FromFn.{map-range_with_len_more}
use Rattle.arc_filter.specs.Marks.{is_caller_marked}
use Rattle.arc_filter.proofs.marks.callers_of.Goals as goal

pub loop-f-preserved : goal.loop-f-preserved
loop-f-preserved c =
    let f = c.loop-f.f in
    let marked = is_caller_marked c.args.marks.now in
    c.in_ok-push.ensures.items
    ∙ ap (λ (x : Bool). c.loop-f.callers.items ++ x ∷ []) c.is_caller.ensures
    ∙ ap (λ (xs : List Bool). xs ++ marked f ∷ []) c.loop-f.invariant
    ∙ sym (map-range_with_len_more marked 0 f f (omega arith))
