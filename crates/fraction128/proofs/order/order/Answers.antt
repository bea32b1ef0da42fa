use Rattle.std.proofs.Common.{◌≡◌, ◌≢◌, ◌%◌, ◌∙◌, ⊎_elim, inl, inr, arith}
use Rattle.fraction128.proofs.OrderLemmas.{cmp_whole, cmp_rest, cmp_none}
use Rattle.fraction128.proofs.order.order.Goals as goal

pub returns-then-r-eq0 : goal.returns-then-r-eq0
returns-then-r-eq0 c =
    let l = c.loop-left.left in
    let r = c.loop-left.right in
    let i = c.loop-left.invariant in
    c.cmp.ensures ∙ cmp_none (l.0 % l.1) l.1 (r.0 % r.1) r.1 i.some_left i.some_right (⊎_elim (λ (none : l.0 % l.1 ≡ 0). inl none) (λ (none : (l.0 % l.1 ≢ 0) × (r.0 % r.1 ≡ 0)). inr none.1) c.then-r-eq0.either) ∙ cmp_rest l.0 l.1 r.0 r.1 c.loop-left-test.true ∙ i.same

pub loop-left-preserved : goal.loop-left-preserved
loop-left-preserved c = grind (arith, cmp_rest)

pub returns : goal.returns
returns c = grind (arith, cmp_whole)
