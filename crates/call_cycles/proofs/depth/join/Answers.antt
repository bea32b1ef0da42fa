use Rattle.std.proofs.Common.{◌≡◌, ◌≢◌, ◌-◌, ◌<◌, get_or, ap, sym, ◌∙◌, subst, arith}
use Rattle.std.specs.Prelude.{filter, nat_le}
use Rattle.std.specs.List.{AllPairs}
use Rattle.std.proofs.lemmas.Bool.{eqb-false}
use Rattle.std.proofs.lemmas.List.{get_or_default}
use Rattle.call_cycles.proofs.RowLemmas.{last_above, last_within, pairs_taken}
use Rattle.call_cycles.proofs.depth.join.Goals as goal

pub loop-parts-preserved : goal.loop-parts-preserved
loop-parts-preserved c =
    let old = c.loop-parts.parts.items in
    let k = c.loop-parts.parts.len - 1 in
    let some : c.loop-parts.parts.len ≢ 0 = eqb-false _ _ (sym c.is_empty.ensures ∙ c.loop-parts-test.true) in
    let at : c.len.result - 1 ≡ k = ap (λ x. x - 1) c.len.ensures in
    let read : c.index.result.now ≡ get_or old k 0 = c.index.ensures ∙ ap (λ x. get_or old x c.index.result.now) at ∙ get_or_default old k _ 0 (omega arith) in
    record {
      rising = subst (AllPairs (λ a b. a < b)) (sym c.pop.ensures.rest) (pairs_taken k old c.loop-parts.invariant.rising);
      same = ap (filter (λ b. nat_le b c.args.place)) c.pop.ensures.rest ∙ last_above old c.args.place k (omega arith) (omega arith) ∙ c.loop-parts.invariant.same;
    }

pub returns-else-index-place : goal.returns-else-index-place
returns-else-index-place c =
    let old = c.loop-parts.parts.items in
    let k = c.loop-parts.parts.len - 1 in
    let some : c.loop-parts.parts.len ≢ 0 = eqb-false _ _ (sym c.is_empty.ensures ∙ c.loop-parts-test.true) in
    let at : c.len.result - 1 ≡ k = ap (λ x. x - 1) c.len.ensures in
    let read : c.index.result.now ≡ get_or old k 0 = c.index.ensures ∙ ap (λ x. get_or old x c.index.result.now) at ∙ get_or_default old k _ 0 (omega arith) in
    record { joined = last_within old c.args.place k c.loop-parts.invariant.rising (omega arith) (omega arith) ∙ c.loop-parts.invariant.same }
