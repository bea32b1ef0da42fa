use Rattle.std.proofs.Common.{◌≡◌, ◌<◌, ℕ, length, sym, ◌∙◌, subst, arith}
use Rattle.std.proofs.lemmas.List.{get_or_read}
use Rattle.call_cycles.specs.Passes.{IsPass, PassValue, pass_of, place_in}
use Rattle.call_cycles.proofs.PassLemmas.{started, ended_ranks, ended_order}
use Rattle.call_cycles.proofs.depth.rank_functions.Goals as goal

pub run-requires-clause-pass : goal.run-requires-clause-pass
run-requires-clause-pass c =
    let n = c.args.functions in
    let arcs = c.args.arcs.now in
    let f = c.loop-f.f in
    let p : PassValue = pass_of c.loop-f.pass in
    let low : f < length p.places = omega arith in
    let new : c.index.result.now ≡ place_in p f = get_or_read p.places f _ low c.index.ensures 0 in
    let pass = subst (IsPass n arcs) (sym c.in_ok-see.ensures.seen) (started n arcs p c.loop-f.invariant.pass c.loop-f.invariant.ended f (omega arith) (sym new ∙ c.if-index-eq0.true)) in
    subst (λ (k : ℕ). IsPass k arcs (pass_of c.see.new.pass)) (sym pass.places) pass

pub returns-clause-ranks : goal.returns-clause-ranks
returns-clause-ranks c =
    ended_ranks c.args.functions c.args.arcs.now (pass_of c.loop-f.pass) c.loop-f.invariant.pass c.loop-f.invariant.ended (λ w below. c.loop-f.invariant.seen w (omega arith)) c.requires.within

pub returns-clause-order : goal.returns-clause-order
returns-clause-order c =
    ended_order c.args.functions c.args.arcs.now (pass_of c.loop-f.pass) c.loop-f.invariant.pass c.loop-f.invariant.ended (λ w below. c.loop-f.invariant.seen w (omega arith))
