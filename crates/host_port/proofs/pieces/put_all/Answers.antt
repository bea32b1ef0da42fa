use Rattle.std.proofs.lemmas.Grind.{common_steps}
use Rattle.std.proofs.Common.{length, ap, ◌∙◌, arith, length-append}
use Rattle.std.proofs.lemmas.Result.{err_from_is_err_and}
use Rattle.host_port.specs.Host.{act_of}
use Rattle.host_port.proofs.Piecewise.{along_start, along_more, some_left}
use Rattle.host_port.proofs.SideLemmas.{side_piecewise, kept_by, still_ready}
use Rattle.host_port.proofs.Chains.{puts_fail}
use Rattle.host_port.proofs.pieces.put_all.Goals as goal

pub loop-rest-init : goal.loop-rest-init
loop-rest-init g c = search (along_start, side_piecewise)

pub put_some-requires-clause-ready : goal.put_some-requires-clause-ready
put_some-requires-clause-ready g c = still_ready c.args.side c.loop-rest.invariant.far.front _ _ c.loop-rest.invariant.far.did c.requires

pub loop-rest-preserved : goal.loop-rest-preserved
loop-rest-preserved g c =
    let side = c.args.side in
    let far = c.loop-rest.invariant.far in
    let some = some_left c.loop-rest.rest.now c.is_empty.result c.is_empty.ensures c.loop-rest-test.true in
    record {
      far = rw c.split_at.ensures.back (along_more (act_of side) (side_piecewise side) _ _ _ _ _ _ far c.in_ok-n.ensures.takes (kept_by _ _ side _ _ _ c.in_ok-n.ensures.counts));
      last = λ is. c.in_ok-n.ensures.last is ∙ c.loop-rest.invariant.last is;
      idle = λ none. absurd (omega (arith, ap length far.parts, length-append far.front c.loop-rest.rest.now));
    }

pub returns-in_err-n-clause-puts : goal.returns-in_err-n-clause-puts
returns-in_err-n-clause-puts g c =
    let p = err_from_is_err_and c.from_residual.result c.from_residual.ensures.1 in
    let some = some_left c.loop-rest.rest.now c.is_empty.result c.is_empty.ensures c.loop-rest-test.true in
    rw p.1 (puts_fail c.args.side c.args.piece.now c.loop-rest.rest.now _ _ _ tt _ c.loop-rest.invariant.far some c.in_err-n.ensures.takes c.in_err-n.ensures.counts (λ is. c.in_err-n.ensures.last is ∙ c.loop-rest.invariant.last is))

pub returns-in_err-n-clause-idle : goal.returns-in_err-n-clause-idle
returns-in_err-n-clause-idle g c = grind (arith, common_steps)

pub returns-clause-puts : goal.returns-clause-puts
returns-clause-puts g c = grind (arith, common_steps)
