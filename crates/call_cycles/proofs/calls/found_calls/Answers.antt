use Rattle.std.proofs.Common.{◌≡◌, ◌<◌, ℕ, length, take, replicate, ap, ◌∙◌, arith, rules}
use Rattle.std.proofs.lemmas.Option.{get_or_from_slice_get}
use Rattle.call_cycles.specs.Calls.{calls_between, count_of}
use Rattle.call_cycles.proofs.CallLemmas.{no_calls, found_more, selves_fit, selves_long, total_more}
use Rattle.call_cycles.proofs.calls.found_calls.Goals as goal

pub loop-i-init : goal.loop-i-init
loop-i-init c =
    let zeros : c.in_ok-vec.field-0.items ≡ replicate c.symbol_count.result 0 = search rules in
    record {
      found = no_calls c.args.symbols.now (length c.args.symbols.now) _ _ c.in_ok-with_capacity.ensures.items (zeros ∙ ap (λ (n : ℕ). replicate n 0) c.symbol_count.ensures);
      few = omega (arith, ap count_of c.in_ok-with_capacity.ensures.items);
    }

pub add_arc-requires-clause-own : goal.add_arc-requires-clause-own
add_arc-requires-clause-own c = selves_long _ _ _ _ c.loop-i.invariant.found

pub add_arc-requires-clause-fits : goal.add_arc-requires-clause-fits
add_arc-requires-clause-fits c = λ f.
    let es = c.args.profile.now.arcs in
    let entry : (ℕ × ℕ) × ℕ = ((c.arc-from.result.0, c.arc-from.result.1), c.arc-from.result.2) in
    let below : c.loop-i.i < length es = omega arith in
    let at = get_or_from_slice_get es c.loop-i.i entry ((0, 0), 0) c.arc-from.ensures in
    let fit = selves_fit es c.args.symbols.now c.loop-i.i below entry at _ _ _ c.loop-i.invariant.found f in
    let few = c.arc_count-i-end.ensures.profile.within.calls in
    omega arith

pub loop-i-preserved : goal.loop-i-preserved
loop-i-preserved c =
    let es = c.args.profile.now.arcs in
    let entry : (ℕ × ℕ) × ℕ = ((c.arc-from.result.0, c.arc-from.result.1), c.arc-from.result.2) in
    let below : c.loop-i.i < length es = omega arith in
    let at = get_or_from_slice_get es c.loop-i.i entry ((0, 0), 0) c.arc-from.ensures in
    record {
      found = found_more es c.args.symbols.now c.loop-i.i below entry at _ _ _ (c.in_ok-add_arc.ensures.added (calls_between (take c.loop-i.i es) c.args.symbols.now) c.loop-i.invariant.found);
      few = omega (arith, total_more es c.args.symbols.now c.loop-i.i below entry at, c.in_ok-add_arc.ensures.few, c.loop-i.invariant.few);
    }
