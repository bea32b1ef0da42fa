use Rattle.std.proofs.Common.{◌<◌, length, get_or, take, ◌∙◌, arith}
use Rattle.call_cycles.specs.Graph.{no_arc}
use Rattle.call_cycles.proofs.MergeLemmas.{front_calls_fit, merged_more}
use Rattle.call_cycles.proofs.calls.merge_neighbours.Goals as goal

pub merge_arc-n-requires-clause-fits : goal.merge_arc-n-requires-clause-fits
merge_arc-n-requires-clause-fits c = grind (arith, front_calls_fit)

pub loop-i-preserved : goal.loop-i-preserved
loop-i-preserved c =
    let i = c.loop-i.i in
    let below : i < length c.args.arcs.now = omega arith in
    let few = c.loop-i.invariant.few in
    record {
      few = omega arith;
      merged = merged_more c.args.arcs.now (take c.loop-i.n c.loop-i.arcs) (take c.merge_arc-n.result c.merge_arc-n.new.arcs) i (get_or c.loop-i.arcs i no_arc) c.requires.sorted below (c.loop-i.invariant.rest i (omega arith)) c.merge_arc-n.ensures.merged c.loop-i.invariant.merged;
      rest = λ k later. c.merge_arc-n.ensures.rest k (omega arith) ∙ c.loop-i.invariant.rest k (omega arith);
    }
