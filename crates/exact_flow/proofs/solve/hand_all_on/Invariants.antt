use Rattle.std.proofs.Common.{map}
use Rattle.fraction128.specs.Values.{value_of}
use Rattle.exact_flow.proofs.StateLemmas.{IsSoFar}
use Rattle.exact_flow.proofs.solve.hand_all_on.Given as goal

-- the arcs so far are done
abbrev pub invariant-loop-arc : goal.invariant-loop-arc
invariant-loop-arc l = IsSoFar l.graph l.shares.of l.arc-index (map value_of l.children)
