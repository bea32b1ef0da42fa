use Rattle.std.proofs.Common.{◌≡◌, ◌∙◌, List, map, ap}
use Rattle.std.specs.Vec.{with_items}
use Rattle.std.proofs.lemmas.List.{with_items_is}
use Rattle.call_cycles.specs.ExactFlow.{ExactTimes, IsExactFlow}
use Rattle.fraction128.specs.Values.{value_of}
use Rattle.fraction128.specs.declared.fracs.Frac.{Frac}
use Rattle.propagate.specs.ExactSolution.{exact_in}
use Rattle.propagate.proofs.ExactLemmas.{exact_solution}
use Rattle.propagate.proofs.ExactRootLemmas.{exact_roots}
use Rattle.exact_flow.specs.Solution.{exact_flow_in}
use Rattle.exact_flow.specs.Progress.{child_times}
use Rattle.exact_flow.specs.declared.flows.ExactFlow.TheInside.{Inside}
use Rattle.exact_flow.specs.declared.tables.Tables.{Tables}
use Rattle.exact_flow.proofs.FlowLemmas.{flow_held, flow_is, flow_sized}
use Rattle.exact_flow.proofs.WideLemmas.{none_first}
use Rattle.exact_flow.proofs.solve.solve.Goals as goal
use Rattle.exact_flow.proofs.solve.solve.Goals.{In-Ok}

-- the fields that the tables become
abbrev made : Tables → List Frac → Inside
made t children = record { selves = t.selves; children = with_items t.children children; entering = t.entering; calls = t.calls; callees = t.callees; outside = t.outside }

found : (c : In-Ok) (x : ExactTimes) → IsExactFlow c.args.graph.now c.args.shares.now.of x → map value_of (made c.args.tables c.hand_all_on.new.children).children.items ≡ child_times c.args.graph.now x
found c x exact = ap (map value_of) (with_items_is c.args.tables.children c.hand_all_on.new.children (c.hand_all_on.auto.children ∙ c.deref_mut.ensures.len)) ∙ c.in-Ok.ensures.times x exact

pub invariant_of-result : goal.invariant_of-result
invariant_of-result c =
    let g = c.args.graph.now in
    let shares = c.args.shares.now.of in
    let x = exact_in g shares in
    let exact = exact_solution g shares c.holds.ensures.graph in
    flow_held g shares c.holds.ensures.graph (made c.args.tables c.hand_all_on.new.children) c.requires.start.tables x exact (found c x exact) (c.in-Ok.ensures.fits x exact)

pub returns-in-Ok-clause-sized : goal.returns-in-Ok-clause-sized
returns-in-Ok-clause-sized c =
    let g = c.args.graph.now in
    let shares = c.args.shares.now.of in
    let x = exact_in g shares in
    let exact = exact_solution g shares c.holds.ensures.graph in
    flow_sized g shares c.holds.ensures.graph (made c.args.tables c.hand_all_on.new.children) c.requires.start.tables x exact (found c x exact)

pub returns-in-Ok-clause-value : goal.returns-in-Ok-clause-value
unfolding exact_flow_in
returns-in-Ok-clause-value c = search (exact_solution, flow_is, found)

pub returns-in-Ok-clause-times : goal.returns-in-Ok-clause-times
returns-in-Ok-clause-times c = λ x exact. flow_is c.args.graph.now c.args.shares.now.of c.holds.ensures.graph (made c.args.tables c.hand_all_on.new.children) c.requires.start.tables x exact (found c x exact)

pub returns-in-Ok-clause-whole : goal.returns-in-Ok-clause-whole
returns-in-Ok-clause-whole c = λ x exact. exact_roots c.args.graph.now c.args.shares.now.of c.holds.ensures.graph x exact c.requires.each

pub returns-in-Ok-clause-fits : goal.returns-in-Ok-clause-fits
returns-in-Ok-clause-fits c =
    let g = c.args.graph.now in
    let shares = c.args.shares.now.of in
    none_first g shares c.holds.ensures.graph (c.in-Ok.ensures.fits (exact_in g shares) (exact_solution g shares c.holds.ensures.graph))
