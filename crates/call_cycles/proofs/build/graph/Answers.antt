use Rattle.std.proofs.Common.{◌≡◌, ◌≤◌, ◌+◌, slice_index, sym, ◌∙◌, arith}
use Rattle.std.proofs.lemmas.Result.{IfOk-weaker}
use Rattle.gmon_data.specs.Tally.{tally_total}
use Rattle.call_cycles.specs.Calls.{function_arcs}
use Rattle.call_cycles.specs.Parts.{arcs_calls}
use Rattle.call_cycles.specs.Sums.{sum_below}
use Rattle.call_cycles.proofs.ArcLemmas.{made_few, are_within, are_called, are_in_order}
use Rattle.call_cycles.proofs.CallLemmas.{made_function_arcs, selves_long}
use Rattle.call_cycles.proofs.ValueLemmas.{ok_value}
use Rattle.call_cycles.proofs.build.graph.Goals as goal

pub merged-arcs-requires : goal.merged-arcs-requires
merged-arcs-requires c = record { few = omega (arith, c.in_ok-found.ensures.few, c.in_ok-found.ensures.all) }

are_arcs : (c : goal.After-merged-arcs) → c.merged-arcs.result.items ≡ function_arcs c.args.profile.now.arcs c.args.symbols.now
are_arcs c = made_function_arcs c.args.profile.now.arcs c.args.symbols.now c.in_ok-found.found.between.items c.in_ok-found.found.own.items c.in_ok-found.ensures.calls c.merged-arcs.result.items c.merged-arcs.ensures.merged

pub graph_of-requires-clause-within : goal.graph_of-requires-clause-within
graph_of-requires-clause-within c = are_within c.args.profile.now.arcs c.args.symbols.now c.merged-arcs.result.items c.symbol_count-functions.result (are_arcs c) c.symbol_count-functions.ensures

pub graph_of-requires-clause-ordered : goal.graph_of-requires-clause-ordered
graph_of-requires-clause-ordered c = are_in_order c.args.profile.now.arcs c.args.symbols.now c.merged-arcs.result.items (are_arcs c)

pub graph_of-requires-clause-called : goal.graph_of-requires-clause-called
graph_of-requires-clause-called c = are_called c.args.profile.now.arcs c.args.symbols.now c.merged-arcs.result.items (are_arcs c)

few : (c : goal.After-merged-arcs) → arcs_calls c.merged-arcs.result.items + sum_below c.symbol_count-functions.result (slice_index c.in_ok-found.found.own.items) ≤ tally_total c.args.profile.now.arcs
few c = made_few c.args.profile.now.arcs c.args.symbols.now c.merged-arcs.result.items c.symbol_count-functions.result c.in_ok-found.found.own.items (are_arcs c) c.symbol_count-functions.ensures c.in_ok-found.ensures.calls.own

pub graph_of-requires-clause-few : goal.graph_of-requires-clause-few
graph_of-requires-clause-few c = omega (arith, few c, c.in_ok-found.ensures.all)

pub graph_of-requires-clause-self_calls : goal.graph_of-requires-clause-self_calls
graph_of-requires-clause-self_calls c = selves_long _ _ _ _ c.in_ok-found.ensures.calls ∙ sym c.symbol_count-functions.ensures

pub returns-clause-arcs : goal.returns-clause-arcs
returns-clause-arcs c =
    let arcs = made_function_arcs c.args.profile.now.arcs c.args.symbols.now c.in_ok-found.found.between.items c.in_ok-found.found.own.items c.in_ok-found.ensures.calls c.merged-arcs.result.items c.merged-arcs.ensures.merged in
    IfOk-weaker c.graph_of.result _ _ (λ g is. is ∙ arcs) c.graph_of.ensures.arcs

pub returns-clause-self_calls : goal.returns-clause-self_calls
returns-clause-self_calls c = IfOk-weaker c.graph_of.result _ _ (λ g is. is ∙ c.in_ok-found.ensures.calls.own) c.graph_of.ensures.self_calls

pub returns-clause-few : goal.returns-clause-few
returns-clause-few c = grind (arith, few)

pub returns-clause-value : goal.returns-clause-value
returns-clause-value c =
    let es = c.args.profile.now.arcs in
    let symbols = c.args.symbols.now in
    let arcs = made_function_arcs es symbols c.in_ok-found.found.between.items c.in_ok-found.found.own.items c.in_ok-found.ensures.calls c.merged-arcs.result.items c.merged-arcs.ensures.merged in
    ok_value es symbols c.graph_of.result c.graph_of.ensures.components
    (IfOk-weaker c.graph_of.result _ _ (λ g is. is ∙ c.symbol_count-functions.ensures) c.graph_of.ensures.functions)
    (IfOk-weaker c.graph_of.result _ _ (λ g is. is ∙ arcs) c.graph_of.ensures.arcs)
    (IfOk-weaker c.graph_of.result _ _ (λ g is. is ∙ c.in_ok-found.ensures.calls.own) c.graph_of.ensures.self_calls)
