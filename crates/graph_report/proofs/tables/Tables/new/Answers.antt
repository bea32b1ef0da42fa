use Rattle.std.proofs.Common.{refl, ◌∙◌}
use Rattle.call_cycles.proofs.ListLemmas.{list_long}
use Rattle.graph_report.proofs.TableLemmas.{lists_to, starts_from, lists_into, lists_members, sums_to, sums_from, sums_inside}
use Rattle.graph_report.proofs.tables.Tables.new.Goals as goal

pub call_sums-requires-clause-each : goal.call_sums-requires-clause-each
call_sums-requires-clause-each c = list_long _ _ _ (c.deref-3.ensures.value ∙ c.in_ok-callers.ensures)

pub call_sums-requires-2-clause-each : goal.call_sums-requires-2-clause-each
call_sums-requires-2-clause-each c = list_long _ _ _ (c.deref-6.ensures.value ∙ c.in_ok-keys-2.ensures)

pub returns-clause-tables : goal.returns-clause-tables
returns-clause-tables c =
    let g = c.args.graph.now in
    let functions = c.function_count-functions.ensures.value in
    let count = c.component_count-count.ensures.value in
    record {
      to = lists_to g _ c.in_ok-arcs_to.arcs_to refl (rw functions at c.in_ok-arcs_to.ensures.arcs);
      from = starts_from g _ _ (c.deref-2.ensures.value ∙ c.in_ok-callers.ensures) (rw functions at c.in_ok-arcs_from.ensures);
      into = lists_into g _ c.in_ok-arcs_into.arcs_into (c.deref-4.ensures.value ∙ c.in_ok-keys.ensures) (rw count at c.in_ok-arcs_into.ensures);
      members = lists_members g _ c.in_ok-members.members (c.deref-5.ensures.value ∙ c.in_ok-components.ensures) (rw count at c.in_ok-members.ensures);
      calls_to = sums_to g _ _ refl (rw functions at c.in_ok-arcs_to.ensures.calls);
      calls_from = sums_from g _ _ (c.deref-3.ensures.value ∙ c.in_ok-callers.ensures) (rw functions at c.in_ok-calls_from.ensures);
      calls_inside = sums_inside g _ _ (c.deref-6.ensures.value ∙ c.in_ok-keys-2.ensures) (rw count at c.in_ok-calls_inside.ensures);
      numbers_len = c.in_ok-numbers.ensures.len;
      numbers = c.in_ok-numbers.ensures.numbers;
      names = c.in_ok-names.ensures;
    }
