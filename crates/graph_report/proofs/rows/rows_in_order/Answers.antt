use Rattle.std.proofs.Common.{◌≡◌, List, ap, ◌∙◌, rules}
use Rattle.std.specs.Ordering.{is_lt}
use Rattle.std.proofs.lemmas.List.Sorted.{answers_always}
use Rattle.flat_report.specs.Order.{in_order}
use Rattle.propagate.proofs.AscentLemmas.{by_key}
use Rattle.flat_report.proofs.OrderLemmas.{sorted_in_order}
use Rattle.graph_report.specs.Entries.{GraphEntry, graph_comes_before, graph_order}
use Rattle.graph_report.specs.Inputs.{sources_in}
use Rattle.graph_report.specs.Rows.{entry_of_row}
use Rattle.graph_report.proofs.EntryOrder.{entry_order, compared}
use Rattle.graph_report.proofs.RowLemmas.{all_rows}
use Rattle.graph_report.proofs.rows.rows_in_order.Goals as goal

pub returns : goal.returns
unfolding graph_order
returns c =
    let compares = answers_always _ (λ a r. is_lt r ≡ graph_comes_before (entry_of_row a.0.now) (entry_of_row a.1.0.now)) _ (λ f a r f' k. compared (entry_of_row a.0.now) (entry_of_row a.1.0.now) r (search rules)) in
    sorted_in_order graph_comes_before entry_order entry_of_row c.put_functions.new.rows.items c.sort_unstable_by.new.self.items c.sort_unstable_by.ensures.permutation
    (c.sort_unstable_by.ensures.sorted (λ a b. graph_comes_before (entry_of_row a) (entry_of_row b)) (by_key graph_comes_before entry_of_row entry_order.order) compares)
    ∙ ap (λ (es : List GraphEntry). in_order graph_comes_before es) (all_rows (sources_in c.args.inputs.now) c.new-rows.result.items c.put_cycles.new.rows.items c.put_functions.new.rows.items c.new-rows.ensures.items c.in_ok-put_cycles.ensures c.in_ok-put_functions.ensures)
