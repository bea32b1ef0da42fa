use Rattle.std.proofs.Common.{◌≡◌, rules}
use Rattle.std.specs.Ordering.{is_lt}
use Rattle.std.proofs.lemmas.List.Sorted.{answers_always}
use Rattle.flat_report.specs.Rows.{sources_of}
use Rattle.flat_report.proofs.EntryOrder.{row_before, row_order, compared}
use Rattle.flat_report.proofs.FunctionLemmas.{entries_fit}
use Rattle.flat_report.proofs.RowLemmas.{rows_in_order}
use Rattle.flat_report.proofs.rows.rows_in_order.Goals as goal

pub returns-clause-entries : goal.returns-clause-entries
returns-clause-entries c =
    let compares = answers_always _ (λ a r. is_lt r ≡ row_before a.0.now a.1.0.now) _ (λ f a r f' k. compared a.0.now a.1.0.now r (search rules)) in
    rows_in_order (sources_of c.args.sources.now) c.in_ok-rows.rows.items c.sort_unstable_by.new.self.items c.in_ok-rows.ensures.rows c.in_ok-rows.ensures.functions
    c.sort_unstable_by.ensures.permutation (c.sort_unstable_by.ensures.sorted row_before row_order compares)

pub returns-clause-fit : goal.returns-clause-fit
returns-clause-fit c = search (returns-clause-entries, entries_fit, rules)
