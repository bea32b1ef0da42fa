use Rattle.std.proofs.Common.{◌<◌, length, arith}
use Rattle.call_cycles.proofs.ListLemmas.{list_long, list_at}
use Rattle.flat_report.specs.Rows.{sources_of}
use Rattle.flat_report.proofs.FunctionLemmas.{total_within}
use Rattle.flat_report.proofs.RowLemmas.{name_is, entry_is}
use Rattle.flat_report.proofs.rows.row_of.Goals as goal

pub overflow_add-result : goal.overflow_add-result
overflow_add-result c = grind (arith, total_within (sources_of c.args.sources.now) c.args.f c.requires.of_one c.requires.inside)

pub bounds-calls-f : goal.bounds-calls-f
bounds-calls-f c = omega (arith, list_long _ _ c.args.calls.now c.requires.calls, c.requires.inside)

pub returns-clause-function : goal.returns-clause-function
returns-clause-function c =
    let inside : c.args.f < length c.args.sources.now.symbols.now = omega (arith, c.requires.inside, c.requires.of_one.functions) in
    entry_is (sources_of c.args.sources.now) c.args.f c.of-share.result c.member_child.result _ _
    c.of-share.ensures.value c.member_child.ensures (list_at _ _ c.args.calls.now c.requires.calls c.args.f c.requires.inside)
    (name_is (sources_of c.args.sources.now) c.args.f c.index-sources-f.result inside)
