use Rattle.std.proofs.Common.{arith}
use Rattle.flat_report.proofs.FunctionLemmas.{shares_of_lines}
use Rattle.flat_report.proofs.ReportLemmas.{text_of_entries}
use Rattle.flat_report.proofs.report.write.Goals as goal

pub print-requires-clause-sum : goal.print-requires-clause-sum
print-requires-clause-sum g c = grind (arith, shares_of_lines)

pub returns-in_err-print-clause-printed : goal.returns-in_err-print-clause-printed
returns-in_err-print-clause-printed g c = grind (arith, text_of_entries)

pub returns-clause-printed : goal.returns-clause-printed
returns-clause-printed g c = grind (arith, text_of_entries)
