use Rattle.std.proofs.Common.{arith}
use Rattle.std.proofs.lemmas.List.{take_all}
use Rattle.flat_report.proofs.FunctionLemmas.{shares_of_lines}
use Rattle.flat_report.proofs.laws.time_up_to_the_last_line.Goals as goal

pub returns : goal.returns
returns c = grind (arith, take_all, shares_of_lines)
