use Rattle.flat_report.proofs.FunctionLemmas.{calls_of_lines}
use Rattle.flat_report.proofs.laws.calls_of_all_lines.Goals as goal

pub returns : goal.returns
returns c = calls_of_lines
