use Rattle.std.proofs.Common.{rules}
use Rattle.graph_report.proofs.report.put_row.Goals as goal

pub returns-then-not-is_shown : goal.returns-then-not-is_shown
returns-then-not-is_shown g c = search rules
