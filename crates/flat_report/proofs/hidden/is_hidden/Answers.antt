use Rattle.std.proofs.Common.{arith}
use Rattle.std.proofs.lemmas.List.{take_all}
use Rattle.std.proofs.lemmas.List.Folds.{list_any_at}
use Rattle.flat_report.proofs.HiddenLemmas.{hidden_by}
use Rattle.flat_report.proofs.hidden.is_hidden.Goals as goal

pub returns-then-eq : goal.returns-then-eq
returns-then-eq c = grind (arith, hidden_by, list_any_at)

pub returns : goal.returns
returns c = grind (arith, hidden_by, take_all)
