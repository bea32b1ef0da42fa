use Rattle.rvgprof.proofs.CompletenessLemmas.{complete, whole_line}
use Rattle.rvgprof.proofs.laws.completeness.Goals as goal

pub returns : goal.returns
returns c = record { answer = complete; line = whole_line }
