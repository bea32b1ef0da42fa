use Rattle.folded.proofs.LineLemmas.{lines_total}
use Rattle.folded.proofs.laws.lines_add_up.Goals as goal

pub returns : goal.returns
returns c = lines_total
