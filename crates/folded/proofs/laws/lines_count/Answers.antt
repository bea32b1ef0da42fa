use Rattle.folded.proofs.LineLemmas.{lines_counted}
use Rattle.folded.proofs.laws.lines_count.Goals as goal

pub returns : goal.returns
returns c = lines_counted
