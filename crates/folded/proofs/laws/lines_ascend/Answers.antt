use Rattle.folded.proofs.LineLemmas.{lines_ascending}
use Rattle.folded.proofs.laws.lines_ascend.Goals as goal

pub returns : goal.returns
returns c = lines_ascending
