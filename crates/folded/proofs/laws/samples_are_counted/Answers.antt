use Rattle.folded.proofs.TrailLemmas.{samples_counted}
use Rattle.folded.proofs.laws.samples_are_counted.Goals as goal

pub returns : goal.returns
returns c = samples_counted
