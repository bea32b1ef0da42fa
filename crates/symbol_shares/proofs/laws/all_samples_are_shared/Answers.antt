use Rattle.symbol_shares.proofs.SumLemmas.{all-shared}
use Rattle.symbol_shares.proofs.laws.all_samples_are_shared.Goals as goal

pub returns : goal.returns
returns c = all-shared
