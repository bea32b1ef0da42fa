use Rattle.symbol_shares.proofs.PartLemmas.{share-inside}
use Rattle.symbol_shares.proofs.laws.whole_buckets.Goals as goal

pub returns : goal.returns
returns c = share-inside
