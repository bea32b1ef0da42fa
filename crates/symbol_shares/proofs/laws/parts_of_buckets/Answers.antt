use Rattle.symbol_shares.proofs.PartLemmas.{share-most, share-least}
use Rattle.symbol_shares.proofs.laws.parts_of_buckets.Goals as goal

pub returns-clause-most : goal.returns-clause-most
returns-clause-most c = share-most

pub returns-clause-least : goal.returns-clause-least
returns-clause-least c = share-least
