use Rattle.symbol_shares.proofs.CoverLemmas.{covered-attributed, covered-outside}
use Rattle.symbol_shares.proofs.laws.covered_ranges.Goals as goal

pub returns-clause-attributed : goal.returns-clause-attributed
returns-clause-attributed c = covered-attributed

pub returns-clause-outside : goal.returns-clause-outside
returns-clause-outside c = covered-outside
