use Rattle.demo_laws.proofs.WitnessLemmas.{witness_accepted, witness_read, witness_starts}
use Rattle.demo_laws.proofs.laws.witness_is_accepted.Goals as goal

pub returns : goal.returns
returns c = record { accepted = witness_accepted; image = witness_read; starts = witness_starts }
