use Rattle.demo_laws.proofs.DemoLemmas.{demo_accepted}
use Rattle.demo_laws.proofs.laws.demo_is_accepted.Goals as goal

pub returns : goal.returns
returns c = demo_accepted
