use Rattle.demo_laws.proofs.DemoLemmas.{demo_run_starts}
use Rattle.demo_laws.proofs.laws.demo_starts.Goals as goal

pub returns : goal.returns
returns c = demo_run_starts
