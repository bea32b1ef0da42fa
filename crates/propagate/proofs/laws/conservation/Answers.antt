use Rattle.propagate.proofs.BoundLemmas.{roots_have_all}
use Rattle.propagate.proofs.ConservationLemmas.{conserved}
use Rattle.propagate.proofs.laws.conservation.Goals as goal

pub returns-clause-closed : goal.returns-clause-closed
returns-clause-closed c = λ g shares t set is flow closed. conserved g shares t is flow set closed

pub returns-clause-whole : goal.returns-clause-whole
returns-clause-whole c = λ g shares t is each flow. roots_have_all g shares is each t flow
