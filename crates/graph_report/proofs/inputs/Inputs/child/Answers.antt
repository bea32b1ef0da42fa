use Rattle.std.proofs.Common.{arith}
use Rattle.graph_report.proofs.TimeLemmas.{total_small}
use Rattle.graph_report.proofs.inputs.Inputs.child.Goals as goal

pub returns-clause-within : goal.returns-clause-within
returns-clause-within c = grind (arith, total_small c.args.self.now c.args.f c.requires.function)
