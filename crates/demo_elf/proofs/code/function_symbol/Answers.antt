use Rattle.std.proofs.Common.{arith}
use Rattle.std.proofs.lemmas.Fmt.{length-decimal-le_wide}
use Rattle.demo_elf.proofs.code.function_symbol.Goals as goal

pub returns-clause-small : goal.returns-clause-small
returns-clause-small c = grind (arith, length-decimal-le_wide 10 c.args.i (omega arith) (omega arith) (omega arith))
