use Rattle.std.proofs.Common.{arith}
use Rattle.command_words.proofs.Numerals.{not_within}
use Rattle.command_words.proofs.numbers.number_in.Goals as goal

pub returns-in_default : goal.returns-in_default
returns-in_default c = grind (arith, not_within)
