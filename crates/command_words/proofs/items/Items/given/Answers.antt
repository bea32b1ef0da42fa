use Rattle.std.proofs.Common.{arith}
use Rattle.command_words.proofs.ItemLemmas.{first_value, none_more}
use Rattle.command_words.proofs.items.Items.given.Goals as goal

pub returns-in-Some : goal.returns-in-Some
returns-in-Some c = grind (arith, first_value)

pub loop-item-preserved : goal.loop-item-preserved
loop-item-preserved c = grind (arith, none_more)
