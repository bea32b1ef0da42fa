use Rattle.std.proofs.Common.{arith}
use Rattle.command_words.proofs.ItemLemmas.{below_all, none_more, some_more}
use Rattle.command_words.proofs.items.Items.all_wanted.Goals as goal

pub push-requires : goal.push-requires
push-requires c = grind (arith, below_all)

pub loop-item-preserved : goal.loop-item-preserved
loop-item-preserved c = grind (arith, some_more, none_more)
