use Rattle.command_words.proofs.ItemLemmas.{few_operands}
use Rattle.command_words.proofs.items.Items.operands.Goals as goal

pub all_wanted-requires : goal.all_wanted-requires
all_wanted-requires c = few_operands c.args.self.now c.requires
