use Rattle.command_words.proofs.ItemLemmas.{few_values}
use Rattle.command_words.proofs.items.Items.values.Goals as goal

pub all_wanted-requires : goal.all_wanted-requires
all_wanted-requires c = few_values c.args.key c.args.self.now c.requires
