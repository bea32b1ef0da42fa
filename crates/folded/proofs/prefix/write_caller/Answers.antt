use Rattle.folded.proofs.PrefixLemmas.{written_text}
use Rattle.folded.proofs.prefix.write_caller.Goals as goal

pub returns-clause-text : goal.returns-clause-text
returns-clause-text c = written_text c.args.start c.args.bytes.now c.copy_from_slice.new.self c.args.name.now 59 c.requires c.copy_from_slice.ensures.after
