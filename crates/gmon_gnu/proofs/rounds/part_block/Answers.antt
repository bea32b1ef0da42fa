use Rattle.gmon_gnu.proofs.RoundLemmas.{get-part}
use Rattle.gmon_gnu.proofs.rounds.part_block.Goals as goal

pub returns-clause-value : goal.returns-clause-value
returns-clause-value c = get-part c.args.start c.args.size c.args.k c.args.profile.now.blocks (c.block.result.0, c.block.result.1) c.requires.within c.block.ensures
