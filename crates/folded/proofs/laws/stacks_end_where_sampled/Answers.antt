use Rattle.folded.proofs.FollowLemmas.{stack_ends}
use Rattle.folded.proofs.laws.stacks_end_where_sampled.Goals as goal

pub returns : goal.returns
returns c = stack_ends
