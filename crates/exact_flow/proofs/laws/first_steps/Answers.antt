use Rattle.exact_flow.proofs.WideLemmas.{same_step, one_first, none_is_wide, first_is_wide}
use Rattle.exact_flow.proofs.laws.first_steps.Goals as goal

pub returns : goal.returns
returns c = search (same_step, one_first, none_is_wide, first_is_wide)
