use Rattle.rvgprof.proofs.DoneLemmas.{done_as_accepted}
use Rattle.rvgprof.proofs.laws.accepted_is_done.Goals as goal

pub returns : goal.returns
returns c = done_as_accepted
