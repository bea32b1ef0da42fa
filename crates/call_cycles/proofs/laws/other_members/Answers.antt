use Rattle.call_cycles.proofs.MemberLemmas.{cycles_are}
use Rattle.call_cycles.proofs.laws.other_members.Goals as goal

pub returns : goal.returns
returns c = cycles_are
