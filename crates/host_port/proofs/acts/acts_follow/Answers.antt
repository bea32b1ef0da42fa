use Rattle.host_port.proofs.Laws.{Did-nothing, Did-then}
use Rattle.host_port.proofs.acts.acts_follow.Goals as goal

pub returns : goal.returns
returns c = record {
  nothing = Did-nothing;
  together = Did-then;
}
