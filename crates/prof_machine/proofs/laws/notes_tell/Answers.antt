use Rattle.prof_machine.proofs.NotedLemmas.{as_many, ran_noted, samples_noted, who_retired}
use Rattle.prof_machine.proofs.ReturnLemmas.{returns_noted}
use Rattle.prof_machine.proofs.laws.notes_tell.Goals as goal

pub returns : goal.returns
returns c = record { samples = samples_noted; retired = ran_noted; who = who_retired; as_many = as_many; returned = returns_noted }
