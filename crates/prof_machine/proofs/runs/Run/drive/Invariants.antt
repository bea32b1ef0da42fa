use Rattle.prof_machine.specs.Value.{work_left}
use Rattle.prof_machine.proofs.DriveLemmas.{Drives}
use Rattle.prof_machine.proofs.runs.Run.drive.Given as goal

abbrev pub invariant-turns : goal.invariant-turns
invariant-turns g l = Drives l.initial.self l.self (g.H.Host.outside l.initial.host) (g.H.Host.outside l.host) l.plan

abbrev pub decreases-turns : goal.decreases-turns
decreases-turns g l = work_left l.self
