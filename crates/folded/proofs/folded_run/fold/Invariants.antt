use Rattle.prof_machine.specs.Value.{work_left}
use Rattle.folded.proofs.FoldLemmas.{Goes}
use Rattle.folded.proofs.folded_run.fold.Given as goal

abbrev pub invariant-loop-tracker : goal.invariant-loop-tracker
invariant-loop-tracker g l = Goes l.symbols l.initial.run l.run (g.H.Host.outside l.initial.host) (g.H.Host.outside l.host) l.plan l.tracker

abbrev pub decreases-loop-tracker : goal.decreases-loop-tracker
decreases-loop-tracker g l = work_left l.run
