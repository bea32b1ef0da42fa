use Rattle.gp_base.specs.Fields.{counter_bytes}
use Rattle.gmon_cells.proofs.PuttingLemmas.{HasPut}
use Rattle.gmon_cells.proofs.run_cells.put_counters.Given as goal

abbrev pub invariant-loop-i : goal.invariant-loop-i
invariant-loop-i g l = HasPut counter_bytes l.gmon.counters l.i l.initial.out l.out (g.H.Host.outside l.initial.host) (g.H.Host.outside l.host)
