use Rattle.gp_base.specs.Fields.{counter_bytes}
use Rattle.gmon_cells.proofs.PuttingLemmas.{HasPut}
use Rattle.gmon_gnu.specs.Splitting.{most_samples, piece}
use Rattle.gmon_gnu.proofs.profile_file.put_counters.Given as goal

abbrev pub invariant-loop-i : goal.invariant-loop-i
invariant-loop-i g l = HasPut (λ n. counter_bytes (piece most_samples l.j n)) l.counters l.i l.initial.out l.out (g.H.Host.outside l.initial.host) (g.H.Host.outside l.host)
