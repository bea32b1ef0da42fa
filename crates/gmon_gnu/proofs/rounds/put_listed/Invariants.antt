use Rattle.gmon_cells.proofs.PuttingLemmas.{HasPut}
use Rattle.gmon_gnu.specs.Pieces.{left_bytes}
use Rattle.gmon_gnu.proofs.rounds.put_listed.Given as goal

abbrev pub invariant-loop-i : goal.invariant-loop-i
invariant-loop-i g l = HasPut (left_bytes l.j) l.few l.i l.initial.out l.out (g.H.Host.outside l.initial.host) (g.H.Host.outside l.host)
