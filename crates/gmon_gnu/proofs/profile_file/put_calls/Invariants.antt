use Rattle.gmon_cells.proofs.PuttingLemmas.{HasPut}
use Rattle.gmon_gnu.specs.Pieces.{arc_text_of}
use Rattle.gmon_gnu.proofs.profile_file.put_calls.Given as goal

abbrev pub invariant-loop-i : goal.invariant-loop-i
invariant-loop-i g l = HasPut arc_text_of l.profile.arcs l.i l.initial.out l.out (g.H.Host.outside l.initial.host) (g.H.Host.outside l.host)
