use Rattle.gmon_cells.proofs.PuttingLemmas.{HasPut}
use Rattle.gmon_gnu.specs.Pieces.{left_bytes, part_of}
use Rattle.gmon_gnu.proofs.rounds.put_part.Given as goal

abbrev pub invariant-loop-k : goal.invariant-loop-k
invariant-loop-k g l = HasPut (left_bytes l.j) (part_of l.size l.part l.profile.blocks) l.k l.initial.out l.out (g.H.Host.outside l.initial.host) (g.H.Host.outside l.host)
