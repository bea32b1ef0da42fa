use Rattle.std.specs.List.{range_with_len}
use Rattle.gmon_cells.proofs.PuttingLemmas.{HasPut}
use Rattle.gmon_gnu.specs.Pieces.{round_bytes, AreMarks}
use Rattle.gmon_gnu.proofs.rounds.put_rounds.Given as goal

-- the rounds so far are put, and marks are of the next one
abbrev pub invariant-loop-j : goal.invariant-loop-j
invariant-loop-j g l = record {
  put : HasPut (round_bytes l.profile.blocks) (range_with_len 0 l.rounds) l.j l.initial.out l.out (g.H.Host.outside l.initial.host) (g.H.Host.outside l.host);
  marked : AreMarks l.j l.size l.profile.blocks l.marks;
}
