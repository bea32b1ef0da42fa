use Rattle.std.specs.List.{range_with_len}
use Rattle.gmon_cells.proofs.PuttingLemmas.{HasPut}
use Rattle.gmon_gnu.specs.Grammar.{rec_bytes}
use Rattle.gmon_gnu.specs.Splitting.{most_calls, pieces_of, arc_piece, arc_rec}
use Rattle.gmon_gnu.proofs.profile_file.put_pair.Given as goal

abbrev pub invariant-loop-j : goal.invariant-loop-j
invariant-loop-j g l = HasPut (λ j. rec_bytes (arc_rec (arc_piece ((l.from, l.to), l.calls) j))) (range_with_len 0 (pieces_of most_calls l.calls)) l.j l.initial.out l.out (g.H.Host.outside l.initial.host) (g.H.Host.outside l.host)
