use Rattle.std.specs.List.{range_with_len}
use Rattle.gmon_cells.proofs.PuttingLemmas.{HasPut}
use Rattle.gmon_gnu.specs.Grammar.{hist_bytes}
use Rattle.gmon_gnu.specs.Splitting.{most_samples, pieces_of, largest, hist_piece, raw_hist}
use Rattle.gmon_gnu.proofs.profile_file.put_hist_pieces.Given as goal

abbrev pub invariant-loop-j : goal.invariant-loop-j
invariant-loop-j g l = HasPut (λ j. hist_bytes (raw_hist l.«unit» (hist_piece l.hist j))) (range_with_len 0 (pieces_of most_samples (largest l.hist.counters))) l.j l.initial.out l.out (g.H.Host.outside l.initial.host) (g.H.Host.outside l.host)
