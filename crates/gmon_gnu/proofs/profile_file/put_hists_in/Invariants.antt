use Rattle.gmon_cells.proofs.PuttingLemmas.{HasPut}
use Rattle.gmon_gnu.specs.Pieces.{hist_pieces_text}
use Rattle.gmon_gnu.proofs.profile_file.put_hists_in.Given as goal

abbrev pub invariant-loop-i : goal.invariant-loop-i
invariant-loop-i g l = HasPut (hist_pieces_text l.«unit») l.profile.hists l.i l.initial.out l.out (g.H.Host.outside l.initial.host) (g.H.Host.outside l.host)
