use Rattle.std.proofs.Common.{arith}
use Rattle.gmon_data.proofs.ContentLemmas.{hist_stands}
use Rattle.gmon_data.proofs.profile.Profile.add_wide.Goals as goal

pub returns-then-is_empty-clause-stands : goal.returns-then-is_empty-clause-stands
returns-then-is_empty-clause-stands c = grind (arith, hist_stands)

pub returns-clause-stands : goal.returns-clause-stands
returns-clause-stands c = search (hist_stands, c.in_ok-keep.ensures.added, c.in_ok-hist.ensures)
