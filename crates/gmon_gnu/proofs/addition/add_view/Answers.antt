use Rattle.std.proofs.Common.{ap}
use Rattle.gmon_cells.specs.Views.{hist_viewed, rec_viewed}
use Rattle.gmon_data.proofs.NumberLemmas.{few_of_record}
use Rattle.gmon_gnu.proofs.addition.add_view.Goals as goal

pub add_counts-requires-clause-count : goal.add_counts-requires-clause-count
add_counts-requires-clause-count c = few_of_record (rec_viewed c.args.view) (hist_viewed c.in-Hist.hist) c.args.profile.now (ap rec_viewed c.in-Hist.is) c.requires.within
