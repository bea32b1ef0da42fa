use Rattle.gmon_data.proofs.RecordLemmas.{content-more}
use Rattle.gmon_data.proofs.laws.records_add_up.Goals as goal

pub returns : goal.returns
returns c = content-more
