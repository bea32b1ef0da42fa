use Rattle.gmon_files.proofs.RecordLemmas.{spans_of_file}
use Rattle.gmon_files.proofs.laws.records_have_spans.Goals as goal

pub returns : goal.returns
returns c = spans_of_file
