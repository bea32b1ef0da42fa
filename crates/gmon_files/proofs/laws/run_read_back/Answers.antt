use Rattle.gmon_files.proofs.RunLemmas.{says_log}
use Rattle.gmon_files.proofs.laws.run_read_back.Goals as goal

pub returns : goal.returns
returns c = says_log
