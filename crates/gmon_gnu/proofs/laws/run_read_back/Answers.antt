use Rattle.gmon_gnu.proofs.RunReadBack.{run_spelled, run_read_back}
use Rattle.gmon_gnu.proofs.laws.run_read_back.Goals as goal

pub returns : goal.returns
returns c = record { spelled = run_spelled; read = run_read_back }
