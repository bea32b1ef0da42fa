use Rattle.gmon_gnu.proofs.CountedReadBack.{counted_spelled, counted_read_back}
use Rattle.gmon_gnu.proofs.laws.counted_run_read_back.Goals as goal

pub returns : goal.returns
returns c = record { spelled = counted_spelled; read = counted_read_back }
