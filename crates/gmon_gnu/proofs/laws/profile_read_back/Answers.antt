use Rattle.gmon_gnu.proofs.ProfileSpelling.{profile_spelled}
use Rattle.gmon_gnu.proofs.ProfileReadBack.{profile_read_back}
use Rattle.gmon_gnu.proofs.laws.profile_read_back.Goals as goal

pub returns : goal.returns
returns c = record { spelled = profile_spelled; read = profile_read_back }
