use Rattle.std.proofs.Common.{rules}
use Rattle.gmon_bsd.proofs.file.header_fault.Goals as goal

pub returns-then-size-lt32 : goal.returns-then-size-lt32
returns-then-size-lt32 c = search rules
