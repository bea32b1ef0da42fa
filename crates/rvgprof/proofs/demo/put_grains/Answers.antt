use Rattle.std.proofs.Common.{decimal}
use Rattle.courses.specs.Reports.{grains_line}
use Rattle.rvgprof.proofs.LineLemmas.{five_parts}
use Rattle.rvgprof.proofs.demo.put_grains.Goals as goal

pub returns : goal.returns
unfolding grains_line
returns c = search (five_parts, decimal)
