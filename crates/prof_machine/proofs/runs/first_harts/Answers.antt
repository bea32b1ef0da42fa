use Rattle.std.proofs.Common.{arith}
use Rattle.std.proofs.lemmas.List.FromFn.{map-range_with_len_more}
use Rattle.prof_machine.specs.Start.{first_registers}
use Rattle.prof_machine.proofs.runs.first_harts.Goals as goal

pub loop-hart-preserved : goal.loop-hart-preserved
loop-hart-preserved c =
    grind (arith, map-range_with_len_more (first_registers c.args.entry c.args.end c.args.harts) 0 c.loop-hart.hart c.loop-hart.hart (omega arith))
