use Rattle.std.proofs.lemmas.Result.{err_from_is_err_and}
use Rattle.gmon_gnu.specs.Blocks.{block_record}
use Rattle.host_port.specs.declared.side.Side.TheVariants.{File}
use Rattle.host_port.proofs.Chains.{puts_then, puts_front}
use Rattle.courses.specs.Answer.{runtime_text}
use Rattle.command_runs.proofs.runs.write_held.Goals as goal

pub returns-in_err-write_runtime : goal.returns-in_err-write_runtime
returns-in_err-write_runtime g c =
    let p = err_from_is_err_and c.from_residual.result c.from_residual.ensures.1 in
    rw p.1 (puts_front File (runtime_text c.args.form c.args.gmon.now c.args.rate) (block_record c.args.gmon.now.sizes.low c.args.counts.now) _ _ _ c.in_err-write_runtime.ensures.puts)

pub returns : goal.returns
returns g c =
    let blocks = rw c.sizes.ensures.value at c.write_blocks.ensures in
    puts_then File (runtime_text c.args.form c.args.gmon.now c.args.rate) (block_record c.args.gmon.now.sizes.low c.args.counts.now) _ _ _ _ _ c.in_ok-write_runtime.ensures.puts blocks
