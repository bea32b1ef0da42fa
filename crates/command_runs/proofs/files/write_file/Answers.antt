use Rattle.std.proofs.lemmas.Result.{err_from_is_err_and}
use Rattle.host_port.proofs.PerformingLemmas.{create_failed, write_failed, file_performs}
use Rattle.command_runs.proofs.files.write_file.Goals as goal

pub returns-in_err-create_output : goal.returns-in_err-create_output
returns-in_err-create_output g c =
    let p = err_from_is_err_and c.from_residual.result c.from_residual.ensures.1 in
    rw p.1 (create_failed c.args.name.now c.args.bytes.now _ _ _ c.in_err-create_output.ensures.creates c.in_err-create_output.ensures.counts)

pub returns-in_err-write_all_of : goal.returns-in_err-write_all_of
returns-in_err-write_all_of g c =
    let p = err_from_is_err_and c.from_residual-in_err-write_all_of.result c.from_residual-in_err-write_all_of.ensures.1 in
    rw p.1 (write_failed c.args.name.now c.args.bytes.now _ _ _ _ _ c.in_ok-create_output.ensures.creates c.in_ok-create_output.ensures.counts c.in_err-write_all_of.ensures.puts)

pub returns : goal.returns
returns g c =
    file_performs c.args.name.now c.args.bytes.now _ _ _ _ _ _ c.close_output.result c.in_ok-create_output.ensures.creates c.in_ok-create_output.ensures.counts c.in_ok-write_all_of.ensures.puts c.close_output.ensures.closes c.close_output.ensures.counts
