use Rattle.std.proofs.lemmas.Result.{err_from_is_err_and}
use Rattle.gmon_gnu.specs.ProfileText.{profile_text}
use Rattle.host_port.proofs.PerformingLemmas.{create_failed, write_failed, file_performs}
use Rattle.rvgprof.proofs.sum.write_profile.Goals as goal

pub returns-in_err-create_output : goal.returns-in_err-create_output
returns-in_err-create_output g c =
    let p = err_from_is_err_and c.from_residual.result c.from_residual.ensures.1 in
    rw p.1 (create_failed c.args.name.now (profile_text c.args.profile.now) _ _ _ c.in_err-create_output.ensures.creates c.in_err-create_output.ensures.counts)

pub returns-in_err-write : goal.returns-in_err-write
returns-in_err-write g c =
    let p = err_from_is_err_and c.from_residual-in_err-write.result c.from_residual-in_err-write.ensures.1 in
    rw p.1 (write_failed c.args.name.now (profile_text c.args.profile.now) _ _ _ _ _ c.in_ok-create_output.ensures.creates c.in_ok-create_output.ensures.counts c.in_err-write.ensures.puts)

pub returns : goal.returns
returns g c =
    file_performs c.args.name.now (profile_text c.args.profile.now) _ _ _ _ _ _ c.close_output.result c.in_ok-create_output.ensures.creates c.in_ok-create_output.ensures.counts c.in_ok-write.ensures.puts c.close_output.ensures.closes c.close_output.ensures.counts
