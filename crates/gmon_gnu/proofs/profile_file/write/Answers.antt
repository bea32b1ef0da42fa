use Rattle.std.proofs.lemmas.Result.{err_from_is_err_and}
use Rattle.host_port.specs.declared.side.Side.TheVariants.{File}
use Rattle.host_port.proofs.BufferLemmas.{flushed, stopped}
use Rattle.gmon_gnu.specs.ProfileText.{profile_text}
use Rattle.gmon_gnu.proofs.ProfileReadBack.{profile_read_back}
use Rattle.gmon_gnu.proofs.profile_file.write.Goals as goal

pub returns-in_err-put_profile-clause-puts : goal.returns-in_err-put_profile-clause-puts
returns-in_err-put_profile-clause-puts g c =
    let p = err_from_is_err_and c.from_residual.result c.from_residual.ensures.1 in
    rw p.1 (stopped File (profile_text c.args.profile.now) _ _ _ _ _ c.new-out.ensures c.in_err-put_profile.ensures.adds)

pub returns-in_err-put_profile-clause-read : goal.returns-in_err-put_profile-clause-read
returns-in_err-put_profile-clause-read g c = profile_read_back c.args.profile.now c.holds.ensures

pub returns-clause-read : goal.returns-clause-read
returns-clause-read g c = profile_read_back c.args.profile.now c.holds.ensures

pub returns-clause-puts : goal.returns-clause-puts
returns-clause-puts g c = flushed File (profile_text c.args.profile.now) _ _ _ _ _ _ _ _ c.new-out.ensures c.flush.ensures.emptied c.in_ok-put_profile.ensures.adds c.flush.ensures.adds
