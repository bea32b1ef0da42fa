use Rattle.std.proofs.Common.{◌∙◌, arith}
use Rattle.profile_sum.proofs.ContentLemmas.{content_is_added}
use Rattle.gmon_files.specs.FileRead.{spelled_records}
use Rattle.command_inputs.proofs.Accepting.{not_read, one_read}
use Rattle.gmon_files.proofs.FileReading.{file_spelled}
use Rattle.gmon_files.proofs.RecordLemmas.{of_file}
use Rattle.courses.proofs.Standing.{not_loaded}
use Rattle.command_inputs.proofs.inputs.read_profile.Goals as goal

pub returns-in-Err-clause-reads : goal.returns-in-Err-clause-reads
returns-in-Err-clause-reads g c = λ start below next may later s.
    let loads = rw c.name.ensures at c.in-Err.ensures.read in
    rw c.load_fault.ensures (not_loaded c.args.words.now start _ _ below c.args.word c.args.left _ c.in-Err.refusal s later loads)

pub into_profile-requires-clause-fits : goal.into_profile-requires-clause-fits
into_profile-requires-clause-fits g c = grind (arith, of_file, file_spelled)

pub returns-in-Ok-into_profile-clause-reads : goal.returns-in-Ok-into_profile-clause-reads
returns-in-Ok-into_profile-clause-reads g c = grind (arith, content_is_added, one_read)

pub returns-in-Err-into_profile-clause-reads : goal.returns-in-Err-into_profile-clause-reads
returns-in-Err-into_profile-clause-reads g c = λ start below next may later s.
    let r = rw c.name.ensures at c.in-Ok.ensures.read in
    let refusal = c.in-Err-into_profile.refusal in
    rw c.read_fault.ensures (not_read c.args.words.now start _ _ below c.args.word c.args.left next r.0 refusal may s later r.1 (c.in-Err-into_profile.ensures.refusal r.0 r.2))

pub returns-in-Ok-into_profile-clause-records : goal.returns-in-Ok-into_profile-clause-records
returns-in-Ok-into_profile-clause-records g c =
    let r = c.in-Ok.ensures.read in
    (spelled_records r.0, c.in-Ok-into_profile.ensures.content r.0 r.2 ∙ content_is_added (spelled_records r.0))

pub returns-in-Ok-into_profile-clause-size : goal.returns-in-Ok-into_profile-clause-size
returns-in-Ok-into_profile-clause-size g c = grind (arith, content_is_added, file_spelled, of_file)

pub returns-in-Ok-into_profile-clause-told : goal.returns-in-Ok-into_profile-clause-told
returns-in-Ok-into_profile-clause-told g c = grind arith
