use Rattle.std.proofs.Common.{length, arith}
use Rattle.gmon_data.proofs.SizeLemmas.{within_limits}
use Rattle.gmon_files.specs.Forms.{file_records}
use Rattle.gmon_files.proofs.FileReading.{file_spelled}
use Rattle.gmon_files.proofs.RecordLemmas.{of_file}
use Rattle.test_forms.proofs.tests.pieces.profile_of.Goals as goal

pub into_profile-requires-clause-fits : goal.into_profile-requires-clause-fits
into_profile-requires-clause-fits c =
    let bytes = c.args.bytes.now in
    let stands = c.in-Ok.ensures.stands in (
      bytes,
      stands,
      λ none. within_limits (length bytes) _ (of_file bytes (file_records bytes) (file_spelled bytes c.in-Ok.reader stands none)) (omega (arith, c.requires.small)),
    )
