use Rattle.std.proofs.Common.{arith}
use Rattle.gmon_files.proofs.FileReading.{form_goes_on}
use Rattle.gmon_files.proofs.file_reader.FileReader.feed.Goals as goal

pub returns-in_ok-feed-in-Bsd-clause-stands : goal.returns-in_ok-feed-in-Bsd-clause-stands
returns-in_ok-feed-in-Bsd-clause-stands c = grind (arith, form_goes_on)

pub returns-in_ok-feed-in-Gnu-clause-stands : goal.returns-in_ok-feed-in-Gnu-clause-stands
returns-in_ok-feed-in-Gnu-clause-stands c = grind (arith, form_goes_on)
