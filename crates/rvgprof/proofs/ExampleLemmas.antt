-- Files and words that are written out are read by evaluating their definitions.
use Rattle.std.proofs.Common.{refl}
use Rattle.gmon_files.specs.Forms.{form_of}
use Rattle.rvgprof.specs.Examples.{FileExamples, bsd_example, gnu_example}

pub files_read : FileExamples
unfolding form_of bsd_example gnu_example
files_read = record { bsd_accepted = refl; bsd = refl; gnu_accepted = refl; gnu = refl }
