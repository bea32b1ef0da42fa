use Rattle.rvgprof.proofs.RunFileLemmas.{profile_files_read_back, run_files_read_back}
use Rattle.rvgprof.proofs.laws.files_read_back.Goals as goal

pub returns : goal.returns
returns c = record { run = run_files_read_back; profile = profile_files_read_back }
