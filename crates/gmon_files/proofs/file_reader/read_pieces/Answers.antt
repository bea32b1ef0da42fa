use Rattle.gmon_files.proofs.FileReading.{all_fed}
use Rattle.gmon_files.proofs.file_reader.read_pieces.Goals as goal

pub returns-clause-fed : goal.returns-clause-fed
returns-clause-fed g c = all_fed c.args.name.now c.args.limit _ _ c.read_all.result c.read_all.ensures
