use Rattle.std.proofs.Common.{arith}
use Rattle.gmon_files.proofs.FileReading.{is_fed, len_fed}
use Rattle.gmon_files.proofs.file_reader.FileReaderTakesPieces.take.Goals as goal

pub feed-requires-clause-small : goal.feed-requires-clause-small
feed-requires-clause-small c = let r = c.requires in omega (arith, len_fed r.0 c.args.self r.1, r.2)

pub feed-requires-clause-fed : goal.feed-requires-clause-fed
feed-requires-clause-fed c = let r = c.requires in is_fed r.0 c.args.self r.1
