use Rattle.std.proofs.Common.{append_assoc, arith}
use Rattle.text_cols.specs.Columns.{hundredths_of}
use Rattle.text_cols.proofs.Lengths.{length-hundredths_of}
use Rattle.text_cols.proofs.columns.Line.hundredths.Goals as goal

pub decimal-requires : goal.decimal-requires
decimal-requires c = grind (arith, length-hundredths_of)

pub put-requires : goal.put-requires
put-requires c = grind (arith, length-hundredths_of)

pub returns-clause-bytes : goal.returns-clause-bytes
unfolding hundredths_of
returns-clause-bytes c = grind (arith, append_assoc)

pub returns-clause-len : goal.returns-clause-len
returns-clause-len c = grind (arith, length-hundredths_of)
