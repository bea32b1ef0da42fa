use Rattle.std.proofs.Common.{append_assoc, arith}
use Rattle.text_cols.proofs.Lengths.{length-hundredths_of, right_of-hundredths}
use Rattle.text_cols.proofs.columns.Line.right_hundredths.Goals as goal

pub put-requires : goal.put-requires
put-requires c = grind (arith, length-hundredths_of)

pub put-requires-2 : goal.put-requires-2
put-requires-2 c = grind (arith, length-hundredths_of)

pub returns-clause-bytes : goal.returns-clause-bytes
returns-clause-bytes c = grind (arith, append_assoc, right_of-hundredths)

pub returns-clause-len : goal.returns-clause-len
returns-clause-len c = grind (arith, length-hundredths_of)
