use Rattle.std.proofs.Common.{append_assoc, refl}
use Rattle.text_cols.specs.Columns.{right_of}
use Rattle.text_cols.proofs.columns.Line.right.Goals as goal

pub returns-clause-bytes : goal.returns-clause-bytes
unfolding right_of
returns-clause-bytes c = rw (c.put.ensures.bytes, c.put_spaces.ensures.bytes, append_assoc, c.max.ensures, c.saturating_sub.ensures) refl
