use Rattle.std.proofs.Common.{append_assoc, refl}
use Rattle.text_cols.specs.Columns.{left_of}
use Rattle.text_cols.proofs.columns.Line.left.Goals as goal

pub returns-clause-bytes : goal.returns-clause-bytes
unfolding left_of
returns-clause-bytes c = rw (c.put_spaces.ensures.bytes, c.put.ensures.bytes, append_assoc, c.saturating_sub.ensures) refl
