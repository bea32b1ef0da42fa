use Rattle.std.proofs.Common.{append_assoc, refl}
use Rattle.text_cols.proofs.Lengths.{right_of-pair}
use Rattle.text_cols.proofs.columns.Line.right_pair.Goals as goal

pub returns-clause-bytes : goal.returns-clause-bytes
returns-clause-bytes c =
    rw (c.put-3.ensures.bytes, c.put-2.ensures.bytes, c.put.ensures.bytes, c.put_spaces.ensures.bytes, c.max.ensures, c.saturating_sub.ensures, c.as_bytes-first.ensures.value, c.as_bytes-second.ensures.value, c.format.ensures.text, c.format-2.ensures.text, append_assoc, append_assoc, append_assoc, right_of-pair) refl
