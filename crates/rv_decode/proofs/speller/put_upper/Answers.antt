use Rattle.std.proofs.Common.{append_assoc, refl}
use Rattle.std.proofs.lemmas.Int.{to_z-of_z}
use Rattle.std.specs.Int.{w32}
use Rattle.rv_decode.specs.Spelling.{upper_text}
use Rattle.rv_decode.proofs.Texts.{drop-hex8_of}
use Rattle.rv_decode.proofs.speller.put_upper.Goals as goal

pub returns-clause-text : goal.returns-clause-text
unfolding upper_text
returns-clause-text c =
    rw (c.put-3.ensures.bytes, c.put-2.ensures.bytes, c.put.ensures.bytes, append_assoc, append_assoc, c.split_at.ensures.back, c.bytes.ensures.bytes, c.hex8.ensures.bytes, c.new-digits.ensures, drop-hex8_of, c.cast_unsigned.ensures, to_z-of_z w32 c.args.imm c.ranges.imm) refl
