use Rattle.std.proofs.Common.{◌≡◌, ◌++◌, ◌+◌, ◌*◌, length, take}
use Rattle.std.specs.List.{flat_map}
use Rattle.text_lines.specs.Lines.{byte_digits}
use Rattle.text_lines.proofs.line.put_hex.Given as goal

-- the digits of the bytes so far are there
abbrev pub invariant-loop-byte : goal.invariant-loop-byte
invariant-loop-byte l =
    (l.line ≡ l.initial.line ++ flat_map byte_digits (take l.byte-index l.bytes)) × (length l.line ≡ length l.initial.line + 2 * l.byte-index)
