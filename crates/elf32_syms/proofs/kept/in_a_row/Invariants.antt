use Rattle.std.proofs.Common.{◌≡◌, take}
use Rattle.elf32_syms.specs.Image.{in_a_row}
use Rattle.elf32_syms.proofs.kept.in_a_row.Given as goal

abbrev pub invariant-loop-i : goal.invariant-loop-i
invariant-loop-i l = l.symbols ≡ take l.i (in_a_row l.strings l.high l.entries)
