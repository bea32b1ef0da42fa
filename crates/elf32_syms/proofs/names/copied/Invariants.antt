use Rattle.std.proofs.Common.{◌≡◌, take}
use Rattle.elf32_syms.proofs.names.copied.Given as goal

abbrev pub invariant-loop-b : goal.invariant-loop-b
invariant-loop-b l = l.copy ≡ take l.b-index l.name
