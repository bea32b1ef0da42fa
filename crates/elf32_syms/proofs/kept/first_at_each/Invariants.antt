use Rattle.std.proofs.Common.{take}
use Rattle.elf32_syms.proofs.KeptLemmas.{HasFirst}
use Rattle.elf32_syms.proofs.kept.first_at_each.Given as goal

abbrev pub invariant-loop-entry : goal.invariant-loop-entry
invariant-loop-entry l = HasFirst l.strings (take l.entry-index l.candidates) l.first
