use Rattle.std.proofs.Common.{arith}
use Rattle.elf32_syms.proofs.Owning.{place_le_addr, owner_here, no_owner_before, no_owner_behind}
use Rattle.elf32_syms.proofs.owners.owner.Goals as goal

pub returns-then-index-symbols : goal.returns-then-index-symbols
returns-then-index-symbols c = grind (arith, no_owner_behind, no_owner_before)

pub overflow_cast-result : goal.overflow_cast-result
overflow_cast-result c = grind (arith, place_le_addr)

pub returns : goal.returns
returns c = search owner_here
