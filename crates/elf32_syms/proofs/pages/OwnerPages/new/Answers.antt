use Rattle.std.proofs.Common.{arith}
use Rattle.elf32_syms.proofs.pages.OwnerPages.new.Goals as goal

pub overflow_cast-first : goal.overflow_cast-first
overflow_cast-first c = omega (arith, c.symbol_count-count.ensures)
