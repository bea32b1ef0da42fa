use Rattle.std.proofs.Common.{refl}
use Rattle.elf32_syms.specs.Symbols.{kept_at}
use Rattle.elf32_syms.proofs.FirstLemmas.{kept_first}
use Rattle.elf32_syms.proofs.laws.first_at_an_address.Goals as goal

pub returns : goal.returns
returns c = λ strings cs addr. kept_first strings cs addr (kept_at strings cs addr) refl
