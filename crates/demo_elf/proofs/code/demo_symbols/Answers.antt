use Rattle.std.proofs.Common.{arith}
use Rattle.std.proofs.lemmas.List.{map_push}
use Rattle.std.proofs.lemmas.List.FromFn.{map-range_with_len_more}
use Rattle.demo_elf.specs.Code.{demo_symbols}
use Rattle.demo_elf.proofs.code.demo_symbols.Goals as goal

pub loop-i-preserved : goal.loop-i-preserved
loop-i-preserved c = grind (arith, map_push, map-range_with_len_more)

pub returns-clause-symbols : goal.returns-clause-symbols
unfolding demo_symbols
returns-clause-symbols c = grind arith
