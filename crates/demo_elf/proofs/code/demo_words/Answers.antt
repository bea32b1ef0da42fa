use Rattle.std.proofs.Common.{arith, append_assoc}
use Rattle.demo_elf.specs.Code.{demo_words}
use Rattle.demo_elf.proofs.TextLemmas.{counted_more}
use Rattle.demo_elf.proofs.code.demo_words.Goals as goal

pub loop-i-preserved : goal.loop-i-preserved
loop-i-preserved c = grind (arith, append_assoc, counted_more)

pub returns-clause-words : goal.returns-clause-words
unfolding demo_words
returns-clause-words c = grind arith
