use Rattle.std.proofs.Common.{sym, ◌∙◌, arith}
use Rattle.rv_decode.proofs.RowLemmas.{at_opcode, no_funct7}
use Rattle.rv_decode.proofs.decoder.with_registers.Goals as goal

pub returns-in_default : goal.returns-in_default
returns-in_default c =
    sym (at_opcode c.args.word _ (omega arith) c.requires ∙ no_funct7 c.args.word _ _ (omega arith) (omega arith) (omega arith))
