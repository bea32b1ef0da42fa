use Rattle.std.proofs.Common.{Some, sym, ap, ◌∙◌, arith}
use Rattle.rv_decode.specs.Table.{table}
use Rattle.rv_decode.proofs.RowLemmas.{at_funct7}
use Rattle.rv_decode.proofs.decoder.with_registers_01.Goals as goal

pub returns-in_default : goal.returns-in_default
unfolding table
returns-in_default c = ap Some c.register-in_default.ensures ∙ sym (at_funct7 c.args.word _ c.funct3.result 7 1 (omega arith) c.requires.opcode c.funct3.ensures.funct3 (omega arith) c.requires.funct7)
