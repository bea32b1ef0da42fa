use Rattle.std.proofs.Common.{Some, sym, ap, ◌∙◌, refl, arith}
use Rattle.rv_decode.specs.Table.{table}
use Rattle.rv_decode.proofs.RowLemmas.{at_opcode, no_opcode}
use Rattle.rv_decode.proofs.decoder.decode.Goals as goal

pub returns-in-23 : goal.returns-in-23
unfolding table
returns-in-23 c = ap Some c.upper.ensures ∙ sym (at_opcode c.args.word _ (omega arith) c.in-23.is)

pub returns-in-55 : goal.returns-in-55
unfolding table
returns-in-55 c = ap Some c.upper-in-55.ensures ∙ sym (at_opcode c.args.word _ (omega arith) c.in-55.is)

pub returns-in-111 : goal.returns-in-111
unfolding table
returns-in-111 c = ap Some c.jump.ensures ∙ sym (at_opcode c.args.word _ (omega arith) c.in-111.is)

pub returns-in_default : goal.returns-in_default
returns-in_default c =
    sym (at_opcode c.args.word _ (omega arith) refl ∙ no_opcode c.args.word _ _ _ (omega arith) (omega arith) (omega arith) (omega arith) (omega arith) (omega arith) (omega arith) (omega arith) (omega arith) (omega arith) (omega arith))
