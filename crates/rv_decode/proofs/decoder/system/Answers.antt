use Rattle.std.proofs.Common.{sym, ◌∙◌, arith}
use Rattle.rv_decode.proofs.RowLemmas.{at_opcode, no_system}
use Rattle.rv_decode.proofs.decoder.system.Goals as goal

pub returns-in_default : goal.returns-in_default
returns-in_default c =
    sym (at_opcode c.args.word _ (omega arith) c.requires ∙ no_system c.args.word _ _ (omega arith) (omega arith))
