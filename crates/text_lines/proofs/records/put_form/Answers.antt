use Rattle.std.proofs.Common.{arith}
use Rattle.std.proofs.lemmas.Grind.{common_steps}
use Rattle.host_port.specs.declared.side.Side.TheVariants.{Output}
use Rattle.host_port.proofs.BufferLemmas.{adds_nothing}
use Rattle.text_lines.proofs.records.put_form.Goals as goal

pub returns-in-Bsd : goal.returns-in-Bsd
returns-in-Bsd g c = rw c.in-Bsd.is (adds_nothing Output _ _ _)

pub returns-in_err-make_room-in-Gnu : goal.returns-in_err-make_room-in-Gnu
returns-in_err-make_room-in-Gnu g c = grind (arith, common_steps)

pub returns-in_ok-make_room-in-Gnu : goal.returns-in_ok-make_room-in-Gnu
returns-in_ok-make_room-in-Gnu g c = grind (arith, common_steps)
