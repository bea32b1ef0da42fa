use Rattle.std.proofs.Common.{[], ◌∷◌, None, refl}
use Rattle.host_port.specs.Act.{Out}
use Rattle.host_port.specs.declared.side.Side.TheVariants.{Output}
use Rattle.host_port.proofs.PerformingLemmas.{puts_performs}
use Rattle.courses.specs.Answer.{end_course}
use Rattle.courses.proofs.Standing.{last_acts, fails}
use Rattle.rvgprof.proofs.help.print.Goals as goal

pub returns-in-Ok-clause-acted : goal.returns-in-Ok-clause-acted
returns-in-Ok-clause-acted g c =
    last_acts c.args._words.now _ _ _ 0 [] (Out c.args.text.now ∷ []) (record { run = None }) (tt {0}) c.requires (puts_performs Output c.args.text.now _ _ _ c.in-Ok.ensures.puts) refl

pub returns-in-Err-clause-acted : goal.returns-in-Err-clause-acted
returns-in-Err-clause-acted g c =
    fails {T = Unit {0}} c.args._words.now _ _ _ 0 [] (Out c.args.text.now ∷ []) end_course c.in-Err.field-0 c.requires (puts_performs {T = Unit {0}} Output c.args.text.now _ _ _ c.in-Err.ensures.puts)
