use Rattle.std.specs.Prelude.{codes}
use Rattle.host_port.specs.declared.side.Side.TheVariants.{Output}
use Rattle.host_port.proofs.BufferLemmas.{adds_then}
use Rattle.folded.specs.Text.{name_in}
use Rattle.folded.proofs.writer.put_caller.Goals as goal

pub returns : goal.returns
returns g c = adds_then Output (name_in c.args.symbols.now c.args.caller) (codes ";") _ _ _ _ _ _ _ _ c.in_ok-put_name.ensures c.put.ensures.adds
