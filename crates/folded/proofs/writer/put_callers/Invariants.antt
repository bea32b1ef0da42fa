use Rattle.std.proofs.Common.{take, Ok}
use Rattle.std.specs.List.{flat_map}
use Rattle.host_port.specs.declared.side.Side.TheVariants.{Output}
use Rattle.host_port.specs.Buffered.{Adds}
use Rattle.host_port.specs.declared.host.Failed.{Failed}
use Rattle.folded.specs.Paths.{caller_text}
use Rattle.folded.proofs.writer.put_callers.Given as goal

abbrev pub invariant-loop-caller : goal.invariant-loop-caller
invariant-loop-caller g l = Adds {E = Failed} Output (flat_map (caller_text l.symbols) (take l.caller-index l.callers)) l.initial.lines l.lines (g.H.Host.outside l.initial.host) (g.H.Host.outside l.host) (Ok (tt {0}))
