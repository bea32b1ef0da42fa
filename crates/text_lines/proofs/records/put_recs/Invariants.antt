use Rattle.std.proofs.Common.{take, Ok}
use Rattle.std.specs.List.{flat_map}
use Rattle.host_port.specs.declared.side.Side.TheVariants.{Output}
use Rattle.host_port.specs.Buffered.{Adds}
use Rattle.host_port.specs.declared.host.Failed.{Failed}
use Rattle.text_lines.specs.Lines.{rec_text}
use Rattle.text_lines.specs.Pending.{pending}
use Rattle.text_lines.proofs.records.put_recs.Given as goal

-- the lines of the records so far are put
abbrev pub invariant-loop-rec : goal.invariant-loop-rec
invariant-loop-rec g l =
    Adds {E = Failed} Output (flat_map (rec_text l.form) (take l.rec-index l.recs)) (pending l.initial.lines) (pending l.lines) (g.H.Host.outside l.initial.host) (g.H.Host.outside l.host) (Ok (tt {0}))
