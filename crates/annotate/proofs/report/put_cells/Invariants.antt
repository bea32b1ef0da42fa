use Rattle.std.proofs.Common.{take, Ok}
use Rattle.std.specs.List.{flat_map}
use Rattle.host_port.specs.declared.side.Side.TheVariants.{Output}
use Rattle.host_port.specs.Buffered.{Adds}
use Rattle.host_port.specs.declared.host.Failed.{Failed}
use Rattle.annotate.specs.Cells.{cells_of}
use Rattle.annotate.specs.Listing.{cell_line}
use Rattle.annotate.proofs.report.put_cells.Given as goal

-- the lines of the cells so far are put
abbrev pub invariant-loop-k : goal.invariant-loop-k
invariant-loop-k g l =
    Adds {E = Failed} Output (flat_map (cell_line l.segments l.bytes l.profile) (take l.k (cells_of l.symbol))) l.initial.lines l.lines (g.H.Host.outside l.initial.host) (g.H.Host.outside l.host) (Ok (tt {0}))
