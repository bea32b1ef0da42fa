use Rattle.std.proofs.Common.{take, Ok}
use Rattle.std.specs.List.{flat_map}
use Rattle.host_port.specs.declared.side.Side.TheVariants.{Output}
use Rattle.host_port.specs.Buffered.{Adds}
use Rattle.host_port.specs.declared.host.Failed.{Failed}
use Rattle.annotate.specs.Listing.{symbol_listing}
use Rattle.annotate.proofs.report.put_symbols.Given as goal

-- the texts of the symbols so far are put
abbrev pub invariant-loop-symbol : goal.invariant-loop-symbol
invariant-loop-symbol g l =
    Adds {E = Failed} Output (flat_map (symbol_listing l.segments l.bytes l.profile) (take l.symbol-index l.symbols)) l.initial.lines l.lines (g.H.Host.outside l.initial.host) (g.H.Host.outside l.host) (Ok (tt {0}))
