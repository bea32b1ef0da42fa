use Rattle.std.proofs.Common.{◌≡◌, map, string_bytes, take, Ok}
use Rattle.std.specs.List.{flat_map, enumerate_from}
use Rattle.host_port.specs.declared.side.Side.TheVariants.{Output}
use Rattle.host_port.specs.Buffered.{Adds}
use Rattle.host_port.specs.declared.host.Failed.{Failed}
use Rattle.flat_report.specs.FlatText.{cumulative_of}
use Rattle.flat_report.specs.Rows.{entries_of_rows}
use Rattle.flat_report.proofs.HiddenLemmas.{shown_at}
use Rattle.flat_report.proofs.report.put_rows.Given as goal

-- the lines of the rows so far are put, but those of hidden functions
abbrev pub invariant-loop-row : goal.invariant-loop-row
invariant-loop-row g l = record {
  cumulative : l.cumulative ≡ cumulative_of (entries_of_rows l.rows) l.row-index;
  lines : Adds {E = Failed} Output (flat_map (shown_at l.total l.rate (map string_bytes l.hidden) (entries_of_rows l.rows)) (take l.row-index (enumerate_from 0 (entries_of_rows l.rows)))) l.initial.lines l.lines (g.H.Host.outside l.initial.host) (g.H.Host.outside l.host) (Ok (tt {0}));
}
