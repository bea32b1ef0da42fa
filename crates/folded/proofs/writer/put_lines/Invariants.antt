use Rattle.std.proofs.Common.{take, Ok}
use Rattle.std.specs.List.{flat_map}
use Rattle.host_port.specs.declared.side.Side.TheVariants.{Output}
use Rattle.host_port.specs.Buffered.{Adds}
use Rattle.host_port.specs.declared.host.Failed.{Failed}
use Rattle.folded.specs.Paths.{IsPath, IsPrefix}
use Rattle.folded.proofs.PrefixLemmas.{node_line}
use Rattle.folded.proofs.writer.put_lines.Given as goal

-- the lines of the nodes so far are put
abbrev pub invariant-loop-node : goal.invariant-loop-node
invariant-loop-node g l = record {
  path : IsPath l.tree.nodes.items l.prefix.path;
  prefix : IsPrefix l.symbols l.prefix;
  lines : Adds {E = Failed} Output (flat_map (node_line l.symbols l.tree) (take l.node-index l.order)) l.initial.lines l.lines (g.H.Host.outside l.initial.host) (g.H.Host.outside l.host) (Ok (tt {0}));
}
