use Rattle.std.proofs.Common.{◌≡◌, ◌++◌, true, Ok}
use Rattle.std.specs.List.{flat_map}
use Rattle.host_port.specs.declared.side.Side.TheVariants.{File}
use Rattle.host_port.specs.Buffered.{Adds}
use Rattle.host_port.specs.declared.host.Failed.{Failed}
use Rattle.gmon_cells.specs.FileText.{tagged_by}
use Rattle.gmon_cells.proofs.run_cells.put_arcs.Given as goal

-- the arcs so far are put
abbrev pub invariant-loop-arc : goal.invariant-loop-arc
invariant-loop-arc g l = record {
  left : l.yielded ++ l.arc-iterator ≡ l.gmon.arcs;
  put : Adds {E = Failed} File (flat_map (tagged_by l.tag) l.yielded) l.initial.out l.out (g.H.Host.outside l.initial.host) (g.H.Host.outside l.host) (Ok (tt {0}));
  ready : (g.H.Host.outside l.host).is_writing ≡ true;
}
