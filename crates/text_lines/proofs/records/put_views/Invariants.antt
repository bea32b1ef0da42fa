use Rattle.std.proofs.Common.{◌≡◌, List, ◌++◌, length, Ok}
use Rattle.std.specs.List.{flat_map}
use Rattle.gp_base.specs.declared.records.Rec.{Rec}
use Rattle.host_port.specs.declared.side.Side.TheVariants.{Output}
use Rattle.host_port.specs.Buffered.{Adds}
use Rattle.host_port.specs.declared.host.Failed.{Failed}
use Rattle.gmon_files.specs.Viewed.{recs_left}
use Rattle.text_lines.specs.Lines.{rec_text}
use Rattle.text_lines.specs.Pending.{pending}
use Rattle.text_lines.proofs.records.put_views.Given as goal

-- the lines of the records that were given are put, and the others are left
abbrev pub invariant-loop-view : goal.invariant-loop-view
invariant-loop-view g l =
    (given : List Rec) × (given ++ recs_left l.views ≡ recs_left l.initial.views) × Adds {E = Failed} Output (flat_map (rec_text l.form) given) (pending l.initial.lines) (pending l.lines) (g.H.Host.outside l.initial.host) (g.H.Host.outside l.host) (Ok (tt {0}))

abbrev pub decreases-loop-view : goal.decreases-loop-view
decreases-loop-view g l = length (recs_left l.views)
