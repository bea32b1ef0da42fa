use Rattle.std.proofs.Common.{◌≡◌, length}
use Rattle.call_cycles.specs.Passes.{IsPass, IsSeenOn, pass_of, work_left}
use Rattle.call_cycles.proofs.depth.run.Given as goal

abbrev pub invariant-loop-f : goal.invariant-loop-f
invariant-loop-f l = record {
  places : length l.pass.places.items ≡ length l.fn.pass.places.items;
  pass : IsPass (length l.fn.pass.places.items) l.arcs (pass_of l.pass);
  seen : IsSeenOn (pass_of l.fn.pass) (pass_of l.pass);
}

abbrev pub decreases-loop-f : goal.decreases-loop-f
decreases-loop-f l = work_left l.arcs (pass_of l.pass)
