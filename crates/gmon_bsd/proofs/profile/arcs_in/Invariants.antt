use Rattle.std.proofs.Common.{◌≡◌, ◌++◌}
use Rattle.gmon_bsd.proofs.profile.arcs_in.Given as goal

-- the arcs so far are there
abbrev pub invariant-loop-arc : goal.invariant-loop-arc
invariant-loop-arc l = record {
  left : l.yielded ++ l.arc-iterator ≡ l.gmon.arcs;
  those : l.arcs.items ≡ l.yielded;
}
