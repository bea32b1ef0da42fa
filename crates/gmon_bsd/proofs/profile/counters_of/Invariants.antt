use Rattle.std.proofs.Common.{◌≡◌, ◌<◌, ◌^◌, take}
use Rattle.std.specs.List.{All}
use Rattle.gmon_bsd.proofs.profile.counters_of.Given as goal

abbrev pub invariant-loop-i : goal.invariant-loop-i
invariant-loop-i l = record {
  those : l.counters ≡ take l.i l.gmon.counters;
  small : All (λ n. n < 2 ^ 16) l.counters;
}
