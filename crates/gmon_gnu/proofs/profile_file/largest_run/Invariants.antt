use Rattle.std.proofs.Common.{◌≡◌, map, take}
use Rattle.gmon_gnu.specs.Splitting.{largest}
use Rattle.gmon_gnu.proofs.profile_file.largest_run.Given as goal

-- of the addresses so far
abbrev pub invariant-loop-i : goal.invariant-loop-i
invariant-loop-i l = l.most ≡ largest (map (λ e. e.1) (take l.i l.profile.blocks))
