use Rattle.std.proofs.Common.{◌≡◌, ◌≤◌, false, drop, length}
use Rattle.folded.specs.Shadow.{is_in_frames}
use Rattle.folded.proofs.shadow.kept.Given as goal

abbrev pub invariant-loop-end : goal.invariant-loop-end
invariant-loop-end l = (l.end ≤ length l.frames) × (is_in_frames l.to (drop l.end l.frames) ≡ false)

abbrev pub decreases-loop-end : goal.decreases-loop-end
decreases-loop-end l = l.end
