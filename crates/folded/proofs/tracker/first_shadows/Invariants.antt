use Rattle.std.proofs.Common.{◌≡◌, replicate}
use Rattle.folded.specs.Shadow.{empty_shadow}
use Rattle.folded.proofs.tracker.first_shadows.Given as goal

abbrev pub invariant-loop-hart : goal.invariant-loop-hart
invariant-loop-hart l = l.shadows.items ≡ replicate l._hart empty_shadow
