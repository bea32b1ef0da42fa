use Rattle.std.proofs.Common.{◌≡◌, take, reverse}
use Rattle.std.specs.List.{find}
use Rattle.annotate.specs.Loaded.{fills}
use Rattle.annotate.proofs.loaded.last_filled.Given as goal

abbrev pub invariant-loop-segment : goal.invariant-loop-segment
invariant-loop-segment l = l.last ≡ find (fills l.address) (reverse (take l.segment-index l.segments))
