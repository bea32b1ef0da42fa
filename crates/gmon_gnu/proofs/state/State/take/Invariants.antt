use Rattle.std.proofs.Common.{◌≡◌, ℕ, List, length}
use Rattle.gmon_gnu.specs.Held.{Goes}
use Rattle.gmon_gnu.specs.Taking.{CanTake}
use Rattle.gmon_gnu.proofs.state.State.take.Given as goal

abbrev pub invariant-loop-rest : goal.invariant-loop-rest
invariant-loop-rest l = record {
  can : CanTake l.total l.rest l.self;
  goes : (whole : List ℕ) → length whole ≡ l.total → Goes whole l.fn.self l.piece → Goes whole l.self l.rest;
}

abbrev pub decreases-loop-rest : goal.decreases-loop-rest
decreases-loop-rest l = length l.rest
