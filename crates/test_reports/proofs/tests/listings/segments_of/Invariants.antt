use Rattle.std.proofs.Common.{◌+◌, ◌≤◌}
use Rattle.std.specs.List.{All}
use Rattle.test_reports.proofs.tests.listings.segments_of.Given as goal

abbrev pub invariant-loop-segment : goal.invariant-loop-segment
invariant-loop-segment l = All (λ s. s.offset + s.filesz ≤ l.len) l.segments
