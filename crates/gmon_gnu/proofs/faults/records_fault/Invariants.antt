use Rattle.std.proofs.Common.{◌≡◌, ◌≤◌, length}
use Rattle.gmon_gnu.specs.Reading.{refusal_read}
use Rattle.gmon_gnu.specs.Going.{records_on}
use Rattle.gmon_gnu.proofs.faults.records_fault.Given as goal

-- what was skipped has no fault
abbrev pub invariant-loop-rest : goal.invariant-loop-rest
invariant-loop-rest l = record {
  within : length l.rest ≤ l.len;
  same : refusal_read (records_on l.len l.records) ≡ refusal_read (records_on l.len l.rest);
}

abbrev pub decreases-loop-rest : goal.decreases-loop-rest
decreases-loop-rest l = length l.rest
