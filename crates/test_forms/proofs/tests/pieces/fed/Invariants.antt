use Rattle.std.proofs.Common.{◌≡◌, ◌-◌, ◌≤◌, length, take}
use Rattle.gmon_files.specs.FileRead.{StandsFor, len_of, IsFed}
use Rattle.test_forms.proofs.tests.pieces.fed.Given as goal

abbrev pub invariant-loop-fed : goal.invariant-loop-fed
invariant-loop-fed l = record {
  stands : StandsFor (take l.fed l.bytes) l.reader;
  len : len_of l.reader ≡ l.fed;
  fed : IsFed l.reader;
  within : l.fed ≤ length l.bytes;
}

abbrev pub decreases-loop-fed : goal.decreases-loop-fed
decreases-loop-fed l = length l.bytes - l.fed
