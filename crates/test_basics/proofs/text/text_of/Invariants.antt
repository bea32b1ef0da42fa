use Rattle.std.proofs.Common.{◌≡◌, length}
use Rattle.test_basics.proofs.text.text_of.Given as goal

abbrev pub invariant-loop-i : goal.invariant-loop-i
invariant-loop-i l = length l.text.items ≡ l.i
