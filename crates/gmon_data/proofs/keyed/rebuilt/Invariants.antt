use Rattle.std.proofs.Common.{◌≡◌, take}
use Rattle.gmon_data.proofs.keyed.rebuilt.Given as goal

-- the entries so far are those of the map
abbrev pub invariant-loop-i : goal.invariant-loop-i
invariant-loop-i g l = l.copy.entries ≡ take l.i l.numbers.entries
