use Rattle.std.proofs.Common.{◌≡◌, map}
use Rattle.std.specs.List.{range_with_len}
use Rattle.prof_machine.specs.Start.{first_registers}
use Rattle.prof_machine.proofs.runs.first_harts.Given as goal

abbrev pub invariant-loop-hart : goal.invariant-loop-hart
invariant-loop-hart l = l.list.items ≡ map (first_registers l.entry l.end l.harts) (range_with_len 0 l.hart)
