use Rattle.call_cycles.proofs.LevelLemmas.{AreLevelsOf}
use Rattle.std.proofs.Common.{length}
use Rattle.call_cycles.proofs.level.levels.Given as goal

abbrev pub invariant-loop-f : goal.invariant-loop-f
invariant-loop-f l = AreLevelsOf (length l.leaders) l.arcs l.leaders l.ranking.order.items l.f-index l.levels.items
