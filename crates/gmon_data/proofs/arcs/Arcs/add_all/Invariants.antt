use Rattle.std.proofs.Common.{◌≡◌, take}
use Rattle.std.specs.List.{AllByRecursion, IsDistinct}
use Rattle.std.specs.Map.{keys_of}
use Rattle.gmon_data.specs.Arcs.{entries_of}
use Rattle.gmon_data.specs.Content.{same_ends, PairFits}
use Rattle.gmon_data.specs.Tally.{tally_all}
use Rattle.gmon_data.proofs.arcs.Arcs.add_all.Given as goal

-- the first ones are added
abbrev pub invariant-loop-arc : goal.invariant-loop-arc
invariant-loop-arc l = record {
  added : l.self ≡ tally_all same_ends (take l.arc-index (entries_of l.arcs)) l.fn.self;
  fit : AllByRecursion PairFits l.fn.self → AllByRecursion PairFits l.self;
  distinct : IsDistinct same_ends (keys_of l.self);
}
