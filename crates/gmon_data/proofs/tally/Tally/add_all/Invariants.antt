use Rattle.std.proofs.Common.{◌≡◌, map, take}
use Rattle.std.specs.List.{AllByRecursion, IsDistinct}
use Rattle.std.specs.Map.{keys_of}
use Rattle.gmon_data.specs.Tally.{tally_all}
use Rattle.gmon_data.proofs.tally.Tally.add_all.Given as goal

-- the first i are added
abbrev pub invariant-loop-i : goal.invariant-loop-i
invariant-loop-i g l = record {
  added : l.self ≡ tally_all g.K.PartialEq.eq (take l.i (map g.R.Counted.entry_of l.records)) l.fn.self;
  fit : AllByRecursion (λ e. g.R.Counted.key_fits e.0) l.fn.self → AllByRecursion (λ e. g.R.Counted.key_fits e.0) l.self;
  distinct : IsDistinct g.K.PartialEq.eq (keys_of l.self);
}
