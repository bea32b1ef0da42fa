use Rattle.std.proofs.Common.{◌≡◌, ◌<◌, Some, length, map, take}
use Rattle.std.specs.List.{AllByRecursion}
use Rattle.gmon_gnu.specs.Making.{hists_among, placed_entries}
use Rattle.gmon_gnu.proofs.profile.hist_order.Given as goal

abbrev pub invariant-loop-i : goal.invariant-loop-i
invariant-loop-i l = record {
  inside : AllByRecursion (λ p. p.entry < length l.entries) l.order.items;
  all : placed_entries l.entries l.order.items ≡ map Some (hists_among (take l.i l.entries));
}
