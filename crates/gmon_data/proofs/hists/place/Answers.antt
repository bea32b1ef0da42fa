use Rattle.std.proofs.Common.{nat_lt, rules}
use Rattle.std.proofs.lemmas.List.Sorted.{IsPartitionPoint-from_clause}
use Rattle.gmon_data.specs.declared.hist.Hist.{Hist}
use Rattle.gmon_data.proofs.SearchLemmas.{lower_first, point_is_place}
use Rattle.gmon_data.proofs.hists.place.Goals as goal

pub returns : goal.returns
returns c =
    point_is_place c.args.hists.now c.args.low c.partition_point.result c.partition_point.ensures.bound
    (IsPartitionPoint-from_clause (λ (h : Hist). nat_lt h.low c.args.low) c.args.hists.now c.partition_point.result c.partition_point.ensures.partitioned (lower_first c.args.hists.now c.args.low c.requires.kept c.requires.apart) (λ a r g q. search rules))
