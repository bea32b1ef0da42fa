use Rattle.std.proofs.Common.{nat_le, rules}
use Rattle.std.proofs.lemmas.List.Sorted.{IsPartitionPoint-from_clause}
use Rattle.gmon_data.specs.declared.hist.Hist.{Hist}
use Rattle.gmon_data.proofs.SearchLemmas.{ended_first}
use Rattle.gmon_data.proofs.hists.count_ended.Goals as goal

pub returns-clause-point : goal.returns-clause-point
returns-clause-point c =
    IsPartitionPoint-from_clause (λ (h : Hist). nat_le h.high c.args.address) c.args.hists.now c.partition_point.result c.partition_point.ensures.partitioned (ended_first c.args.hists.now c.args.address c.requires.kept c.requires.apart) (λ a r g q. search rules)
