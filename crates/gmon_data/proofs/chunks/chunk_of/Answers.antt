use Rattle.std.proofs.Common.{◌≡◌, ℕ, ◌-◌, ◌≤◌, List, length, nat_le, true, false, slice_get, Some, arith, rules}
use Rattle.std.proofs.lemmas.Option.{get_or_from_slice_get, slice_get_within}
use Rattle.std.specs.List.Sorted.{IsPartitionPoint}
use Rattle.std.proofs.lemmas.List.Sorted.{IsPartitionPoint-from_clause, IsPartitionedBy-leb}
use Rattle.gmon_data.specs.Chunks.{IsChunkOf}
use Rattle.gmon_data.proofs.chunks.chunk_of.Goals as goal

module _ (starts : List ℕ) (i : ℕ) (first : slice_get starts 0 ≡ Some 0) where
  some_start : (r : ℕ) → IsPartitionPoint (λ (s : ℕ). nat_le s i ≡ true) (λ (s : ℕ). nat_le s i ≡ false) starts r → 1 ≤ r
  some_start r point = grind (arith, slice_get_within, get_or_from_slice_get)

  last_start : (r : ℕ) → r ≤ length starts → IsPartitionPoint (λ (s : ℕ). nat_le s i ≡ true) (λ (s : ℕ). nat_le s i ≡ false) starts r → IsChunkOf starts i (r - 1)
  last_start r bound point = grind (arith, some_start r point)

pub overflow_sub-result : goal.overflow_sub-result
overflow_sub-result c =
    some_start c.args.starts.now c.args.i c.requires.first c.partition_point.result
    (IsPartitionPoint-from_clause (λ (s : ℕ). nat_le s c.args.i) c.args.starts.now c.partition_point.result c.partition_point.ensures.partitioned (IsPartitionedBy-leb (λ (s : ℕ). s) c.args.starts.now c.args.i c.requires.rising) (λ a r g q. search rules))

pub returns : goal.returns
returns c =
    last_start c.args.starts.now c.args.i c.requires.first c.partition_point.result c.partition_point.ensures.bound
    (IsPartitionPoint-from_clause (λ (s : ℕ). nat_le s c.args.i) c.args.starts.now c.partition_point.result c.partition_point.ensures.partitioned (IsPartitionedBy-leb (λ (s : ℕ). s) c.args.starts.now c.args.i c.requires.rising) (λ a r g q. search rules))
