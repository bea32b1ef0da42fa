use Rattle.std.proofs.Common.{◌≡◌, ℕ, ◌+◌, ◌-◌, ◌/◌, ◌<◌, ◌≤◌, true, false, List, length, refl, sym, subst, ap, ◌∙◌, arith, of_calls}
use Rattle.std.proofs.lemmas.Fn.{called}
use Rattle.std.specs.List.Sorted.{IsPartitionedBy, IsPartitionPoint}
use Rattle.gmon_data.specs.Chunks.{items_of}
use Rattle.gmon_data.proofs.ChunkLemmas.{chunk_at, length-starts, start_read}
use Rattle.gmon_data.proofs.PointLemmas.{IsHalved, answers_next, chunk_within, halved_none, halved_true, halved_false, parted_chunk, point_at, some_chunk}
use Rattle.gmon_data.proofs.chunks.ChunkedList.partition_point.Goals as goal
use Rattle.gmon_data.proofs.chunks.ChunkedList.partition_point.Goals.{then-pred, else-pred}

pub loop-size-init : goal.loop-size-init
loop-size-init g c =
    let some-item : 0 < length (items_of c.self.inside.chunks.items) = omega (arith, c.if-self-eq0.false, c.self.invariant.counted) in
    let some : 0 < c.len-size.result = omega (arith, some_chunk c.self.inside.chunks.items some-item, c.len-size.ensures, c.self.inside.chunks.ok.0) in
    (some, omega (arith, c.len-size.ensures, c.self.inside.chunks.ok.0), search of_calls, λ p h. (h, halved_none p c.self.inside.chunks.items c.len-size.result (omega (arith, c.len-size.ensures, c.self.inside.chunks.ok.0))))

pub loop-size-preserved : goal.loop-size-preserved
loop-size-preserved g c =
    let cs = c.self.inside.chunks.items in
    let base = c.loop-size.base in
    let size = c.loop-size.size in
    let mid = base + size / 2 in
    let w = c.index-chunk.result.now in
    let lt : mid < length cs = omega (arith, c.loop-size-test.true, c.loop-size.invariant.1) in
    let some = (chunk_at cs mid w lt c.index-chunk.ensures c.self.invariant.filled).some in
    let k = called g.P.FnMut c.pred.ensures refl in
    elim c.if-pred.branch [
      | then-pred t ↦ (
        omega arith,
        omega (arith, c.loop-size.invariant.1, t.base-is),
        search of_calls,
        λ p h.
            let i = c.loop-size.invariant.3 p h in
            let n = answers_next g.P.FnMut _ _ _ _ k i.0 in
            (n.1, subst (λ (b : ℕ). IsHalved p cs b (size - size / 2)) (sym t.base-is) (halved_true p cs base size mid (size - size / 2) w c.index.result.now (omega arith) lt c.index-chunk.ensures some c.index.ensures (sym n.0 ∙ t.if-pred.true) i.1)),
      )
      | else-pred t ↦ (
        omega arith,
        omega (arith, c.loop-size.invariant.1, t.base-is),
        search of_calls,
        λ p h.
            let i = c.loop-size.invariant.3 p h in
            let n = answers_next g.P.FnMut _ _ _ _ k i.0 in
            (n.1, subst (λ (b : ℕ). IsHalved p cs b (size - size / 2)) (sym t.base-is) (halved_false p cs base size mid (size - size / 2) w c.index.result.now (omega arith) lt c.index-chunk.ensures some c.index.ensures (sym n.0 ∙ t.if-pred.false) i.1)),
      )
    ]

pub index-requires-2 : goal.index-requires-2
index-requires-2 g c = grind (arith, length-starts)

pub overflow_add-result : goal.overflow_add-result
overflow_add-result g c = grind (arith, start_read, chunk_within)

pub returns-clause-bound : goal.returns-clause-bound
returns-clause-bound g c = grind (arith, start_read, chunk_within)

pub returns-clause-partitioned : goal.returns-clause-partitioned
returns-clause-partitioned g c = λ p h parted.
    let cs = c.self.inside.chunks.items in
    let base = c.loop-size.base in
    let w = c.index-chunk-2.result.now in
    let r = c.partition_point.result in
    let lt : base < length cs = omega (arith, c.loop-size.invariant.0, c.loop-size.invariant.1) in
    let start = start_read cs c.self.inside.starts.items base c.index-2.result.now c.self.invariant.placed lt c.index-2.ensures in
    let i = c.loop-size.invariant.3 p h in
    let parted' : IsPartitionedBy p (items_of cs) = subst (λ (l : List g.row.T.Denot). IsPartitionedBy p l) (sym c.self.view_is) parted in
    let parted-w = parted_chunk p cs base w lt c.index-chunk-2.ensures parted' in
    let parted-slice : IsPartitionedBy p c.deref.result.now = subst (λ (l : List g.row.T.Denot). IsPartitionedBy p l) (sym c.deref.ensures.value) parted-w in
    let point = c.partition_point.ensures.partitioned p i.0 parted-slice in
    let point-w : IsPartitionPoint (λ (y : g.row.T.Denot). p y ≡ true) (λ (y : g.row.T.Denot). p y ≡ false) w.items r = subst (λ (l : List g.row.T.Denot). IsPartitionPoint (λ (y : g.row.T.Denot). p y ≡ true) (λ (y : g.row.T.Denot). p y ≡ false) l r) c.deref.ensures.value point in
    let bound : r ≤ length w.items = omega (arith, c.partition_point.ensures.bound, ap length c.deref.ensures.value) in
    let whole = point_at p cs base c.loop-size.size r w c.loop-size-test.false lt c.index-chunk-2.ensures bound i.1 point-w parted' in
    let whole' : IsPartitionPoint (λ (y : g.row.T.Denot). p y ≡ true) (λ (y : g.row.T.Denot). p y ≡ false) (items_of cs) (c.index-2.result.now + r) = subst (λ (n : ℕ). IsPartitionPoint (λ (y : g.row.T.Denot). p y ≡ true) (λ (y : g.row.T.Denot). p y ≡ false) (items_of cs) (n + r)) (sym start) whole in
    subst (λ (l : List g.row.T.Denot). IsPartitionPoint (λ (y : g.row.T.Denot). p y ≡ true) (λ (y : g.row.T.Denot). p y ≡ false) l (c.index-2.result.now + r)) c.self.view_is whole'
