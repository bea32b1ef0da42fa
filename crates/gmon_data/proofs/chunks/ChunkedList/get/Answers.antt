use Rattle.std.proofs.Common.{◌<◌, List, length, sym, subst, ◌∙◌, arith}
use Rattle.gmon_data.specs.Chunks.{items_of}
use Rattle.gmon_data.proofs.ChunkLemmas.{below_read, first_start, in_chunk, item_read, rising_starts, start_read}
use Rattle.gmon_data.proofs.chunks.ChunkedList.get.Goals as goal

pub chunk_of-c-requires-clause-first : goal.chunk_of-c-requires-clause-first
chunk_of-c-requires-clause-first g c = grind (arith, first_start)

pub chunk_of-c-requires-clause-rising : goal.chunk_of-c-requires-clause-rising
chunk_of-c-requires-clause-rising g c =
    rising_starts c.self.inside.chunks.items c.as_slice.result.now (c.as_slice.ensures.value ∙ c.self.invariant.placed)

pub index-chunk-requires : goal.index-chunk-requires
index-chunk-requires g c =
    let within : c.args.i < length (items_of c.self.inside.chunks.items) = subst (λ (l : List g.row.T.Denot). c.args.i < length l) (sym c.self.view_is) c.requires in
    let at = in_chunk c.self.inside.chunks.items c.as_slice.result.now c.args.i c.chunk_of-c.result (c.as_slice.ensures.value ∙ c.self.invariant.placed) within c.chunk_of-c.ensures in
    omega (arith, at.inside, c.self.inside.chunks.ok.0)

pub index-requires-2 : goal.index-requires-2
index-requires-2 g c =
    let cs = c.self.inside.chunks.items in
    let within : c.args.i < length (items_of cs) = subst (λ (l : List g.row.T.Denot). c.args.i < length l) (sym c.self.view_is) c.requires in
    let at = in_chunk cs c.as_slice.result.now c.args.i c.chunk_of-c.result (c.as_slice.ensures.value ∙ c.self.invariant.placed) within c.chunk_of-c.ensures in
    grind (arith, start_read, below_read)

pub returns : goal.returns
returns g c =
    let cs = c.self.inside.chunks.items in
    let within : c.args.i < length (items_of cs) = subst (λ (l : List g.row.T.Denot). c.args.i < length l) (sym c.self.view_is) c.requires in
    let at = in_chunk cs c.as_slice.result.now c.args.i c.chunk_of-c.result (c.as_slice.ensures.value ∙ c.self.invariant.placed) within c.chunk_of-c.ensures in
    search (start_read, item_read)
