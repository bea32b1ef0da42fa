use Rattle.std.proofs.Common.{◌-◌, ◌<◌, List, length, set, refl, sym, subst, ap, ◌∙◌, arith}
use Rattle.std.specs.Vec.{with_item}
use Rattle.gmon_data.specs.Chunks.{items_of}
use Rattle.gmon_data.proofs.ChunkLemmas.{below_read, chunked_set, first_start, in_chunk, rising_starts, start_read}
use Rattle.gmon_data.proofs.chunks.ChunkedList.set.Goals as goal

pub chunk_of-c-requires-clause-first : goal.chunk_of-c-requires-clause-first
chunk_of-c-requires-clause-first g c = grind (arith, first_start)

pub chunk_of-c-requires-clause-rising : goal.chunk_of-c-requires-clause-rising
chunk_of-c-requires-clause-rising g c =
    rising_starts c.self.inside.chunks.items c.as_slice.result.now (c.as_slice.ensures.value ∙ c.self.invariant.placed)

pub index_mut-chunk-requires : goal.index_mut-chunk-requires
index_mut-chunk-requires g c =
    let within : c.args.i < length (items_of c.self.inside.chunks.items) = subst (λ (l : List g.row.T.Denot). c.args.i < length l) (sym c.self.view_is) c.requires in
    let at = in_chunk c.self.inside.chunks.items c.as_slice.result.now c.args.i c.chunk_of-c.result (c.as_slice.ensures.value ∙ c.self.invariant.placed) within c.chunk_of-c.ensures in
    omega (arith, at.inside, c.self.inside.chunks.ok.0)

pub index_mut-requires : goal.index_mut-requires
index_mut-requires g c =
    let cs = c.self.inside.chunks.items in
    let within : c.args.i < length (items_of cs) = subst (λ (l : List g.row.T.Denot). c.args.i < length l) (sym c.self.view_is) c.requires in
    let at = in_chunk cs c.as_slice.result.now c.args.i c.chunk_of-c.result (c.as_slice.ensures.value ∙ c.self.invariant.placed) within c.chunk_of-c.ensures in
    grind (arith, start_read, below_read)

pub invariant_of-self : goal.invariant_of-self
invariant_of-self g c =
    let cs = c.self.inside.chunks.items in
    let within : c.args.i < length (items_of cs) = subst (λ (l : List g.row.T.Denot). c.args.i < length l) (sym c.self.view_is) c.requires in
    let at = in_chunk cs c.as_slice.result.now c.args.i c.chunk_of-c.result (c.as_slice.ensures.value ∙ c.self.invariant.placed) within c.chunk_of-c.ensures in
    let start = start_read cs c.self.inside.starts.items c.chunk_of-c.result c.index.result.now c.self.invariant.placed at.inside c.index.ensures in
    let w = c.index_mut-chunk.result.now in
    (chunked_set cs c.self.inside.starts.items c.self.inside.len c.args.i c.chunk_of-c.result c.index.result.now w (with_item w (c.args.i - c.index.result.now) c.args.item) c.args.item c.self.invariant at start c.index_mut-chunk.ensures.value refl).0

pub returns : goal.returns
returns g c =
    let cs = c.self.inside.chunks.items in
    let within : c.args.i < length (items_of cs) = subst (λ (l : List g.row.T.Denot). c.args.i < length l) (sym c.self.view_is) c.requires in
    let at = in_chunk cs c.as_slice.result.now c.args.i c.chunk_of-c.result (c.as_slice.ensures.value ∙ c.self.invariant.placed) within c.chunk_of-c.ensures in
    let start = start_read cs c.self.inside.starts.items c.chunk_of-c.result c.index.result.now c.self.invariant.placed at.inside c.index.ensures in
    let w = c.index_mut-chunk.result.now in
    (chunked_set cs c.self.inside.starts.items c.self.inside.len c.args.i c.chunk_of-c.result c.index.result.now w (with_item w (c.args.i - c.index.result.now) c.args.item) c.args.item c.self.invariant at start c.index_mut-chunk.ensures.value refl).1
    ∙ ap (λ (l : List g.row.T.Denot). set l c.args.i c.args.item) c.self.view_is
