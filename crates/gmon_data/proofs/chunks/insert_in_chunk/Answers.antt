use Rattle.std.proofs.Common.{◌<◌, ℕ, List, length, subst, sym, ◌∙◌, arith}
use Rattle.std.specs.Global.{Vec}
use Rattle.std.proofs.lemmas.Result.{err_from_is_err_and}
use Rattle.gmon_data.specs.Chunks.{IsChunkOf}
use Rattle.gmon_data.proofs.ChunkLemmas.{below_read, chunk_longer, chunked_same, first_start, in_chunk, rising_starts, start_below, start_read}
use Rattle.gmon_data.proofs.chunks.insert_in_chunk.Goals as goal

pub chunk_of-c-requires-clause-first : goal.chunk_of-c-requires-clause-first
chunk_of-c-requires-clause-first g c = grind (arith, first_start)

pub chunk_of-c-requires-clause-rising : goal.chunk_of-c-requires-clause-rising
chunk_of-c-requires-clause-rising g c =
    rising_starts c.args.chunks.now.items c.as_slice.result.now (c.as_slice.ensures.value ∙ c.requires.chunked.placed)

pub index_mut-requires : goal.index_mut-requires
index_mut-requires g c =
    let at = in_chunk c.args.chunks.now.items c.as_slice.result.now c.args.i c.chunk_of-c.result (c.as_slice.ensures.value ∙ c.requires.chunked.placed) c.requires.inside c.chunk_of-c.ensures in
    omega (arith, at.inside, c.args.chunks.now.ok.0)

pub insert-requires : goal.insert-requires
insert-requires g c =
    let cs = c.args.chunks.now.items in
    let at = in_chunk cs c.as_slice.result.now c.args.i c.chunk_of-c.result (c.as_slice.ensures.value ∙ c.requires.chunked.placed) c.requires.inside c.chunk_of-c.ensures in
    let start = start_read cs c.args.starts.now.items c.chunk_of-c.result c.index.result.now c.requires.chunked.placed at.inside c.index.ensures in
    let w = c.index_mut.result.now in
    omega (arith, below_read cs c.args.i c.chunk_of-c.result c.index.result.now w at start c.index_mut.ensures.value, w.ok.0)

pub returns-in_err-insert-clause-still : goal.returns-in_err-insert-clause-still
returns-in_err-insert-clause-still g c =
    let p = err_from_is_err_and c.from_residual.result c.from_residual.ensures.1 in
    let cs = c.args.chunks.now.items in
    let at = in_chunk cs c.as_slice.result.now c.args.i c.chunk_of-c.result (c.as_slice.ensures.value ∙ c.requires.chunked.placed) c.requires.inside c.chunk_of-c.ensures in
    rw p.1 (chunked_same cs c.args.starts.now.items _ c.chunk_of-c.result c.index_mut.result.now c.insert.new.self c.requires.chunked at.inside c.index_mut.ensures.value c.in_err-insert.ensures.items).0

pub returns-in_err-insert-clause-unchanged : goal.returns-in_err-insert-clause-unchanged
returns-in_err-insert-clause-unchanged g c =
    let p = err_from_is_err_and c.from_residual.result c.from_residual.ensures.1 in
    let cs = c.args.chunks.now.items in
    let at = in_chunk cs c.as_slice.result.now c.args.i c.chunk_of-c.result (c.as_slice.ensures.value ∙ c.requires.chunked.placed) c.requires.inside c.chunk_of-c.ensures in
    rw p.1 (chunked_same cs c.args.starts.now.items _ c.chunk_of-c.result c.index_mut.result.now c.insert.new.self c.requires.chunked at.inside c.index_mut.ensures.value c.in_err-insert.ensures.items).1

pub bump-requires : goal.bump-requires
bump-requires g c = λ k lt. omega (arith, start_below c.args.chunks.now.items c.args.starts.now.items k c.requires.chunked.placed lt, c.requires.fits)

pub returns-clause-chunked : goal.returns-clause-chunked
returns-clause-chunked g c =
    let cs = c.args.chunks.now.items in
    let at = in_chunk cs c.as_slice.result.now c.args.i c.chunk_of-c.result (c.as_slice.ensures.value ∙ c.requires.chunked.placed) c.requires.inside c.chunk_of-c.ensures in
    let start = start_read cs c.args.starts.now.items c.chunk_of-c.result c.index.result.now c.requires.chunked.placed at.inside c.index.ensures in
    let of : IsChunkOf c.args.starts.now.items c.args.i c.chunk_of-c.result = subst (λ (s : List ℕ). IsChunkOf s c.args.i c.chunk_of-c.result) c.as_slice.ensures.value c.chunk_of-c.ensures in
    let room = subst (λ (v : Vec g.row.T.Denot). length v.items < 1024) (sym c.index_mut.ensures.value) (c.requires.room c.chunk_of-c.result c.index_mut.result.now of) in
    rw c.bump.ensures (chunk_longer cs c.args.starts.now.items _ c.args.i c.chunk_of-c.result c.index.result.now c.index_mut.result.now c.insert.new.self c.args.item c.requires.chunked at start c.index_mut.ensures.value room c.in_ok-insert.ensures.items).0

pub returns-clause-added : goal.returns-clause-added
returns-clause-added g c =
    let cs = c.args.chunks.now.items in
    let at = in_chunk cs c.as_slice.result.now c.args.i c.chunk_of-c.result (c.as_slice.ensures.value ∙ c.requires.chunked.placed) c.requires.inside c.chunk_of-c.ensures in
    let start = start_read cs c.args.starts.now.items c.chunk_of-c.result c.index.result.now c.requires.chunked.placed at.inside c.index.ensures in
    let of : IsChunkOf c.args.starts.now.items c.args.i c.chunk_of-c.result = subst (λ (s : List ℕ). IsChunkOf s c.args.i c.chunk_of-c.result) c.as_slice.ensures.value c.chunk_of-c.ensures in
    let room = subst (λ (v : Vec g.row.T.Denot). length v.items < 1024) (sym c.index_mut.ensures.value) (c.requires.room c.chunk_of-c.result c.index_mut.result.now of) in
    (chunk_longer cs c.args.starts.now.items _ c.args.i c.chunk_of-c.result c.index.result.now c.index_mut.result.now c.insert.new.self c.args.item c.requires.chunked at start c.index_mut.ensures.value room c.in_ok-insert.ensures.items).1
