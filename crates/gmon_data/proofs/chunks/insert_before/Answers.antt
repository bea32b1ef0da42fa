use Rattle.std.proofs.Common.{ℕ, List, subst, ◌∙◌}
use Rattle.gmon_data.specs.Chunks.{IsChunkOf}
use Rattle.gmon_data.proofs.ChunkLemmas.{first_start, in_chunk, rising_starts}
use Rattle.gmon_data.proofs.chunks.insert_before.Goals as goal

pub chunk_of-c-requires-clause-first : goal.chunk_of-c-requires-clause-first
chunk_of-c-requires-clause-first g c =
    first_start c.args.chunks.now.items c.as_slice.result.now c.args.i (c.as_slice.ensures.value ∙ c.requires.chunked.placed) c.requires.inside

pub chunk_of-c-requires-clause-rising : goal.chunk_of-c-requires-clause-rising
chunk_of-c-requires-clause-rising g c =
    rising_starts c.args.chunks.now.items c.as_slice.result.now (c.as_slice.ensures.value ∙ c.requires.chunked.placed)

pub split_full-requires-clause-inside : goal.split_full-requires-clause-inside
split_full-requires-clause-inside g c =
    (in_chunk c.args.chunks.now.items c.as_slice.result.now c.args.i c.chunk_of-c.result (c.as_slice.ensures.value ∙ c.requires.chunked.placed) c.requires.inside c.chunk_of-c.ensures).inside

pub insert_in_chunk-requires-clause-room : goal.insert_in_chunk-requires-clause-room
insert_in_chunk-requires-clause-room g c =
    c.in_ok-split_full.ensures.room c.args.i (subst (λ (s : List ℕ). IsChunkOf s c.args.i c.chunk_of-c.result) c.as_slice.ensures.value c.chunk_of-c.ensures)
