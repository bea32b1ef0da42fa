use Rattle.std.proofs.Common.{◌≡◌, [], ◌∷◌, refl}
use Rattle.gmon_data.proofs.ChunkLemmas.{chunk_added}
use Rattle.gmon_data.proofs.chunks.push_chunk.Goals as goal

pub returns-clause-chunked : goal.returns-clause-chunked
returns-clause-chunked g c =
    let one : c.push.new.self.items ≡ c.args.item ∷ [] = rw (c.in_ok-push.ensures.items, c.new-chunk.ensures.items) refl in
    let chunks = c.in_ok-push-3.ensures.items in
    let before = c.in_ok-reserve.ensures.items in
    let starts = c.in_ok-push-2.ensures.items in
    rw (chunks, before, starts) (chunk_added c.args.chunks.now.items c.args.starts.now.items c.args.len c.push.new.self c.args.item c.requires one).0
