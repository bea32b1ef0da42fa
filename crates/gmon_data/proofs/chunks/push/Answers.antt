use Rattle.std.proofs.Common.{◌≡◌, ◌-◌, ◌<◌, suc, length, ap, arith}
use Rattle.std.specs.Global.{Vec}
use Rattle.gmon_data.proofs.ChunkLemmas.{last_longer, same_read}
use Rattle.gmon_data.proofs.chunks.push.Goals as goal

pub returns-then-len-lt-CHUNK-clause-chunked : goal.returns-then-len-lt-CHUNK-clause-chunked
returns-then-len-lt-CHUNK-clause-chunked g c =
    let last : suc (c.len-count.result - 1) ≡ length c.args.chunks.now.items = omega (arith, c.len-count.ensures, c.if-count-gt0.true, c.args.chunks.now.ok.0) in
    let same = same_read c.args.chunks.now.items (c.len-count.result - 1) c.index_mut.result.now c.index.result.now (omega (arith, last)) c.index_mut.ensures.value c.index.ensures in
    let room : length c.index_mut.result.now.items < 1024 = omega (arith, c.if-len-lt-CHUNK.true, c.len.ensures, c.index.result.now.ok.0, ap (λ (v : Vec g.row.T.Denot). length v.items) same) in
    (last_longer c.args.chunks.now.items c.args.starts.now.items c.args.len (c.len-count.result - 1) c.index_mut.result.now c.push.new.self c.args.item c.requires.chunked last c.index_mut.ensures.value room c.in_ok-push.ensures.items).0
