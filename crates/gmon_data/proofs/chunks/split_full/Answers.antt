use Rattle.std.proofs.Common.{◌≡◌, ◌+◌, ◌/◌, ◌<◌, List, length, take, drop, get_or, ap, subst, ◌∙◌, arith}
use Rattle.std.specs.Global.{Vec}
use Rattle.std.proofs.lemmas.List.{length-drop, length-take-le}
use Rattle.gmon_data.proofs.ChunkLemmas.{chunk_at, chunk_split, items_before, length-starts, room_made, same_read, start_read}
use Rattle.gmon_data.proofs.chunks.split_full.Goals as goal

pub index-requires-2 : goal.index-requires-2
index-requires-2 g c = grind (arith, length-starts)

pub overflow_add-start : goal.overflow_add-start
overflow_add-start g c = grind (arith, start_read, items_before)

pub insert-requires-2 : goal.insert-requires-2
insert-requires-2 g c = grind (arith, length-starts)

pub returns-clause-chunked : goal.returns-clause-chunked
returns-clause-chunked g c =
    let cs = c.args.chunks.now.items in
    let room = c.in_ok-reserve.ensures.items in
    let room' = c.in_ok-reserve-2.ensures.items in
    let w = c.index.result.now in
    let start = start_read cs c.args.starts.now.items c.args.c c.index-2.result.now c.requires.chunked.placed c.requires.inside c.index-2.ensures in
    let same : c.index_mut.result.now ≡ w = same_read cs c.args.c c.index_mut.result.now w c.requires.inside (subst (λ (l : List (Vec g.row.T.Denot)). c.index_mut.result.now ≡ get_or l c.args.c c.index_mut.result.now) room c.index_mut.ensures.value) c.index.ensures in
    let head = c.in_ok-tail.ensures.items ∙ ap (λ (v : Vec g.row.T.Denot). take (c.len-len.result / 2) v.items) same in
    let tail = c.in_ok-tail.ensures.tail ∙ ap (λ (v : Vec g.row.T.Denot). drop (c.len-len.result / 2) v.items) same in
    let some : 0 < c.len-len.result / 2 = omega (arith, c.if-len-lt-CHUNK.false) in
    let some' : c.len-len.result / 2 < length w.items = omega (arith, c.if-len-lt-CHUNK.false, c.len-len.ensures, w.ok.0) in
    let split = chunk_split cs c.args.starts.now.items _ c.args.c (c.len-len.result / 2) c.index-2.result.now w c.split_off.new.self c.in_ok-tail.tail c.requires.chunked c.requires.inside c.index.ensures some some' head tail start in
    rw (c.in_ok-insert.ensures.items, c.in_ok-insert-2.ensures.items, room, room') split.0

pub returns-clause-unchanged : goal.returns-clause-unchanged
returns-clause-unchanged g c =
    let cs = c.args.chunks.now.items in
    let room = c.in_ok-reserve.ensures.items in
    let w = c.index.result.now in
    let start = start_read cs c.args.starts.now.items c.args.c c.index-2.result.now c.requires.chunked.placed c.requires.inside c.index-2.ensures in
    let same : c.index_mut.result.now ≡ w = same_read cs c.args.c c.index_mut.result.now w c.requires.inside (subst (λ (l : List (Vec g.row.T.Denot)). c.index_mut.result.now ≡ get_or l c.args.c c.index_mut.result.now) room c.index_mut.ensures.value) c.index.ensures in
    let head = c.in_ok-tail.ensures.items ∙ ap (λ (v : Vec g.row.T.Denot). take (c.len-len.result / 2) v.items) same in
    let tail = c.in_ok-tail.ensures.tail ∙ ap (λ (v : Vec g.row.T.Denot). drop (c.len-len.result / 2) v.items) same in
    let some : 0 < c.len-len.result / 2 = omega (arith, c.if-len-lt-CHUNK.false) in
    let some' : c.len-len.result / 2 < length w.items = omega (arith, c.if-len-lt-CHUNK.false, c.len-len.ensures, w.ok.0) in
    let split = chunk_split cs c.args.starts.now.items _ c.args.c (c.len-len.result / 2) c.index-2.result.now w c.split_off.new.self c.in_ok-tail.tail c.requires.chunked c.requires.inside c.index.ensures some some' head tail start in
    rw (c.in_ok-insert.ensures.items, room) split.1

pub returns-clause-room : goal.returns-clause-room
returns-clause-room g c = λ i at.
    let cs = c.args.chunks.now.items in
    let room = c.in_ok-reserve.ensures.items in
    let room' = c.in_ok-reserve-2.ensures.items in
    let w = c.index.result.now in
    let few = (chunk_at cs c.args.c w c.requires.inside c.index.ensures c.requires.chunked.filled).few in
    let same = same_read cs c.args.c c.index_mut.result.now w c.requires.inside (subst (λ (l : List (Vec g.row.T.Denot)). c.index_mut.result.now ≡ get_or l c.args.c c.index_mut.result.now) room c.index_mut.ensures.value) c.index.ensures in
    let long = ap (λ (v : Vec g.row.T.Denot). length v.items) same in
    let head = ap length c.in_ok-tail.ensures.items ∙ length-take-le (c.len-len.result / 2) c.index_mut.result.now.items (omega (arith, long, c.len-len.ensures, w.ok.0)) in
    let tail = ap length c.in_ok-tail.ensures.tail ∙ length-drop (c.len-len.result / 2) c.index_mut.result.now.items in
    let first : length c.split_off.new.self.items < 1024 = omega (arith, head, c.len-len.ensures, w.ok.0, few) in
    let second : length c.in_ok-tail.tail.items < 1024 = omega (arith, tail, long, c.len-len.ensures, w.ok.0, few, c.if-len-lt-CHUNK.false) in
    let starts = ap length c.requires.chunked.placed ∙ length-starts 0 cs in
    rw (c.in_ok-insert.ensures.items, c.in_ok-insert-2.ensures.items, room, room') (room_made cs c.args.starts.now.items i c.args.c (c.index-2.result.now + c.len-len.result / 2) c.split_off.new.self c.in_ok-tail.tail at starts first second)
