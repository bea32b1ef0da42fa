use Rattle.std.proofs.Common.{◌≡◌, ◌+◌, length, arith}
use Rattle.gmon_cells.proofs.CellLemmas.{room_left}
use Rattle.gmon_cells.proofs.column.Column.feed_due.Goals as goal

pub returns-clause-room : goal.returns-clause-room
returns-clause-room g c =
    let mine = c.split_at.result.0.now in
    let rest = c.split_at.result.1.now in
    let all : length mine + length rest ≡ length c.args.piece.now = omega (arith, c.split_at.ensures.front_len, c.split_at.ensures.back_len) in
    let more = rw all at (room_left g.T.Cell.width (length rest) c.args.self.now.torn mine c.feed.new.self.torn c.width-width.ensures.some c.feed.ensures.torn) in
    omega (arith, more, c.requires.room, c.feed.ensures.count, c.feed.ensures.capacity)
