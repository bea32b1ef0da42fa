use Rattle.std.proofs.Common.{◌≡◌, ◌+◌, ◌++◌, length, length-append, sym, arith}
use Rattle.std.proofs.lemmas.List.{append-nil}
use Rattle.gmon_gnu.specs.Shown.{view_of}
use Rattle.gmon_gnu.specs.Held.{Goes, recs_of, open_of, rest_of}
use Rattle.gmon_gnu.proofs.GoingLemmas.{reads_more}
use Rattle.gmon_gnu.proofs.StateLemmas.{goes_moved, reads_rest}
use Rattle.gmon_cells.proofs.CellLemmas.{IsBytes-append}
use Rattle.gmon_gnu.proofs.FedLemmas.{seen_as}
use Rattle.gmon_gnu.proofs.reader.Reader.feed.Goals as goal

pub returns-clause-stands : goal.returns-clause-stands
returns-clause-stands c = λ bytes stands.
    let kept = view_of c.self.inside in
    let piece = c.args.piece.now in
    let whole = bytes ++ piece in
    let s = seen_as c.self.view_is stands in
    let len = s.len in
    let before : Goes whole c.self.inside.state piece = reads_more bytes piece kept.recs kept.open_now kept.rest s.reads in
    let now = goes_moved whole piece c.self.inside.state c.reserve.new.self c.in_ok-reserve.ensures.same before in
    let total : length whole ≡ c.self.inside.len + length piece = omega (arith, len, length-append bytes piece) in
    let n = c.take.new.self in
    let after = c.take.ensures.goes whole total now in
    record {
      are_bytes = IsBytes-append bytes piece s.are_bytes (λ i. omega (arith, c.type_inv.piece i));
      len = sym total;
      reads = reads_rest whole (recs_of n) (open_of n.part n.counters.cells.items n.pairs.cells.items) _ (rest_of n.part n.torn n.counters.torn n.pairs.torn) (append-nil (rest_of n.part n.torn n.counters.torn n.pairs.torn)) after;
    }
