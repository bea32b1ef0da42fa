use Rattle.std.proofs.Common.{◌-◌, ◌*◌, ap, length, refl, take, arith}
use Rattle.gmon_gnu.specs.declared.state.Part.TheVariants as part
use Rattle.gmon_gnu.specs.declared.state.State.{State}
use Rattle.gmon_gnu.specs.Held.{pending_entries, pending_fields}
use Rattle.gmon_gnu.proofs.StateLemmas.{goes_at, pairs_came}
use Rattle.gmon_gnu.proofs.TakingLemmas.{can_go_on, few_less, room_less}
use Rattle.gmon_gnu.proofs.state.State.take_pairs.Goals as goal

pub returns : goal.returns
returns c =
    let s = c.args.self.now in
    let piece = c.args.piece.now in
    let rest = c.feed_due-came.result.1.now in
    let fed_is = c.feed_due-came.ensures in
    let less = fed_is.less c.requires.some in
    let fed : State = record s { pairs = c.feed_due-came.new.self } in
    let room = room_less (length piece) (length rest) s less c.requires.can.room in
    let few = few_less c.args.total (length piece) (length rest) s less c.requires.can.few in
    let n = c.args.left * 8 - length s.pairs.torn in
    record {
      ready = can_go_on c.args.total _ rest fed c.go_on_blocks.new.self c.go_on_blocks.ensures.held (record { counters = room.counters; pairs = fed_is.room; arcs = room.arcs; fields = room.fields; entries = room.entries }) (record { counters = few.counters; pairs = omega (arith, c.requires.can.few.pairs, fed_is.fewer); arcs = few.arcs; fields = few.fields; entries = few.entries }) (ap pending_entries c.requires.part.at_part) (ap pending_fields c.requires.part.at_part) c.go_on_blocks.ensures.ends;
      goes = λ whole long goes.
          c.go_on_blocks.ensures.goes whole rest
          (pairs_came whole s.fields.items s.counters.cells.items s.pairs.cells.items fed.pairs.cells.items s.arcs.items s.entries.items s.run n c.args.start c.args.left c.feed_due-came.result.0 s.pairs.torn fed.pairs.torn piece (take n piece) rest
          c.requires.can.held.spans c.requires.part.pairs.within fed_is.cells fed_is.torn refl fed_is.rest fed_is.came fed_is.few (goes_at whole s piece (part.Blocks c.args.start c.args.left) c.requires.part.at_part goes));
      less = less;
    }
