use Rattle.std.proofs.Common.{◌-◌, ◌*◌, ap, length, refl, take, arith}
use Rattle.gmon_gnu.specs.declared.state.Part.TheVariants as part
use Rattle.gmon_gnu.specs.declared.state.State.{State}
use Rattle.gmon_gnu.specs.Held.{pending_entries, pending_fields}
use Rattle.gmon_gnu.proofs.StateLemmas.{goes_at, counters_came}
use Rattle.gmon_gnu.proofs.TakingLemmas.{can_go_on, few_less, room_less}
use Rattle.gmon_gnu.proofs.state.State.take_counters.Goals as goal

pub returns : goal.returns
returns c =
    let s = c.args.self.now in
    let piece = c.args.piece.now in
    let rest = c.feed_due-came.result.1.now in
    let fed_is = c.feed_due-came.ensures in
    let less = fed_is.less c.requires.some in
    let fed : State = record s { counters = c.feed_due-came.new.self } in
    let room = room_less (length piece) (length rest) s less c.requires.can.room in
    let few = few_less c.args.total (length piece) (length rest) s less c.requires.can.few in
    let n = c.args.left * 2 - length s.counters.torn in
    record {
      ready = can_go_on c.args.total _ rest fed c.go_on_hist.new.self c.go_on_hist.ensures.held (record { counters = fed_is.room; pairs = room.pairs; arcs = room.arcs; fields = room.fields; entries = room.entries }) (record { counters = omega (arith, c.requires.can.few.counters, fed_is.fewer); pairs = few.pairs; arcs = few.arcs; fields = few.fields; entries = few.entries }) (ap pending_entries c.requires.part.at_part) (ap pending_fields c.requires.part.at_part) c.go_on_hist.ensures.ends;
      goes = λ whole long goes.
          c.go_on_hist.ensures.goes whole rest
          (counters_came whole s.fields.items s.counters.cells.items fed.counters.cells.items s.pairs.cells.items s.arcs.items s.entries.items s.run c.args.fields n c.args.start c.args.left c.feed_due-came.result.0 s.counters.torn fed.counters.torn piece (take n piece) rest
          c.requires.can.held.spans c.requires.part.counters.within fed_is.cells fed_is.torn refl fed_is.rest fed_is.came fed_is.few (goes_at whole s piece (part.Hist c.args.fields c.args.start c.args.left) c.requires.part.at_part goes));
      less = less;
    }
