use Rattle.std.proofs.Common.{◌≡◌, ◌+◌, ◌-◌, ◌*◌, ◌++◌, ◌<◌, ◌≤◌, ℕ, List, ap, subst, length, length-append, slice_index, ◌∙◌, arith}
use Rattle.gmon_cells.proofs.CellLemmas.{filled_whole, filled_long}
use Rattle.gmon_gnu.specs.declared.state.Part.{Part}
use Rattle.gmon_gnu.specs.declared.state.Part.TheVariants as part
use Rattle.gmon_gnu.specs.Held.{recs_of, IsPart, IsPartial, width_of}
use Rattle.gmon_gnu.proofs.StateLemmas.{goes_at, follows_front, partial_less}
use Rattle.gmon_gnu.proofs.TakingLemmas.{can_begin}
use Rattle.gmon_gnu.specs.Begun.{arcs_of, cost_of, fields_of}
use Rattle.gmon_gnu.proofs.state.State.take_front.Goals as goal

pub returns : goal.returns
returns c =
    let s = c.args.self.now in
    let piece = c.args.piece.now in
    let front = c.fill-rest.new.self in
    let rest = c.fill-rest.result.now in
    let width = c.width_of-width-2.result in
    let partial : IsPartial s.torn = subst (λ (q : Part). IsPart q (length s.counters.cells.items) (length s.pairs.cells.items) s.torn s.counters.torn s.pairs.torn) c.requires.part c.requires.can.held.at_part in
    let some : 0 < length s.torn = omega (arith, c.if-len-eq0.false, c.len.ensures.len) in
    let width_is : width ≡ width_of (slice_index s.torn 0) = c.width_of-width-2.ensures.width ∙ ap (λ (v : List ℕ). width_of (slice_index v 0)) c.as_slice.ensures in
    let within : length s.torn ≤ width = omega (arith, partial_less s.torn partial some, width_is) in
    let all : width ≤ length front = omega (arith, c.if-len-width.false, c.len-2.ensures.len) in
    let full = filled_long width s.torn front piece within c.fill-rest.ensures.filled all in
    let taken = filled_whole width s.torn front piece rest c.fill-rest.ensures.filled c.fill-rest.ensures.rest in
    let held = c.as_slice-2.ensures in
    let less : length rest < length piece = omega (arith, ap length taken, full, length-append front rest, length-append s.torn piece, partial_less s.torn partial some, width_is) in
    let b = c.front_of-begun in
    let len : length c.as_slice-2.result.now ≡ width = omega (arith, ap length held, full) in
    let arcs : 13 * arcs_of b.result + length rest ≤ length s.torn + length piece = omega (arith, b.ensures.arcs, len, ap length taken, full, length-append front rest, length-append s.torn piece) in
    let fields : 33 * fields_of b.result + length rest ≤ length s.torn + length piece = omega (arith, b.ensures.fields, len, ap length taken, full, length-append front rest, length-append s.torn piece) in
    let entries : 5 * cost_of b.result + length rest ≤ length s.torn + length piece = omega (arith, b.ensures.cost, len, ap length taken, full, length-append front rest, length-append s.torn piece) in
    record {
      ready = can_begin c.args.total piece rest c.clear.new.self b.result s c.begin-2.new.self c.requires.can c.begin-2.ensures.held c.requires.part c.begin-2.ensures.begins (omega (arith, less)) arcs fields entries;
      goes = λ whole long goes.
          let was = goes_at whole s piece part.Between c.requires.part goes in
          let at_is : c.args.total - width - length rest ≡ length whole - length (c.as_slice-2.result.now ++ rest) = omega (arith, long, full, ap length held, length-append c.as_slice-2.result.now rest) in
          c.begin-2.ensures.goes whole rest
          (follows_front whole (recs_of s) c.as_slice-2.result.now rest _ c.front_of-begun.result (c.args.total - width - length rest) (ap (λ (v : List ℕ). v ++ rest) held ∙ taken) at_is c.front_of-begun.ensures.says was);
      less = less;
    }
