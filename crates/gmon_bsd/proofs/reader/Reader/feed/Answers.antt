use Rattle.std.proofs.Common.{◌≡◌, ◌≤◌, ◌++◌, ℕ, List, length, take, drop, length-append, ap, ◌∙◌, arith}
use Rattle.gp_base.specs.Bytes.{value_of}
use Rattle.gp_base.specs.Fields.{arc_of}
use Rattle.gmon_cells.proofs.CellLemmas.{IsBytes-append}
use Rattle.gmon_bsd.specs.Fed.{counter_part, arc_part}
use Rattle.gmon_bsd.proofs.FedLemmas.{fed_parts, column_on}
use Rattle.gmon_bsd.proofs.WholeFile.{seen_as}
use Rattle.gmon_bsd.proofs.reader.Reader.feed.Goals as goal

pub returns-clause-stands : goal.returns-clause-stands
returns-clause-stands c = λ bytes stands.
    let inside = c.self.inside in
    let piece = c.args.piece.now in
    let s = seen_as c.self.view_is stands in
    let before : c.put.new.self ≡ inside.header = c.put.ensures ∙ ap (λ (v : List ℕ). v ++ c.as_slice.result.now) c.new-header.ensures ∙ c.as_slice.ensures in
    let len = s.len in
    let first : length bytes ≤ 32 → c.max-at.result ≡ 32 = λ (short : length bytes ≤ 32). omega (arith, c.max-at.ensures, len, short) in
    let later : 32 ≤ length bytes → c.max-at.result ≡ length bytes = λ (long : 32 ≤ length bytes). omega (arith, c.max-at.ensures, len, long) in
    let g = fed_parts bytes piece c.put.new.self c.fill-body.new.self c.fill-body.result.now c.max-at.result (before ∙ s.header) c.fill-body.ensures.filled c.fill-body.ensures.rest first later in
    record {
      are_bytes = IsBytes-append bytes piece s.are_bytes (λ i. omega (arith, c.type_inv.piece i));
      len = omega (arith, s.len, length-append bytes piece);
      header = g.header_is;
      counters = column_on 2 value_of (counter_part (take 32 bytes) 32 (drop 32 bytes)) c.parts.result.0.now (counter_part c.fill-body.new.self c.max-at.result c.fill-body.result.now) _
          inside.counters.cells.items c.reserve.new.self.cells.items inside.counters.torn c.reserve.new.self.torn _ _
          s.counters c.in_ok-reserve.ensures.cells c.in_ok-reserve.ensures.torn (c.parts.ensures.counters ∙ ap (λ (v : List ℕ). counter_part v c.max-at.result c.fill-body.result.now) c.as_slice-2.ensures) g.counters c.feed.ensures.stands;
      arcs = column_on 12 arc_of (arc_part (take 32 bytes) 32 (drop 32 bytes)) c.parts.result.1.now (arc_part c.fill-body.new.self c.max-at.result c.fill-body.result.now) _
          inside.arcs.cells.items c.reserve-2.new.self.cells.items inside.arcs.torn c.reserve-2.new.self.torn _ _
          s.arcs c.in_ok-reserve-2.ensures.cells c.in_ok-reserve-2.ensures.torn (c.parts.ensures.arcs ∙ ap (λ (v : List ℕ). arc_part v c.max-at.result c.fill-body.result.now) c.as_slice-2.ensures) g.arcs c.feed-2.ensures.stands;
    }
