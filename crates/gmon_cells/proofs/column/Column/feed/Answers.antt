use Rattle.std.proofs.Common.{◌≡◌, ◌+◌, ◌-◌, ◌<◌, ◌≤◌, ◌++◌, ℕ, List, length, take, drop, ap, ◌∙◌, length-append, length-take, length-drop, arith}
use Rattle.std.proofs.lemmas.List.{append-nil}
use Rattle.gmon_cells.proofs.CellLemmas.{div_less, div_more, torn_short, filled_short, Completed, completed_empty, completed_cell, stands_more}
use Rattle.gmon_cells.proofs.column.Column.feed.Goals as goal
use Rattle.gmon_cells.proofs.column.Column.feed.Goals.{then-len-gt0+else-len-width, else-len-gt0}

pub returns-then-len-width-clause-cells : goal.returns-then-len-width-clause-cells
returns-then-len-width-clause-cells g c = grind (arith, filled_short, append-nil)

pub returns-then-len-width-clause-torn : goal.returns-then-len-width-clause-torn
returns-then-len-width-clause-torn g c = grind (arith, filled_short)

pub put-requires : goal.put-requires
put-requires g c = grind (arith, torn_short)

pub returns-clause-cells : goal.returns-clause-cells
returns-clause-cells g c = grind (arith, completed_cell, completed_empty)

pub returns-clause-torn : goal.returns-clause-torn
returns-clause-torn g c =
    let w = g.T.Cell.width in
    let before = c.args.self.now.cells.items in
    let torn = c.args.self.now.torn in
    let piece = c.args.piece.now in
    let done : Completed w g.T.Cell.cell before c.if-len-gt0.self.cells.items torn piece c.if-len-gt0.self.torn c.if-len-gt0.rest.now =
    elim c.if-len-gt0.branch [
      | then-len-gt0+else-len-width b ↦
          let torn1 = b.fill-rest.new.self in
          let long : w ≤ length torn1 = omega (arith, b.if-len-width.false, b.len-then-len-gt0.ensures.len, c.width-width.ensures.width) in
          completed_cell w g.T.Cell.cell before c.if-len-gt0.self.cells.items b.read.result torn piece torn1 c.if-len-gt0.self.torn c.if-len-gt0.rest.now c.width-width.ensures.some c.requires.torn
          (b.fill-rest.ensures.filled ∙ ap (λ n. torn ++ take (n - length torn) piece) c.width-width.ensures.width)
          (ap (λ r. r.now) b.rest-is ∙ b.fill-rest.ensures.rest ∙ ap (λ n. drop (n - length torn) piece) c.width-width.ensures.width)
          long (b.read.ensures ∙ ap g.T.Cell.cell b.as_slice.ensures) (ap (λ s. s.cells.items) b.self-is ∙ b.push_reserved.ensures.items) (ap (λ s. s.torn) b.self-is ∙ b.clear.ensures)
      | else-len-gt0 b ↦
          completed_empty w g.T.Cell.cell before c.if-len-gt0.self.cells.items torn piece c.if-len-gt0.self.torn c.if-len-gt0.rest.now (omega (arith, b.if-len-gt0.false, c.len.ensures.len))
          (ap (λ s. s.torn) b.self-is) (ap (λ s. s.cells.items) b.self-is) (ap (λ r. r.now) b.rest-is)
    ] in
    c.put.ensures ∙ ap (λ (t : List ℕ). t ++ c.push_whole-rest.result.now) done.none ∙ c.push_whole-rest.ensures.rest ∙ done.left

pub returns-then-len-width-clause-stands : goal.returns-then-len-width-clause-stands
returns-then-len-width-clause-stands g c = search (stands_more, returns-then-len-width-clause-cells, returns-then-len-width-clause-torn)

pub returns-clause-stands : goal.returns-clause-stands
returns-clause-stands g c = search (stands_more, returns-clause-cells, returns-clause-torn)

pub returns-then-len-width-clause-count : goal.returns-then-len-width-clause-count
returns-then-len-width-clause-count g c =
    let w = g.T.Cell.width in
    let torn = c.args.self.now.torn in
    let piece = c.args.piece.now in
    let filled = c.fill-rest.ensures.filled ∙ ap (λ n. torn ++ take (n - length torn) piece) c.width-width.ensures.width in
    let short : length c.fill-rest.new.self < w = omega (arith, c.if-len-width.true, c.len-then-len-gt0.ensures.len, c.width-width.ensures.width) in
    let all : length c.fill-rest.new.self ≡ length torn + length piece = ap length (filled_short w torn c.fill-rest.new.self piece filled short) ∙ length-append torn piece in
    omega (arith, div_less (length torn + length piece) w (omega (arith, all, short)))

pub returns-then-len-width-clause-short : goal.returns-then-len-width-clause-short
returns-then-len-width-clause-short g c = omega (arith, c.if-len-width.true, c.len-then-len-gt0.ensures.len, c.width-width.ensures.width)

pub returns-clause-short : goal.returns-clause-short
returns-clause-short g c = search (torn_short, returns-clause-torn)

pub returns-clause-capacity : goal.returns-clause-capacity
returns-clause-capacity g c = grind arith

pub returns-clause-count : goal.returns-clause-count
returns-clause-count g c = grind (arith, length-drop, length-append, length-take, div_more)
