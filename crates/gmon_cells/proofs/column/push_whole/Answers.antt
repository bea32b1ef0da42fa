use Rattle.std.proofs.Common.{◌≤◌, length, take, drop, ap, ◌∙◌, arith}
use Rattle.std.proofs.lemmas.List.{append-nil}
use Rattle.gmon_cells.proofs.CellLemmas.{cells_none, torn_whole, take_cell, take_torn, take_count}
use Rattle.gmon_cells.proofs.column.push_whole.Goals as goal

pub loop-rest-preserved : goal.loop-rest-preserved
loop-rest-preserved g c =
    let w = g.T.Cell.width in
    let was = c.loop-rest.invariant in
    let rest = c.loop-rest.rest.now in
    let after = c.split_at.result.1.now in
    let long : w ≤ length rest = omega (arith, c.loop-rest-test.true, was.width) in
    let front = c.split_at.ensures.front ∙ ap (λ n. take n rest) was.width in
    let back = c.split_at.ensures.back ∙ ap (λ n. drop n rest) was.width in
    let count = take_count w rest after was.some long back in
    record {
      width = was.width;
      some = was.some;
      cells = rw c.push_reserved.ensures.items (take_cell w g.T.Cell.cell c.loop-rest.cells.items _ c.read.result rest c.split_at.result.0.now after was.some long front back c.read.ensures was.cells);
      torn = take_torn w rest after _ was.some long back was.torn;
      count = omega (arith, count, was.count, c.push_reserved.ensures.len);
      capacity = c.push_reserved.ensures.capacity ∙ was.capacity;
      room = omega (arith, count, was.room, c.push_reserved.ensures.len, c.push_reserved.ensures.capacity);
    }

pub returns-clause-cells : goal.returns-clause-cells
returns-clause-cells g c = grind (arith, append-nil, cells_none)

pub returns-clause-rest : goal.returns-clause-rest
returns-clause-rest g c = grind (arith, torn_whole)

pub returns-clause-count : goal.returns-clause-count
returns-clause-count g c = grind arith
