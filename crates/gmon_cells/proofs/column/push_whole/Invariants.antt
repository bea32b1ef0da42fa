use Rattle.std.proofs.Common.{◌≡◌, ◌+◌, ◌/◌, ◌<◌, ◌≤◌, ◌++◌, length, vec_len, vec_capacity}
use Rattle.gmon_cells.specs.Cells.{cells_of, torn_of}
use Rattle.gmon_cells.proofs.column.push_whole.Given as goal

abbrev pub invariant-loop-rest : goal.invariant-loop-rest
invariant-loop-rest g l = record {
  width : l.width ≡ g.T.Cell.width;
  some : 0 < g.T.Cell.width;
  cells : l.cells.items ++ cells_of g.T.Cell.width g.T.Cell.cell l.rest ≡ l.fn.cells.items ++ cells_of g.T.Cell.width g.T.Cell.cell l.bytes;
  torn : torn_of g.T.Cell.width l.rest ≡ torn_of g.T.Cell.width l.bytes;
  count : vec_len l.cells + length l.rest / g.T.Cell.width ≡ vec_len l.fn.cells + length l.bytes / g.T.Cell.width;
  capacity : vec_capacity l.cells ≡ vec_capacity l.fn.cells;
  room : vec_len l.cells + length l.rest / g.T.Cell.width ≤ vec_capacity l.cells;
}

abbrev pub decreases-loop-rest : goal.decreases-loop-rest
decreases-loop-rest g l = length l.rest
