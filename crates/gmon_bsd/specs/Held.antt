-- How a reader holds what it has kept.
-- Only private functions and invariants speak of it.
use Rattle.std.specs.Prelude.{◌≤◌, length}
use Rattle.gmon_bsd.specs.declared.reader.Reader.TheInside.{Inside}
use Rattle.gmon_bsd.specs.Fed.{Kept}

abbrev pub view_of : Inside → Kept
view_of r = record { len = r.len; header = r.header; counters = r.counters.cells.items; half = r.counters.torn; arcs = r.arcs.cells.items; torn = r.arcs.torn }

pub record IsHeld (r : Inside) : Type 0 where
  pub header : length r.header ≤ 32
  pub half : length r.counters.torn ≤ 2
  pub torn : length r.arcs.torn ≤ 12
