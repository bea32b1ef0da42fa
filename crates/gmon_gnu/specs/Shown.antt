-- How a reader holds what it has kept.
use Rattle.std.specs.Prelude.{◌<◌, ◌^◌}
use Rattle.gmon_gnu.specs.declared.reader.Reader.TheInside.{Inside}
use Rattle.gmon_gnu.specs.Fed.{Kept}
use Rattle.gmon_gnu.specs.Held.{AreFew, IsHeld, recs_of, open_of, rest_of}

abbrev pub view_of : Inside → Kept
view_of r = record {
  len = r.len;
  recs = recs_of r.state;
  open_now = open_of r.state.part r.state.counters.cells.items r.state.pairs.cells.items;
  rest = rest_of r.state.part r.state.torn r.state.counters.torn r.state.pairs.torn;
}

pub record IsKept (r : Inside) : Type 0 where
  pub held : IsHeld r.state
  pub few : AreFew r.len 0 r.state
  pub small : r.len < 2 ^ 32
