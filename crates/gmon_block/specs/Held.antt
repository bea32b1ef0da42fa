-- What a block's fields stand for, and what is true of them.
use Rattle.std.specs.Prelude.{◌≡◌, ◌+◌, ◌*◌, ◌≤◌, length}
use Rattle.gmon_block.specs.declared.block.Block.TheInside.{Inside}
use Rattle.gmon_block.specs.Layout.{Parts, Fits, layout_of}
use Rattle.gmon_block.specs.View.{parts_of}

abbrev pub view_of : Inside → Parts
view_of a = parts_of a.tos a.counters a.froms a.raw

-- the bytes are the lists' layout, with nothing between them and nothing after them
pub record IsHeld (a : Inside) : Type 0 where
  pub laid : layout_of (view_of a) ≡ a.raw
  pub size : length a.raw ≡ 12 * a.tos + (2 * a.counters + 2 * a.froms)
  pub fits : Fits (view_of a)
  pub entries : a.tos ≤ 65534
  pub words : a.counters ≤ 4194312
  pub slots : a.froms ≤ 4194312
