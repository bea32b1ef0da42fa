-- The arcs that an iterator has left to give.
use Rattle.std.specs.Prelude.{◌≡◌, ℕ, ◌+◌, ◌-◌, ◌<◌, ◌≤◌, List, ◌++◌, length, map, slice_index, slice_get, flat_map}
use Rattle.std.specs.List.{range_with_len}
use Rattle.gp_base.specs.declared.records.RawArc.{RawArc}
use Rattle.mcount_arcs.specs.declared.arcs.Arcs.TheInside.{Inside}
use Rattle.mcount_arcs.specs.Arcs.{chain_in}
use Rattle.mcount_arcs.specs.Held.{linked_entries, arc_read, slot_read}
use Rattle.mcount_arcs.specs.Image.{index_at}
use Rattle.mcount_arcs.specs.Log.{LogEntry, kept_calls}
use Rattle.mcount_arcs.specs.Sizes.{AreSizes, site_of}
use Rattle.mcount_arcs.specs.Value.{GmonValue, StandsFor}

-- those from an entry on, and those of the slots behind
abbrev pub arcs_from : GmonValue → ℕ → ℕ → List RawArc
arcs_from v slot next =
    map (arc_read (site_of v.sizes slot)) (linked_entries (length v.tos) v.tos next)
    ++ flat_map (slot_read v.sizes v.tos v.froms) (range_with_len (slot + 1) (v.sizes.slots - (slot + 1)))

abbrev pub arcs_left : Inside → List RawArc
arcs_left a = arcs_from a.gmon.now a.slot a.next

-- the entry stands at a place of its slot's chain, or behind it
pub record IsAmong (a : Inside) : Type 0 where
  pub sizes : AreSizes a.gmon.now.sizes
  pub log : List LogEntry
  pub stands : StandsFor log a.gmon.now
  pub slot : a.slot < a.gmon.now.sizes.slots
  pub given : ℕ
  pub next : a.next ≡ index_at (kept_calls a.gmon.now.sizes log) a.slot (slice_get (chain_in (kept_calls a.gmon.now.sizes log) a.slot) given)

-- the numbers from one index to before another are 0
abbrev pub AreZero : List ℕ → ℕ → ℕ → Type 0
AreZero xs from to = (k : ℕ) → from ≤ k → k < to → slice_index xs k ≡ 0
