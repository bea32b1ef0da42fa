-- The three lists read back from the bytes.
use Rattle.std.specs.Prelude.{ℕ, ◌+◌, ◌*◌, List, drop}
use Rattle.gp_base.specs.Bytes.{value_of, half_at, word_at, items_of_text}
use Rattle.gmon_block.specs.declared.entry.Tos.{Tos}
use Rattle.gmon_block.specs.Layout.{Parts}

-- the entry in 12 bytes
abbrev pub entry_of : List ℕ → Tos
entry_of bs = record { selfpc = word_at bs 0; count = word_at bs 4; link = half_at bs 8 }

-- t entries, c counters and f slots
abbrev pub parts_of : ℕ → ℕ → ℕ → List ℕ → Parts
parts_of t c f bs = record {
  tos = items_of_text 12 entry_of t bs;
  counters = items_of_text 2 value_of c (drop (12 * t) bs);
  froms = items_of_text 2 value_of f (drop (12 * t + 2 * c) bs);
}
