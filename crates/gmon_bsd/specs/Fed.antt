-- What a reader keeps of the bytes that were fed to it.
use Rattle.std.specs.Prelude.{◌≡◌, ℕ, ◌-◌, Bool, nat_le, ◌&&◌, List, [], take, drop, length, is_none, if◌then◌else◌}
use Rattle.gp_base.specs.declared.records.RawArc.{RawArc}
use Rattle.gp_base.specs.Bytes.{value_of, IsBytes}
use Rattle.gmon_cells.specs.Cells as columns
use Rattle.gp_base.specs.Fields.{arc_of}
use Rattle.gmon_bsd.specs.Reading.{size_of, header_refusal}

-- what a reader has kept: how many bytes were fed, the header as far as it has come, the counters and arcs, and
-- what has come of the next counter and of the next arc
pub record Kept : Type 0 where
  pub len : ℕ
  pub header : List ℕ
  pub counters : List ℕ
  pub half : List ℕ
  pub arcs : List RawArc
  pub torn : List ℕ

-- what follows the header is kept where that is whole and isn't refused
abbrev pub is_kept : List ℕ → Bool
is_kept header = nat_le 32 (length header) && is_none (header_refusal header)

-- what of the bytes from an offset on belongs to the counters, and what to the arcs
abbrev pub counter_part : List ℕ → ℕ → List ℕ → List ℕ
counter_part header at body = if is_kept header then take (size_of header - at) body else []

abbrev pub arc_part : List ℕ → ℕ → List ℕ → List ℕ
arc_part header at body = if is_kept header then drop (size_of header - at) body else []

-- a reader stands for the bytes that were fed to it
pub record StandsFor (bytes : List ℕ) (kept : Kept) : Type 0 where
  pub are_bytes : IsBytes bytes
  pub len : kept.len ≡ length bytes
  pub header : kept.header ≡ take 32 bytes
  pub counters : columns.StandsFor 2 value_of (counter_part (take 32 bytes) 32 (drop 32 bytes)) kept.counters kept.half
  pub arcs : columns.StandsFor 12 arc_of (arc_part (take 32 bytes) 32 (drop 32 bytes)) kept.arcs kept.torn
