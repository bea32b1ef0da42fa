-- Memory: a map from addresses to bytes, which has the addresses from `base` on.
use Rattle.std.specs.Prelude.{ℕ, ◌+◌, ◌-◌, ◌≤◌, Bool, ◌&&◌, nat_le, if◌then◌else◌, List, length, take, drop, slice_get, Option, None}
use Rattle.gp_base.specs.Bytes.{value_of, with_piece_at}

-- the byte of address `base` stands first
pub record Memory : Type 0 where
  pub base : ℕ
  pub bytes : List ℕ

-- the byte at an address, if memory has it
abbrev pub byte_at : Memory → ℕ → Option ℕ
byte_at m a = if nat_le m.base a then slice_get m.bytes (a - m.base) else None

-- the n addresses from a on are all in memory
abbrev pub IsInside : Memory → ℕ → ℕ → Type 0
IsInside m a n = (m.base ≤ a) × (a + n ≤ m.base + length m.bytes)

-- the same, as a test
abbrev pub is_inside : Memory → ℕ → ℕ → Bool
is_inside m a n = nat_le m.base a && nat_le (a + n) (m.base + length m.bytes)

-- the n bytes from address a on
abbrev pub read_at : Memory → ℕ → ℕ → List ℕ
read_at m a n = take n (drop (a - m.base) m.bytes)

-- their number, whose lowest byte is at the lowest address
unfoldable pub value_at : Memory → ℕ → ℕ → ℕ
value_at m a n = value_of (read_at m a n)

-- memory after bytes are written from address a on
unfoldable pub write_at : Memory → ℕ → List ℕ → Memory
write_at m a bs = record m { bytes = with_piece_at (a - m.base) bs m.bytes }
