-- What the parts of the raw memory own.
-- Only private functions and invariants speak of it.
use Rattle.std.specs.Prelude.{ℕ, List}
use base.Fraction.{full_share}
use base.Fml.{Fml, Lft}
use mir.Syntax.{Ty, ty_array}
use mir.Raw.{raw}
use denote.Array.{Array}
use denote.Builtin.{u8}
use denote.Memory.{lone}
use denote.RawPtr.{Ptr, lies_at, room_for}
use denote.Struct.Lending.{lent_at}

-- the type of a block of n bytes
abbrev pub block_of : ℕ → Ty
block_of n = raw (ty_array (lone u8.mir) n)

-- n bytes at p, whatever they hold
abbrev pub room_of : Ptr → ℕ → Fml
room_of p n = room_for (block_of n) p

-- the bytes bs at p, n of them
abbrev pub bytes_owned : Ptr → ℕ → List ℕ → Fml
bytes_owned p n bs = lies_at (Array u8 n) full_share p bs

-- the same, lent
abbrev pub bytes_lent : Ptr → ℕ → List ℕ → Lft → Fml
bytes_lent p n bs = lent_at (Array u8 n) p bs
