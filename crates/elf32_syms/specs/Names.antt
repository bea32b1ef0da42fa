-- Names in a string section (System V ABI, "String Table"): the bytes from an offset to the next zero byte.
use Rattle.std.specs.Prelude.{ℕ, Bool, ◌==◌, List, take, drop}
use Rattle.std.specs.List.{before_first, list_any}

abbrev pub is_zero : ℕ → Bool
is_zero b = b == 0

-- a zero byte follows
unfoldable pub name_ends : List ℕ → ℕ → Bool
name_ends strings at = list_any is_zero (drop at strings)

-- the name at an offset, of which at most 4,095 bytes are kept
unfoldable pub name_at : List ℕ → ℕ → List ℕ
name_at strings at = take 4095 (before_first is_zero (drop at strings))
