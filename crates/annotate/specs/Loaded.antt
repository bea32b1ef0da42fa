-- What a program's file loads into memory: addresses are numbers, and have no wrap.
use Rattle.std.specs.Prelude.{ℕ, ◌+◌, ◌-◌, Bool, ◌&&◌, nat_le, nat_lt, if◌then◌else◌, List, [], ◌∷◌, map, reverse, slice_index, Option, Some, None}
use Rattle.std.specs.List.{find, list_any}
use Rattle.std.specs.Option.{option_map, option_or}
use Rattle.gp_base.specs.Bytes.{value_of}
use Rattle.elf32_syms.specs.declared.image.Segment.{Segment}

-- the address is one of those that get the segment's bytes of the file
abbrev pub fills : ℕ → Segment → Bool
fills x s = nat_le s.addr x && nat_lt x (s.addr + s.filesz)

-- it is one of all the segment's addresses
abbrev pub covers : ℕ → Segment → Bool
covers x s = nat_le s.addr x && nat_lt x (s.addr + s.memsz)

-- the byte that a segment puts at an address
abbrev pub byte_of : List ℕ → ℕ → Segment → ℕ
byte_of bytes x s = slice_index bytes (s.offset + (x - s.addr))

-- the byte at an address: that of the last segment in table order whose bytes of the file have it; 0 where segments only
-- cover it; and none elsewhere
unfoldable pub loaded_byte : List Segment → List ℕ → ℕ → Option ℕ
loaded_byte segments bytes x =
    option_or (option_map (byte_of bytes x) (find (fills x) (reverse segments))) (if list_any (covers x) segments then Some 0 else None)

-- the numbers, where all of them are there
abbrev pub all_of : List (Option ℕ) → Option (List ℕ)
all_of [] = Some []
all_of (None ∷ ns) = None
all_of (Some n ∷ ns) = option_map (λ more. n ∷ more) (all_of ns)

-- the word at an address, the lowest byte first, where its four bytes are loaded
unfoldable pub loaded_word : List Segment → List ℕ → ℕ → Option ℕ
loaded_word segments bytes x = option_map value_of (all_of (map (loaded_byte segments bytes) (x ∷ (x + 1) ∷ (x + 2) ∷ (x + 3) ∷ [])))
