-- Sections (System V ABI, "Sections"): the executable ones, the text that they span, and the symbol table.
use Rattle.std.specs.Prelude.{ℕ, ◌+◌, ◌*◌, min, max, Bool, not, ◌&&◌, ◌==◌, List, [], ◌∷◌, take, drop, map, filter, find, slice_get, Option}
use Rattle.std.specs.Option.{option_and_then, option_map_or}
use Rattle.std.specs.List.{range_with_len}
use Rattle.gp_base.specs.Bytes.{word_at}
use Rattle.elf32_syms.specs.declared.sections.Section.{Section}
use Rattle.elf32_syms.specs.Header.{has_flag, header_of}

-- the section header at an offset: sh_type, sh_flags, sh_addr, sh_offset, sh_size and sh_link
unfoldable pub section_at : List ℕ → ℕ → Section
section_at bs at = record {
  kind = word_at bs (at + 4);
  flags = word_at bs (at + 8);
  addr = word_at bs (at + 12);
  offset = word_at bs (at + 16);
  size = word_at bs (at + 20);
  link = word_at bs (at + 24);
}

unfoldable pub sections_of : List ℕ → List Section
sections_of bs = map (λ i. section_at bs ((header_of bs).sections_at + 40 * i)) (range_with_len 0 (header_of bs).sections)

-- it has the flags ALLOC and EXECINSTR, its type isn't NOBITS, and it isn't empty
unfoldable pub is_executable : Section → Bool
is_executable s = has_flag s.flags 2 && has_flag s.flags 4 && not (s.kind == 8) && not (s.size == 0)

abbrev pub executables : List Section → List Section
executables sections = filter is_executable sections

-- the address after the section's last
abbrev pub section_end : Section → ℕ
section_end s = s.addr + s.size

-- the least and the greatest of some numbers, and 0 where there is none
abbrev pub least_of : List ℕ → ℕ
least_of [] = 0
least_of (x ∷ []) = x
least_of (x ∷ y ∷ ys) = min x (least_of (y ∷ ys))

abbrev pub highest : List ℕ → ℕ
highest [] = 0
highest (x ∷ xs) = max x (highest xs)

-- the text: from the lowest address of an executable section to the highest end of one
unfoldable pub text_low : List Section → ℕ
text_low sections = least_of (map (λ (s : Section). s.addr) (executables sections))

unfoldable pub text_high : List Section → ℕ
text_high sections = highest (map section_end (executables sections))

-- a section's bytes in the file
abbrev pub contents : List ℕ → Section → List ℕ
contents bs s = take s.size (drop s.offset bs)

-- the symbol table is the first section of type SYMTAB, and linked to the section of its strings
abbrev pub symbol_table : List Section → Option Section
symbol_table sections = find (λ s. s.kind == 2) sections

-- the bytes of both, of which there are none where there is no symbol table
unfoldable pub table_of : List ℕ → List Section → List ℕ
table_of bs sections = option_map_or (contents bs) (symbol_table sections) []

unfoldable pub strings_of : List ℕ → List Section → List ℕ
strings_of bs sections =
    option_map_or (contents bs) (option_and_then (λ (t : Section). slice_get sections t.link) (symbol_table sections)) []
