-- Segments (System V ABI, "Program Header"): the program headers of type PT_LOAD that take memory, in table order.
use Rattle.std.specs.Prelude.{ℕ, ◌+◌, ◌*◌, min, Bool, ◌&&◌, ◌==◌, nat_lt, if◌then◌else◌, List, Option, Some, None}
use Rattle.std.specs.List.{filter_map, range_with_len}
use Rattle.gp_base.specs.Bytes.{word_at}
use Rattle.elf32_syms.specs.declared.image.Segment.{Segment}
use Rattle.elf32_syms.specs.Header.{header_of}

-- the segment of the program header at an offset: p_type, p_offset, p_vaddr, p_filesz and p_memsz are looked at
unfoldable pub segment_at : List ℕ → ℕ → Option Segment
segment_at bs at =
    if (word_at bs at == 1) && nat_lt 0 (word_at bs (at + 20))
    then Some (record {
      addr = word_at bs (at + 8);
      offset = word_at bs (at + 4);
      filesz = min (word_at bs (at + 16)) (word_at bs (at + 20));
      memsz = word_at bs (at + 20);
    })
    else None

unfoldable pub segments_of : List ℕ → List Segment
segments_of bs =
    filter_map (λ i. segment_at bs ((header_of bs).programs_at + 32 * i)) (range_with_len 0 (header_of bs).programs)

-- its bytes do not all lie in a file of this length
abbrev pub is_cut_off : ℕ → Segment → Bool
is_cut_off len s = nat_lt len (s.offset + s.filesz)
