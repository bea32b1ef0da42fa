-- The ELF header (System V ABI, "ELF Header"; flags: RISC-V ELF ABI).
use Rattle.std.specs.Prelude.{ℕ, ◌+◌, ◌*◌, ◌<◌, ◌≤◌, Bool, not, ◌&&◌, ◌==◌, List, slice_index, bit_and}
use Rattle.gp_base.specs.Bytes.{half_at, word_at}
use Rattle.elf32_syms.specs.declared.header.Header.{Header}

-- a number of flags has this one
abbrev pub has_flag : ℕ → ℕ → Bool
has_flag flags bit = not (bit_and flags bit == 0)

-- the file begins with 7F and the letters E, L, F
abbrev pub has_magic : List ℕ → Bool
has_magic bs = (slice_index bs 0 == 127) && (slice_index bs 1 == 69) && (slice_index bs 2 == 76) && (slice_index bs 3 == 70)

-- e_class and e_data; e_type, e_machine, e_entry, e_phoff, e_shoff, e_flags; e_phentsize, e_phnum, e_shentsize, e_shnum
unfoldable pub header_of : List ℕ → Header
header_of bs = record {
  class = slice_index bs 4;
  order = slice_index bs 5;
  kind = half_at bs 16;
  machine = half_at bs 18;
  entry = word_at bs 24;
  programs_at = word_at bs 28;
  sections_at = word_at bs 32;
  flags = word_at bs 36;
  program_bytes = half_at bs 42;
  programs = half_at bs 44;
  section_bytes = half_at bs 46;
  sections = half_at bs 48;
}

-- both tables lie in a file of this length
pub record AreInFile (len : ℕ) (h : Header) : Type 0 where
  pub programs : (i : ℕ) → i < h.programs → h.programs_at + 32 * i + 32 ≤ len
  pub sections : (i : ℕ) → i < h.sections → h.sections_at + 40 * i + 40 ≤ len
