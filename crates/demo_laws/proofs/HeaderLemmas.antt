-- The header of the file, and the segment.
use Rattle.std.proofs.Common.{◌≡◌, ℕ, ◌+◌, ◌*◌, ◌^◌, ◌<◌, ◌≤◌, true, List, [], ◌∷◌, ◌++◌, length, None, Some, refl, ap, ◌∙◌, arith}
use Rattle.elf32_syms.specs.declared.image.Segment.{Segment}
use Rattle.elf32_syms.specs.Header.{has_magic, header_of}
use Rattle.elf32_syms.specs.Segments.{segment_at, segments_of}
use Rattle.elf32_syms.specs.Refusals.{kind_refusal, tables_refusal, header_refusal, segments_refusal}
use Rattle.demo_elf.specs.Elf.{file_header, program_header, halves_text, words_text}
use Rattle.demo_laws.proofs.Reading.{word_back, Header}

-- the header's fields: section headers begin at an offset
unfoldable pub header_to : ℕ → Header
header_to headers = record {
  class = 1;
  order = 1;
  kind = 2;
  machine = 243;
  entry = 0x10000;
  programs_at = 52;
  sections_at = headers;
  flags = 0;
  program_bytes = 32;
  programs = 1;
  section_bytes = 40;
  sections = 5;
}

pub header_read : (headers : ℕ) (rest : List ℕ) → headers < 2 ^ 32 → header_of (file_header headers ++ rest) ≡ header_to headers
unfolding header_of file_header halves_text words_text header_to
header_read headers rest fits = ap header_to (word_back headers fits)

pub magic_read : (headers : ℕ) (rest : List ℕ) → has_magic (file_header headers ++ rest) ≡ true
unfolding file_header halves_text words_text
magic_read headers rest = refl

kind_accepted : (headers : ℕ) → kind_refusal (header_to headers) ≡ None
unfolding kind_refusal header_to
kind_accepted headers = refl

tables_accepted : (headers len : ℕ) → 84 ≤ len → headers + 200 ≤ len → tables_refusal len (header_to headers) ≡ None
unfolding tables_refusal header_to
tables_accepted headers len first inside = grind arith

pub header_accepted : (headers : ℕ) (bs : List ℕ) → header_of bs ≡ header_to headers → has_magic bs ≡ true → 84 ≤ length bs → headers + 200 ≤ length bs → header_refusal bs ≡ None
unfolding header_refusal
header_accepted headers bs read magic first inside = grind (arith, kind_accepted, tables_accepted)

-- the one segment, which takes so many bytes
unfoldable pub segment_long : ℕ → Segment
segment_long bytes = record { addr = 0x10000; offset = 4096; filesz = bytes; memsz = bytes }

segment_read : (headers text : ℕ) (rest : List ℕ) → 0 < text → 4 * text < 2 ^ 32 → segment_at (file_header headers ++ (program_header text ++ rest)) 52 ≡ Some (segment_long (4 * text))
unfolding segment_at file_header program_header halves_text words_text segment_long
segment_read headers text rest some fits = grind arith

pub segments_read : (headers text : ℕ) (rest bs : List ℕ) → bs ≡ file_header headers ++ (program_header text ++ rest) → header_of bs ≡ header_to headers → 0 < text → 4 * text < 2 ^ 32
    → segments_of bs ≡ segment_long (4 * text) ∷ []
unfolding segments_of header_to
segments_read headers text rest bs same read some fits =
    let one : segment_at bs 52 ≡ Some (segment_long (4 * text)) = ap (λ (xs : List ℕ). segment_at xs 52) same ∙ segment_read headers text rest some fits in
    rw read (rw one refl)

pub segments_accepted : (bs : List ℕ) (bytes : ℕ) → segments_of bs ≡ segment_long bytes ∷ [] → 4096 + bytes ≤ length bs → segments_refusal bs ≡ None
unfolding segments_refusal segment_long
segments_accepted bs bytes read inside = grind arith
