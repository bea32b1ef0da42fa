-- The image of a file: what a run and its reports need of the program.
use Rattle.std.specs.Prelude.{◌≡◌, ℕ, ◌+◌, ◌<◌, ◌≤◌, List, [], ◌∷◌, All, codes}
use Rattle.gp_base.specs.declared.limits.TheConstants.{MAX_TEXT_BYTES, MAX_TEXT_END}
use Rattle.elf32_syms.specs.declared.image.Symbol.{Symbol}
use Rattle.elf32_syms.specs.declared.image.Segment.{Segment}
use Rattle.elf32_syms.specs.declared.image.Image.{Image}
use Rattle.elf32_syms.specs.declared.kept.Functions.{Functions}
use Rattle.elf32_syms.specs.declared.sections.Section.{Section}
use Rattle.elf32_syms.specs.declared.symbols.Entry.{Entry}
use Rattle.elf32_syms.specs.Header.{header_of}
use Rattle.elf32_syms.specs.Segments.{segments_of}
use Rattle.elf32_syms.specs.Sections.{sections_of, text_low, text_high, table_of, strings_of}
use Rattle.elf32_syms.specs.Symbols.{symbol_name, fitting_entries, candidates, kept_entries, hook_of}
use Rattle.elf32_syms.specs.Owners.{IsAscending}

-- where a symbol ends: at the address of the first of those that follow it, and the last one at the end of the text
abbrev pub end_before : ℕ → List Entry → ℕ
end_before high [] = high
end_before high (e ∷ es) = e.addr

-- symbols in a row, each of which reaches to the next
abbrev pub in_a_row : List ℕ → ℕ → List Entry → List Symbol
in_a_row strings high [] = []
in_a_row strings high (e ∷ es) =
    record { addr = e.addr; end = end_before high es; name = symbol_name strings e } ∷ in_a_row strings high es

-- kept symbols and hooks of some candidates
pub record AreFunctions (sections : List Section) (strings : List ℕ) (cs : List Entry) (f : Functions) : Type 0 where
  pub symbols : f.symbols ≡ in_a_row strings (text_high sections) (kept_entries sections strings cs)
  pub mcount : f.mcount ≡ hook_of strings cs (codes "_mcount")
  pub moncontrol : f.moncontrol ≡ hook_of strings cs (codes "moncontrol")

-- the candidates of a file
unfoldable pub candidates_of : List ℕ → List Entry
candidates_of bs =
    let sections = sections_of bs in
    candidates (strings_of bs sections) (fitting_entries sections (table_of bs sections))

-- its kept symbols
unfoldable pub symbols_of : List ℕ → List Symbol
symbols_of bs =
    let sections = sections_of bs in
    let strings = strings_of bs sections in
    in_a_row strings (text_high sections) (kept_entries sections strings (candidates_of bs))

unfoldable pub image_of : List ℕ → Image
image_of bs =
    let sections = sections_of bs in
    let strings = strings_of bs sections in
    record {
      entry = (header_of bs).entry;
      segments = segments_of bs;
      text = record { low = text_low sections; high = text_high sections };
      symbols = symbols_of bs;
      mcount = hook_of strings (candidates_of bs) (codes "_mcount");
      moncontrol = hook_of strings (candidates_of bs) (codes "moncontrol");
    }

-- what callers rely on in an accepted image, of a file of this length: the text is within the limits, the segments lie in
-- the file, and the symbols are in order
pub record IsWithinLimits (len : ℕ) (image : Image) : Type 0 where
  pub text : image.text.low < image.text.high
  pub text_bytes : image.text.high ≤ image.text.low + MAX_TEXT_BYTES
  pub text_end : image.text.high ≤ MAX_TEXT_END
  pub segments_in_file : All (λ (s : Segment). s.offset + s.filesz ≤ len) image.segments
  pub ascending : IsAscending image.symbols
