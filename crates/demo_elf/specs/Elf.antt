-- An ELF32 file of a program for RV32, after the System V ABI: one segment, whose text begins at 0x10000 and at offset
-- 4096 of the file, and a symbol table. All numbers are little-endian.
use Rattle.std.specs.Prelude.{ℕ, ◌+◌, ◌-◌, ◌*◌, ◌%◌, List, [], ◌∷◌, ◌++◌, length, replicate, codes}
use Rattle.std.specs.List.{flat_map}
use Rattle.gp_base.specs.Bytes.{le}
use Rattle.demo_elf.specs.Code.{demo_words, demo_symbols}

abbrev pub half : ℕ → List ℕ
half n = le n 2

abbrev pub word : ℕ → List ℕ
word n = le n 4

unfoldable pub halves_text : List ℕ → List ℕ
halves_text halves = flat_map half halves

unfoldable pub words_text : List ℕ → List ℕ
words_text words = flat_map word words

-- where the section headers begin: at the next multiple of 4 behind text, symbols, strings and the names of sections
abbrev pub strings_at : ℕ → ℕ → ℕ
strings_at text symbols = 4096 + 4 * text + 16 * (symbols + 1)

abbrev pub names_at : ℕ → ℕ → ℕ → ℕ
names_at text symbols strings = strings_at text symbols + strings

abbrev pub padding_of : ℕ → ℕ
padding_of size = (4 - size % 4) % 4

abbrev pub headers_at : ℕ → ℕ → ℕ → ℕ
headers_at text symbols strings =
    let end = names_at text symbols strings + 33 in
    end + padding_of end

-- e_ident, and the fields of the ELF header: an executable for RISC-V, entry 0x10000, one program header, five sections
unfoldable pub file_header : ℕ → List ℕ
file_header headers =
    (0x7F ∷ 0x45 ∷ 0x4C ∷ 0x46 ∷ 1 ∷ 1 ∷ 1 ∷ replicate 9 0)
    ++ halves_text (2 ∷ 243 ∷ [])
    ++ words_text (1 ∷ 0x10000 ∷ 52 ∷ headers ∷ 0 ∷ [])
    ++ halves_text (52 ∷ 32 ∷ 1 ∷ 40 ∷ 5 ∷ 4 ∷ [])

-- PT_LOAD at offset 4096, readable and executable
unfoldable pub program_header : ℕ → List ℕ
program_header text = words_text (1 ∷ 4096 ∷ 0x10000 ∷ 0x10000 ∷ (4 * text) ∷ (4 * text) ∷ 5 ∷ 4096 ∷ [])

-- a symbol with its name at an offset of the strings: a global function in section 1
unfoldable pub symbol_text : ℕ → ℕ → List ℕ
symbol_text name offset = words_text (name ∷ (0x10000 + offset) ∷ 0 ∷ []) ++ (0x12 ∷ 0 ∷ half 1)

-- symbols whose names stand in the strings from an offset on
abbrev pub symbols_from : ℕ → List (List ℕ × ℕ) → List ℕ
symbols_from at [] = []
symbols_from at (s ∷ more) = symbol_text at s.1 ++ symbols_from (at + (length s.0 + 1)) more

-- a first symbol of zeros, and then the symbols
unfoldable pub symbols_text : List (List ℕ × ℕ) → List ℕ
symbols_text symbols = replicate 16 0 ++ symbols_from 1 symbols

abbrev pub string_text : List ℕ × ℕ → List ℕ
string_text s = s.0 ++ 0 ∷ []

-- the names of symbols, each with a zero behind it
unfoldable pub strings_text : List (List ℕ × ℕ) → List ℕ
strings_text symbols = 0 ∷ flat_map string_text symbols

-- the names of the sections
unfoldable pub names_text : List ℕ
names_text = 0 ∷ (codes ".text" ++ 0 ∷ codes ".symtab" ++ 0 ∷ codes ".strtab" ++ 0 ∷ codes ".shstrtab" ++ 0 ∷ [])

-- No section, the text, the symbols, the strings, and the names of sections. Each header has name, type, flags, address,
-- offset, size, link, info, alignment and entry size.
unfoldable pub section_headers : ℕ → ℕ → ℕ → List ℕ
section_headers text symbols strings =
    words_text (replicate 10 0)
    ++ words_text (1 ∷ 1 ∷ 6 ∷ 0x10000 ∷ 4096 ∷ (4 * text) ∷ 0 ∷ 0 ∷ 4 ∷ 0 ∷ [])
    ++ words_text (7 ∷ 2 ∷ 0 ∷ 0 ∷ (4096 + 4 * text) ∷ (16 * (symbols + 1)) ∷ 3 ∷ 1 ∷ 4 ∷ 16 ∷ [])
    ++ words_text (15 ∷ 3 ∷ 0 ∷ 0 ∷ (strings_at text symbols) ∷ strings ∷ 0 ∷ 0 ∷ 1 ∷ 0 ∷ [])
    ++ words_text (23 ∷ 3 ∷ 0 ∷ 0 ∷ (names_at text symbols strings) ∷ 33 ∷ 0 ∷ 0 ∷ 1 ∷ 0 ∷ [])

-- the headers, and the text at its offset
unfoldable pub front_text : List ℕ → ℕ → ℕ → List ℕ
front_text words symbols strings =
    file_header (headers_at (length words) symbols strings) ++ program_header (length words) ++ replicate 4012 0 ++ words_text words

-- what stands behind the strings
unfoldable pub back_text : ℕ → ℕ → ℕ → List ℕ
back_text text symbols strings =
    names_text ++ replicate (padding_of (names_at text symbols strings + 33)) 0 ++ section_headers text symbols strings

-- the file of a program with these words and symbols
unfoldable pub elf_file : List ℕ → List (List ℕ × ℕ) → List ℕ
elf_file words symbols =
    let strings = length (strings_text symbols) in
    front_text words (length symbols) strings ++ symbols_text symbols ++ strings_text symbols ++ back_text (length words) (length symbols) strings

-- the demo program of n functions
abbrev pub demo_program : ℕ → List ℕ
demo_program n = elf_file (demo_words n) (demo_symbols n)
