-- The programs whose files are written and read back: what they may be, and what their image is.
use Rattle.std.specs.Prelude.{◌≡◌, ℕ, ◌+◌, ◌*◌, ◌<◌, ◌≤◌, ◌^◌, false, List, [], ◌∷◌, length, Option, None, option_map, codes}
use Rattle.std.specs.Bool.{⊤}
use Rattle.std.specs.List.{AllByRecursion, find}
use Rattle.std.specs.Str.{bytes_eq}
use Rattle.elf32_syms.specs.declared.image.Image.{Image}
use Rattle.elf32_syms.specs.declared.image.Symbol.{Symbol}
use Rattle.elf32_syms.specs.Names.{is_zero}
use Rattle.elf32_syms.specs.Refusals.{elf_refusal}
use Rattle.elf32_syms.specs.Image.{image_of}
use Rattle.demo_elf.specs.Elf.{strings_text, elf_file}

-- a name of 1 to 4,095 bytes, none of them zero
pub record IsName (name : List ℕ) : Type 0 where
  pub some : 0 < length name
  pub short : length name ≤ 4095
  pub whole : AllByRecursion (λ b. is_zero b ≡ false) name

-- a symbol has such a name
abbrev pub IsNamed : List ℕ × ℕ → Type 0
IsNamed s = IsName s.0

-- the offsets of symbols ascend, and lie between two numbers
abbrev pub AreInOrder : ℕ → ℕ → List (List ℕ × ℕ) → Type 0
AreInOrder low high [] = ⊤
AreInOrder low high (s ∷ more) = (low ≤ s.1) × (s.1 < high) × AreInOrder (s.1 + 1) high more

-- The words of a text and the symbols in it: at most 16 MiB of text, 65,536 symbols and 256 MiB of names; symbols have
-- names, and ascend within the text.
pub record IsProgram (words : List ℕ) (symbols : List (List ℕ × ℕ)) : Type 0 where
  pub some : 0 < length words
  pub text : 4 * length words ≤ 16777216
  pub few : length symbols ≤ 65536
  pub strings : length (strings_text symbols) ≤ 2 ^ 28
  pub named : AllByRecursion IsNamed symbols
  pub order : AreInOrder 0 (4 * length words) symbols

-- where a symbol ends that others follow: at the first of these, and the last one at the end of the text
abbrev pub next_address : ℕ → List (List ℕ × ℕ) → ℕ
next_address high [] = high
next_address high (s ∷ more) = 0x10000 + s.1

-- symbols in a row: each is at its offset of the text, which begins at 0x10000, and reaches to the next one
abbrev pub symbols_in_row : ℕ → List (List ℕ × ℕ) → List Symbol
symbols_in_row high [] = []
symbols_in_row high (s ∷ more) = record { addr = 0x10000 + s.1; end = next_address high more; name = s.0 } ∷ symbols_in_row high more

-- the address of the first symbol with a name
abbrev pub hook_in : List ℕ → List (List ℕ × ℕ) → Option ℕ
hook_in name symbols = option_map (λ (s : List ℕ × ℕ). 0x10000 + s.1) (find (λ (s : List ℕ × ℕ). bytes_eq s.0 name) symbols)

-- The image of a program: it begins at the beginning of its text, which is the one segment, and each of its symbols is kept.
unfoldable pub program_image : List ℕ → List (List ℕ × ℕ) → Image
program_image words symbols = record {
  entry = 0x10000;
  segments = record { addr = 0x10000; offset = 4096; filesz = 4 * length words; memsz = 4 * length words } ∷ [];
  text = record { low = 0x10000; high = 0x10000 + 4 * length words };
  symbols = symbols_in_row (0x10000 + 4 * length words) symbols;
  mcount = hook_in (codes "_mcount") symbols;
  moncontrol = hook_in (codes "moncontrol") symbols;
}

-- the file of each program is accepted, and read as what it was made from
abbrev pub ProgramsAreReadBack : Type 0
ProgramsAreReadBack =
    (words : List ℕ) (symbols : List (List ℕ × ℕ)) → IsProgram words symbols
    → (elf_refusal (elf_file words symbols) ≡ None) × (image_of (elf_file words symbols) ≡ program_image words symbols)
