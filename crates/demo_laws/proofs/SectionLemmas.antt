-- The sections of the file: what they are, and that they are accepted.
use Rattle.std.proofs.Common.{◌≡◌, ℕ, ◌+◌, ◌*◌, ◌^◌, ◌<◌, ◌≤◌, true, false, nat_eq, List, [], ◌∷◌, ◌++◌, length, take, drop, None, refl, ap, ◌∙◌, arith}
use Rattle.std.proofs.lemmas.Bool.Decides.{nat_tests}
use Rattle.elf32_syms.specs.Header.{header_of}
use Rattle.elf32_syms.specs.Sections.{section_at, sections_of, is_executable, executables, text_low, text_high, table_of, strings_of}
use Rattle.elf32_syms.specs.Refusals.{text_refusal, table_refusal}
use Rattle.gp_base.specs.Bytes.{word_at}
use Rattle.demo_elf.specs.Elf.{words_text, section_headers, strings_at, names_at}
use Rattle.demo_laws.proofs.Reading.{word_back, word_behind, Section}
use Rattle.demo_laws.proofs.HeaderLemmas.{header_to}

unfoldable pub no_section : Section
no_section = record { kind = 0; flags = 0; addr = 0; offset = 0; size = 0; link = 0 }

unfoldable pub text_section : ℕ → Section
text_section text = record { kind = 1; flags = 6; addr = 0x10000; offset = 4096; size = 4 * text; link = 0 }

unfoldable pub symbol_section : ℕ → ℕ → Section
symbol_section text symbols = record { kind = 2; flags = 0; addr = 0; offset = 4096 + 4 * text; size = 16 * (symbols + 1); link = 3 }

unfoldable pub string_section : ℕ → ℕ → ℕ → Section
string_section text symbols strings = record { kind = 3; flags = 0; addr = 0; offset = strings_at text symbols; size = strings; link = 0 }

unfoldable pub name_section : ℕ → ℕ → ℕ → Section
name_section text symbols strings = record { kind = 3; flags = 0; addr = 0; offset = names_at text symbols strings; size = 33; link = 0 }

unfoldable pub sections_to : ℕ → ℕ → ℕ → List Section
sections_to text symbols strings = no_section ∷ text_section text ∷ symbol_section text symbols ∷ string_section text symbols strings ∷ name_section text symbols strings ∷ []

module _ (text symbols strings : ℕ) (fits : names_at text symbols strings < 2 ^ 32) where
  first_read : section_at (section_headers text symbols strings) 0 ≡ no_section
  unfolding section_at section_headers words_text no_section
  first_read = refl

  text_read : section_at (section_headers text symbols strings) 40 ≡ text_section text
  unfolding section_at section_headers words_text text_section
  text_read = λ i. record { kind = 1; flags = 6; addr = 0x10000; offset = 4096; size = word_back (4 * text) (omega arith) i; link = 0 }

  symbol_read : section_at (section_headers text symbols strings) 80 ≡ symbol_section text symbols
  unfolding section_at section_headers words_text symbol_section
  symbol_read = λ i. record { kind = 2; flags = 0; addr = 0; offset = word_back (4096 + 4 * text) (omega arith) i; size = word_back (16 * (symbols + 1)) (omega arith) i; link = 3 }

  string_read : section_at (section_headers text symbols strings) 120 ≡ string_section text symbols strings
  unfolding section_at section_headers words_text string_section
  string_read = λ i. record { kind = 3; flags = 0; addr = 0; offset = word_back (strings_at text symbols) (omega arith) i; size = word_back strings (omega arith) i; link = 0 }

  name_read : section_at (section_headers text symbols strings) 160 ≡ name_section text symbols strings
  unfolding section_at section_headers words_text name_section
  name_read = λ i. record { kind = 3; flags = 0; addr = 0; offset = word_back (names_at text symbols strings) fits i; size = 33; link = 0 }

-- a section header behind a front
section_behind : (front rest : List ℕ) (at k : ℕ) → length front ≡ at → section_at (front ++ rest) (at + k) ≡ section_at rest k
unfolding section_at
section_behind front rest at k long = λ i. record {
  kind = field 4 i;
  flags = field 8 i;
  addr = field 12 i;
  offset = field 16 i;
  size = field 20 i;
  link = field 24 i;
}
  where
    field : (j : ℕ) → word_at (front ++ rest) (at + k + j) ≡ word_at rest (k + j)
    field j = let e : at + k + j ≡ at + (k + j) = omega arith in ap (word_at (front ++ rest)) e ∙ word_behind front rest at (k + j) long

pub sections_read : (front bs : List ℕ) (headers text symbols strings : ℕ) → bs ≡ front ++ section_headers text symbols strings → length front ≡ headers
    → header_of bs ≡ header_to headers → names_at text symbols strings < 2 ^ 32 → sections_of bs ≡ sections_to text symbols strings
unfolding sections_of header_to sections_to
sections_read front bs headers text symbols strings same long read fits =
    rw (read, at 0 ∙ first_read text symbols strings fits, at 40 ∙ text_read text symbols strings fits, at 80 ∙ symbol_read text symbols strings fits, at 120 ∙ string_read text symbols strings fits, at 160 ∙ name_read text symbols strings fits) refl
  where
    at : (k : ℕ) → section_at bs (headers + k) ≡ section_at (section_headers text symbols strings) k
    at k = ap (λ (xs : List ℕ). section_at xs (headers + k)) same ∙ section_behind front (section_headers text symbols strings) headers k long

-- ---- the text

pub text_executable : (text : ℕ) → 0 < text → is_executable (text_section text) ≡ true
unfolding is_executable text_section
text_executable text some = let full : nat_eq (4 * text) 0 ≡ false = grind (arith, nat_tests) in rw full refl

module _ (text symbols strings : ℕ) (some : 0 < text) where
  executables_read : executables (sections_to text symbols strings) ≡ text_section text ∷ []
  unfolding is_executable sections_to no_section text_section symbol_section string_section name_section
  executables_read = let full : nat_eq (4 * text) 0 ≡ false = grind (arith, nat_tests) in rw full refl

  pub low_read : text_low (sections_to text symbols strings) ≡ 0x10000
  unfolding text_low text_section
  low_read = rw executables_read refl

  pub high_read : text_high (sections_to text symbols strings) ≡ 0x10000 + 4 * text
  unfolding text_high text_section
  high_read = rw executables_read (omega arith)

  pub text_accepted : 4 * text ≤ 16777216 → text_refusal (sections_to text symbols strings) ≡ None
  unfolding text_refusal
  text_accepted few = grind (arith, executables_read, low_read, high_read)

-- ---- the symbol table and the strings

pub table_accepted : (text symbols strings len : ℕ) → names_at text symbols strings ≤ len → table_refusal len (sections_to text symbols strings) ≡ None
unfolding table_refusal sections_to no_section text_section symbol_section string_section name_section
table_accepted text symbols strings len inside = grind arith

pub table_read : (bs : List ℕ) (text symbols strings : ℕ) → table_of bs (sections_to text symbols strings) ≡ take (16 * (symbols + 1)) (drop (4096 + 4 * text) bs)
unfolding table_of sections_to no_section text_section symbol_section string_section name_section
table_read bs text symbols strings = refl

pub strings_read : (bs : List ℕ) (text symbols strings : ℕ) → strings_of bs (sections_to text symbols strings) ≡ take strings (drop (strings_at text symbols) bs)
unfolding strings_of sections_to no_section text_section symbol_section string_section name_section
strings_read bs text symbols strings = refl
