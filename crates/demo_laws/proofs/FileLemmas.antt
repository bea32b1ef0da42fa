-- A file of few words and symbols, and where its parts stand.
use Rattle.std.proofs.Common.{◌≡◌, ℕ, ◌+◌, ◌*◌, List, ◌++◌, length, replicate, arith, append_assoc, length-append}
use Rattle.std.proofs.lemmas.List.{length-replicate}
use Rattle.demo_elf.specs.Elf.{words_text, padding_of, strings_at, names_at, headers_at, file_header, program_header, symbols_from, symbols_text, strings_text, names_text, section_headers, front_text, back_text, elf_file}
use Rattle.demo_elf.proofs.LengthLemmas.{from_long, section_headers_long, names_long, front_long}

pub symbols_long : (symbols : List (List ℕ × ℕ)) → length (symbols_text symbols) ≡ 16 * (length symbols + 1)
unfolding symbols_text
symbols_long symbols = omega (arith, length-append (replicate 16 0) (symbols_from 1 symbols), length-replicate {A = ℕ} 16 0, from_long 1 symbols)

-- ---- where they stand

seven_parts : {X : Type 0} (a b c d e f g : List X) → a ++ b ++ c ++ d ++ e ++ f ++ g ≡ a ++ (b ++ (c ++ (d ++ (e ++ (f ++ g)))))
seven_parts a b c d e f g = simp append_assoc

module _ (words : List ℕ) (symbols : List (List ℕ × ℕ)) where
  abbrev pub headers_of : ℕ
  headers_of = headers_at (length words) (length symbols) (length (strings_text symbols))

  abbrev pub front_of : List ℕ
  front_of = front_text words (length symbols) (length (strings_text symbols))

  abbrev pub back_of : List ℕ
  back_of = back_text (length words) (length symbols) (length (strings_text symbols))

  -- behind the program header
  abbrev pub body_of : List ℕ
  body_of = replicate 4012 0 ++ (words_text words ++ (symbols_text symbols ++ (strings_text symbols ++ back_of)))

  -- before the section headers
  abbrev pub sections_front : List ℕ
  sections_front = front_of ++ symbols_text symbols ++ strings_text symbols
      ++ (names_text ++ replicate (padding_of (names_at (length words) (length symbols) (length (strings_text symbols)) + 33)) 0)

  pub by_header : elf_file words symbols ≡ file_header headers_of ++ (program_header (length words) ++ body_of)
  unfolding elf_file front_text
  by_header = seven_parts (file_header headers_of) (program_header (length words)) (replicate 4012 0) (words_text words) (symbols_text symbols) (strings_text symbols) back_of

  pub by_table : elf_file words symbols ≡ front_of ++ (symbols_text symbols ++ (strings_text symbols ++ back_of))
  unfolding elf_file
  by_table = search append_assoc

  pub by_strings : elf_file words symbols ≡ (front_of ++ symbols_text symbols) ++ (strings_text symbols ++ back_of)
  unfolding elf_file
  by_strings = append_assoc (front_of ++ symbols_text symbols) (strings_text symbols) back_of

  pub by_sections : elf_file words symbols ≡ sections_front ++ section_headers (length words) (length symbols) (length (strings_text symbols))
  unfolding elf_file back_text
  by_sections = search (append_assoc, replicate)

  pub sections_front_long : length sections_front ≡ headers_of
  sections_front_long = grind (arith, length-append, names_long, length-replicate, front_long, symbols_long)

  pub strings_front_long : length (front_of ++ symbols_text symbols) ≡ strings_at (length words) (length symbols)
  strings_front_long = omega (arith, length-append front_of (symbols_text symbols), front_long words (length symbols) (length (strings_text symbols)), symbols_long symbols)

  pub file_long : length (elf_file words symbols) ≡ headers_of + 200
  file_long = grind (arith, by_sections, length-append, sections_front_long, section_headers_long)
