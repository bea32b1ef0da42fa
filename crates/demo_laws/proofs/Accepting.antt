-- The file of a program is accepted.
use Rattle.std.proofs.Common.{◌≡◌, ℕ, suc, ◌+◌, ◌*◌, ◌^◌, ◌<◌, ◌≤◌, false, List, [], ◌∷◌, ◌++◌, length, map, replicate, None, refl, ap, ◌∙◌, subst, arith}
use Rattle.std.specs.List.{flat_map, range_with_len}
use Rattle.elf32_syms.specs.Header.{header_of}
use Rattle.elf32_syms.specs.Segments.{segments_of}
use Rattle.elf32_syms.specs.Sections.{sections_of, table_of, strings_of}
use Rattle.elf32_syms.specs.Symbols.{entry_at, is_candidate, fitting_entries, candidates, kept_entries}
use Rattle.elf32_syms.specs.Refusals.{header_refusal, segments_refusal, text_refusal, table_refusal, names_refusal, symbols_refusal, elf_refusal}
use Rattle.elf32_syms.proofs.RefusalLemmas.{all_accepted, symbols_judged, few}
use Rattle.demo_elf.specs.Elf.{names_at, program_header, symbols_text, strings_text, string_text, elf_file}
use Rattle.demo_laws.specs.Programs.{AreInOrder, IsProgram}
use Rattle.demo_laws.proofs.Reading.{middle, Section, Entry}
use Rattle.demo_laws.proofs.HeaderLemmas.{header_to, header_read, magic_read, header_accepted, segment_long, segments_read, segments_accepted}
use Rattle.demo_laws.proofs.SectionLemmas.{sections_to, sections_read, low_read, high_read, text_accepted, table_accepted, table_read, strings_read}
use Rattle.demo_laws.proofs.SymbolLemmas.{entry_of, entries_from, entries_read, all_fit}
use Rattle.demo_laws.proofs.NameLemmas.{names_end, names_some}
use Rattle.demo_laws.proofs.KeptLemmas.{Ascend, all_kept}
use Rattle.demo_elf.proofs.LengthLemmas.{front_long}
use Rattle.demo_laws.proofs.FileLemmas.{headers_of, front_of, back_of, body_of, sections_front, by_header, by_table, by_strings, by_sections, symbols_long, sections_front_long, strings_front_long, file_long}

entries_ascend : (number at low high : ℕ) (symbols : List (List ℕ × ℕ)) → AreInOrder low high symbols → Ascend (0x10000 + low) (0x10000 + high) (entries_from number at symbols)
unfolding entry_of
entries_ascend number at low high [] order = tt
entries_ascend number at low high (s ∷ symbols) order =
    let next : 0x10000 + (s.1 + 1) ≡ 0x10000 + s.1 + 1 = omega arith in
    (omega arith, omega arith, subst (λ (a : ℕ). Ascend a (0x10000 + high) (entries_from (number + 1) (at + (length s.0 + 1)) symbols)) next (entries_ascend (number + 1) (at + (length s.0 + 1)) (s.1 + 1) high symbols order.2))

strings_end_fits : (symbols : List (List ℕ × ℕ)) → length (strings_text symbols) ≤ 2 ^ 28 → 1 + length (flat_map string_text symbols) < 2 ^ 32
unfolding strings_text
strings_end_fits symbols h = omega arith

entries_long : (number at : ℕ) (symbols : List (List ℕ × ℕ)) → length (entries_from number at symbols) ≡ length symbols
entries_long number at [] = refl
entries_long number at (s ∷ symbols) = ap suc (entries_long (number + 1) (at + (length s.0 + 1)) symbols)

module _ (words : List ℕ) (symbols : List (List ℕ × ℕ)) (program : IsProgram words symbols) where
  abbrev pub sections_in : List Section
  sections_in = sections_to (length words) (length symbols) (length (strings_text symbols))

  abbrev pub entries_in : List Entry
  entries_in = entries_from 1 1 symbols

  pub headers_fit : headers_of words symbols < 2 ^ 32
  headers_fit = omega (arith, program.text, program.few, program.strings)

  names_fit : names_at (length words) (length symbols) (length (strings_text symbols)) < 2 ^ 32
  names_fit = omega (arith, program.text, program.few, program.strings)

  pub header_in : header_of (elf_file words symbols) ≡ header_to (headers_of words symbols)
  header_in = ap header_of (by_header words symbols) ∙ header_read (headers_of words symbols) (program_header (length words) ++ body_of words symbols) headers_fit

  pub header_passes : header_refusal (elf_file words symbols) ≡ None
  header_passes = grind (arith, file_long, by_header, magic_read, headers_of, body_of, header_accepted, header_in)

  pub segments_in : segments_of (elf_file words symbols) ≡ segment_long (4 * length words) ∷ []
  segments_in = segments_read (headers_of words symbols) (length words) (body_of words symbols) (elf_file words symbols) (by_header words symbols) header_in program.some (omega (arith, program.text))

  pub segments_pass : segments_refusal (elf_file words symbols) ≡ None
  segments_pass = segments_accepted (elf_file words symbols) (4 * length words) segments_in (omega (arith, file_long words symbols))

  pub sections_are : sections_of (elf_file words symbols) ≡ sections_in
  sections_are = grind (arith, sections_read, sections_front, headers_of, by_sections, sections_front_long, header_in, names_fit)

  text_passes : text_refusal sections_in ≡ None
  text_passes = text_accepted (length words) (length symbols) (length (strings_text symbols)) program.some program.text

  table_passes : table_refusal (length (elf_file words symbols)) sections_in ≡ None
  table_passes = table_accepted (length words) (length symbols) (length (strings_text symbols)) (length (elf_file words symbols)) (omega (arith, file_long words symbols))

  pub table_is : table_of (elf_file words symbols) sections_in ≡ symbols_text symbols
  table_is = search (table_read, by_table, middle, front_of, back_of, front_long, symbols_long)

  pub strings_are : strings_of (elf_file words symbols) sections_in ≡ strings_text symbols
  strings_are = search (strings_read, by_strings, middle, front_of, back_of, strings_front_long)

  entries_are : map (entry_at (symbols_text symbols)) (range_with_len 1 (length symbols)) ≡ entries_in
  unfolding symbols_text
  entries_are = entries_read (replicate 16 0) 1 1 0 (4 * length words) symbols refl (strings_end_fits symbols program.strings) (omega (arith, program.text)) program.order

  first_fits_not : is_candidate sections_in (entry_at (symbols_text symbols) 0) ≡ false
  unfolding is_candidate entry_at
  first_fits_not = refl

  pub fitting_are : fitting_entries sections_in (symbols_text symbols) ≡ entries_in
  unfolding fitting_entries
  fitting_are = grind (arith, symbols_long, first_fits_not, entries_are, all_fit)

  pub names_pass : names_refusal (strings_text symbols) entries_in ≡ None
  unfolding names_refusal strings_text
  names_pass = rw (names_end (0 ∷ []) 1 1 symbols refl) refl

  pub candidates_are : candidates (strings_text symbols) entries_in ≡ entries_in
  unfolding strings_text
  candidates_are = names_some (0 ∷ []) 1 1 symbols refl program.named

  pub kept_are : kept_entries sections_in (strings_text symbols) entries_in ≡ entries_in
  kept_are =
      let low = low_read (length words) (length symbols) (length (strings_text symbols)) program.some in
      let high = high_read (length words) (length symbols) (length (strings_text symbols)) program.some in
      all_kept sections_in (strings_text symbols) entries_in (rw (low, high) (omega arith)) (rw (low, high) (entries_ascend 1 1 0 (4 * length words) symbols program.order))

  pub symbols_pass : symbols_refusal sections_in (symbols_text symbols) (strings_text symbols) ≡ None
  symbols_pass = grind (arith, symbols_judged, fitting_are, candidates_are, kept_are, names_pass, few, entries_long)

  pub file_accepted : elf_refusal (elf_file words symbols) ≡ None
  file_accepted = search (all_accepted, sections_are, table_is, strings_are, header_passes, segments_pass, text_passes, table_passes, symbols_pass)
