-- The image of the file of a program.
use Rattle.std.proofs.Common.{◌≡◌, ℕ, ◌+◌, ◌*◌, Bool, true, false, cond, List, [], ◌∷◌, ◌++◌, length, Some, option_map, codes, refl, sym, ap, ◌∙◌}
use Rattle.std.specs.List.{AllByRecursion, find, flat_map}
use Rattle.std.specs.Str.{bytes_eq}
use Rattle.elf32_syms.specs.Header.{header_of}
use Rattle.elf32_syms.specs.Sections.{text_high}
use Rattle.elf32_syms.specs.Symbols.{symbol_name, fitting_entries, candidates, kept_entries, hook_of}
use Rattle.elf32_syms.specs.Image.{in_a_row, end_before as end_in_row, image_of}
use Rattle.elf32_syms.proofs.RefusalLemmas.{image_is}
use Rattle.demo_elf.specs.Elf.{string_text, strings_text, symbols_text, elf_file}
use Rattle.demo_laws.specs.Programs.{IsNamed, IsProgram, next_address, symbols_in_row, hook_in, program_image}
use Rattle.demo_laws.proofs.Reading.{Entry}
use Rattle.demo_laws.proofs.HeaderLemmas.{header_to, segment_long}
use Rattle.demo_laws.proofs.SectionLemmas.{low_read, high_read}
use Rattle.demo_laws.proofs.SymbolLemmas.{entry_of, entries_from}
use Rattle.demo_laws.proofs.NameLemmas.{name_read, regroup, longer}
use Rattle.demo_laws.proofs.Accepting.{sections_in, entries_in, header_in, segments_in, sections_are, table_is, strings_are, fitting_are, candidates_are, kept_are}

end_read : (high number at : ℕ) (symbols : List (List ℕ × ℕ)) → end_in_row high (entries_from number at symbols) ≡ next_address high symbols
unfolding entry_of
end_read high number at [] = refl
end_read high number at (s ∷ symbols) = refl

rows_read : (front : List ℕ) (high number at : ℕ) (symbols : List (List ℕ × ℕ)) → length front ≡ at → AllByRecursion IsNamed symbols
    → in_a_row (front ++ flat_map string_text symbols) high (entries_from number at symbols) ≡ symbols_in_row high symbols
unfolding entry_of
rows_read front high number at [] long named = refl
rows_read front high number at (s ∷ symbols) long named =
    let next = at + (length s.0 + 1) in
    let name = name_read front s.0 (flat_map string_text symbols) at long named.0 in
    let end = end_read high (number + 1) next symbols in
    let rest : in_a_row (front ++ flat_map string_text (s ∷ symbols)) high (entries_from (number + 1) next symbols) ≡ symbols_in_row high symbols =
    ap (λ (strings : List ℕ). in_a_row strings high (entries_from (number + 1) next symbols)) (regroup front s symbols)
    ∙ rows_read (front ++ string_text s) high (number + 1) next symbols (longer front s at long) named.1 in
    λ i. record { addr = 0x10000 + s.1; end = end i; name = name i } ∷ rest i

hook_read : (front name : List ℕ) (number at : ℕ) (symbols : List (List ℕ × ℕ)) → length front ≡ at → AllByRecursion IsNamed symbols
    → hook_of (front ++ flat_map string_text symbols) (entries_from number at symbols) name ≡ hook_in name symbols
unfolding entry_of
hook_read front name number at [] long named = refl
hook_read front name number at (s ∷ symbols) long named =
    rw (name_read front s.0 (flat_map string_text symbols) at long named.0)
    (by (bytes_eq s.0 name)
    (ap (λ (strings : List ℕ). hook_of strings (entries_from (number + 1) (at + (length s.0 + 1)) symbols) name) (regroup front s symbols)
    ∙ hook_read (front ++ string_text s) name (number + 1) (at + (length s.0 + 1)) symbols (longer front s at long) named.1))
  where
    others : List Entry
    others = entries_from (number + 1) (at + (length s.0 + 1)) symbols

    strings : List ℕ
    strings = front ++ flat_map string_text (s ∷ symbols)

    by : (b : Bool) → hook_of strings others name ≡ hook_in name symbols
        → option_map (λ (e : Entry). e.addr) (cond b (Some (entry_of number at s.1)) (find (λ (e : Entry). bytes_eq (symbol_name strings e) name) others))
        ≡ option_map (λ (t : List ℕ × ℕ). 0x10000 + t.1) (cond b (Some s) (find (λ (t : List ℕ × ℕ). bytes_eq t.0 name) symbols))
    by true rest = refl
    by false rest = rest

module _ (words : List ℕ) (symbols : List (List ℕ × ℕ)) (program : IsProgram words symbols) where
  candidates_in : candidates (strings_text symbols) (fitting_entries (sections_in words symbols program) (symbols_text symbols)) ≡ entries_in words symbols program
  candidates_in = rw (fitting_are words symbols program) (candidates_are words symbols program)

  symbols_in : symbols_in_row (0x10000 + 4 * length words) symbols ≡ in_a_row (strings_text symbols) (text_high (sections_in words symbols program)) (kept_entries (sections_in words symbols program) (strings_text symbols) (entries_in words symbols program))
  unfolding strings_text
  symbols_in =
      rw (kept_are words symbols program, high_read (length words) (length symbols) (length (strings_text symbols)) program.some)
      (sym (rows_read (0 ∷ []) (0x10000 + 4 * length words) 1 1 symbols refl program.named))

  hooks_in : (name : List ℕ) → hook_in name symbols ≡ hook_of (strings_text symbols) (entries_in words symbols program) name
  unfolding strings_text
  hooks_in name = sym (hook_read (0 ∷ []) name 1 1 symbols refl program.named)

  entry_in : 0x10000 ≡ (header_of (elf_file words symbols)).entry
  unfolding header_to
  entry_in = rw (header_in words symbols program) refl

  pub image_read : image_of (elf_file words symbols) ≡ program_image words symbols
  unfolding program_image segment_long
  image_read =
      sym (image_is (elf_file words symbols) (sections_in words symbols program) (symbols_text symbols) (strings_text symbols)
      (record { symbols = symbols_in_row (0x10000 + 4 * length words) symbols; mcount = hook_in (codes "_mcount") symbols; moncontrol = hook_in (codes "moncontrol") symbols })
      (program_image words symbols)
      (sym (sections_are words symbols program)) (sym (table_is words symbols program)) (sym (strings_are words symbols program))
      (record { symbols = rw candidates_in symbols_in; mcount = rw candidates_in (hooks_in (codes "_mcount")); moncontrol = rw candidates_in (hooks_in (codes "moncontrol")) })
      entry_in (sym (segments_in words symbols program)) (sym (low_read (length words) (length symbols) (length (strings_text symbols)) program.some))
      (sym (high_read (length words) (length symbols) (length (strings_text symbols)) program.some)) refl refl refl)
