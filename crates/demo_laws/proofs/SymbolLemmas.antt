-- The symbols of the file and their names: what is read of them, and that they are accepted.
use Rattle.std.proofs.Common.{◌≡◌, ℕ, ◌+◌, ◌*◌, ◌/◌, ◌%◌, ◌^◌, ◌<◌, true, nat_lt, nat_le, List, [], ◌∷◌, ◌++◌, length, map, slice_index, refl, sym, ap, ◌∙◌, arith, append_assoc, length-append}
use Rattle.std.specs.List.{filter, flat_map, range_with_len}
use Rattle.std.proofs.lemmas.Bool.Decides.{nat_tests}
use Rattle.std.proofs.lemmas.List.{drop_at, get_or-drop}
use Rattle.gp_base.specs.Bytes.{word_at, half_at}
use Rattle.elf32_syms.specs.Symbols.{entry_at, is_candidate}
use Rattle.demo_elf.specs.Elf.{words_text, symbol_text, symbols_from, string_text}
use Rattle.demo_laws.specs.Programs.{AreInOrder}
use Rattle.demo_laws.proofs.Reading.{word_back, word_behind, half_behind, Entry}
use Rattle.demo_laws.proofs.SectionLemmas.{sections_to, text_section, text_executable}

-- the symbol of a number, with a name at an offset of the strings and an offset in the text
unfoldable pub entry_of : ℕ → ℕ → ℕ → Entry
entry_of number name offset = record { number = number; name = name; addr = 0x10000 + offset; binding = 1; kind = 2; section = 1 }

-- the symbols from a number on, whose names stand in the strings from an offset on
abbrev pub entries_from : ℕ → ℕ → List (List ℕ × ℕ) → List Entry
entries_from number at [] = []
entries_from number at (s ∷ more) = entry_of number at s.1 ∷ entries_from (number + 1) (at + (length s.0 + 1)) more

-- the last offset at which a name of some symbols may begin
abbrev pub strings_end : ℕ → List (List ℕ × ℕ) → ℕ
strings_end at symbols = at + length (flat_map string_text symbols)

-- ---- the table

index_behind : (front rest : List ℕ) (at k : ℕ) → length front ≡ at → slice_index (front ++ rest) (at + k) ≡ slice_index rest k
index_behind front rest at k long = sym (get_or-drop at (front ++ rest) k 0) ∙ ap (λ (xs : List ℕ). slice_index xs k) (drop_at front rest at long)

symbol_long : (name offset : ℕ) → length (symbol_text name offset) ≡ 16
unfolding symbol_text words_text
symbol_long name offset = refl

module _ (name offset : ℕ) (rest : List ℕ) (named : name < 2 ^ 32) (inside : 0x10000 + offset < 2 ^ 32) where
  name_field : word_at (symbol_text name offset ++ rest) 0 ≡ name
  unfolding symbol_text words_text
  name_field = word_back name named

  addr_field : word_at (symbol_text name offset ++ rest) 4 ≡ 0x10000 + offset
  unfolding symbol_text words_text
  addr_field = word_back (0x10000 + offset) inside

  info_field : slice_index (symbol_text name offset ++ rest) 12 ≡ 0x12
  unfolding symbol_text words_text
  info_field = refl

  section_field : half_at (symbol_text name offset ++ rest) 14 ≡ 1
  unfolding symbol_text words_text
  section_field = refl

  entry_read : (front : List ℕ) (number : ℕ) → length front ≡ 16 * number → entry_at (front ++ (symbol_text name offset ++ rest)) number ≡ entry_of number name offset
  unfolding entry_at entry_of
  entry_read front number long = λ i. record {
    number = number;
    name = (first ∙ name_field) i;
    addr = (word_behind front (symbol_text name offset ++ rest) (16 * number) 4 long ∙ addr_field) i;
    binding = info i / 16;
    kind = info i % 16;
    section = (half_behind front (symbol_text name offset ++ rest) (16 * number) 14 long ∙ section_field) i;
  }
    where
      first : word_at (front ++ (symbol_text name offset ++ rest)) (16 * number) ≡ word_at (symbol_text name offset ++ rest) 0
      first = let e : 16 * number ≡ 16 * number + 0 = omega arith in ap (word_at (front ++ (symbol_text name offset ++ rest))) e ∙ word_behind front (symbol_text name offset ++ rest) (16 * number) 0 long

      info : slice_index (front ++ (symbol_text name offset ++ rest)) (16 * number + 12) ≡ 0x12
      info = index_behind front (symbol_text name offset ++ rest) (16 * number) 12 long ∙ info_field

pub entries_read : (front : List ℕ) (number at low high : ℕ) (symbols : List (List ℕ × ℕ)) → length front ≡ 16 * number → strings_end at symbols < 2 ^ 32 → 0x10000 + high < 2 ^ 32 → AreInOrder low high symbols
    → map (entry_at (front ++ symbols_from at symbols)) (range_with_len number (length symbols)) ≡ entries_from number at symbols
entries_read front number at low high [] long named inside order = refl
entries_read front number at low high (s ∷ symbols) long named inside order =
    let offset_inside = order.1 in
    let next = at + (length s.0 + 1) in
    let more = symbols_from next symbols in
    let text = symbol_text at s.1 in
    let regroup : front ++ (text ++ more) ≡ (front ++ text) ++ more = sym (append_assoc front text more) in
    let longer : length (front ++ text) ≡ 16 * (number + 1) = omega (arith, length-append front text, symbol_long at s.1) in
    let string_long : length (flat_map string_text (s ∷ symbols)) ≡ length s.0 + 1 + length (flat_map string_text symbols) = omega (arith, length-append (string_text s) (flat_map string_text symbols), length-append s.0 (0 ∷ [])) in
    let rest = entries_read (front ++ text) (number + 1) next (s.1 + 1) high symbols longer (omega arith) inside order.2 in
    ap (λ (e : Entry). e ∷ map (entry_at (front ++ (text ++ more))) (range_with_len (number + 1) (length symbols))) (entry_read at s.1 more (omega arith) (omega arith) front number long)
    ∙ ap (λ (es : List Entry). entry_of number at s.1 ∷ es) (ap (λ (bs : List ℕ). map (entry_at bs) (range_with_len (number + 1) (length symbols))) regroup ∙ rest)

-- ---- they fit

module _ (text symbols strings : ℕ) (some : 0 < text) where
  symbol_fits : (number name offset : ℕ) → 0 < number → offset < 4 * text → is_candidate (sections_to text symbols strings) (entry_of number name offset) ≡ true
  unfolding is_candidate entry_of sections_to text_section
  symbol_fits number name offset positive inside = grind (arith, nat_lt, nat_tests, nat_le, text_executable)

  pub all_fit : (number at low : ℕ) (named : List (List ℕ × ℕ)) → 0 < number → AreInOrder low (4 * text) named
      → filter (is_candidate (sections_to text symbols strings)) (entries_from number at named) ≡ entries_from number at named
  all_fit number at low [] positive order = refl
  all_fit number at low (s ∷ named) positive order =
      rw (symbol_fits number at s.1 positive order.1)
      (ap (λ (es : List Entry). entry_of number at s.1 ∷ es) (all_fit (number + 1) (at + (length s.0 + 1)) (s.1 + 1) named (omega arith) order.2))
