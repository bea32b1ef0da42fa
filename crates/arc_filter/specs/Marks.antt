-- Which functions the words of cuts name, function by function.
-- Only private functions and invariants speak of it.
use Rattle.std.specs.Prelude.{◌≡◌, ℕ, ◌&&◌, false, Bool, List, map, length, slice_index_or}
use Rattle.std.specs.List.{All, list_any, range_with_len}
use Rattle.std.specs.Str.{bytes_eq}
use Rattle.elf32_syms.specs.declared.image.Symbol.{Symbol}
use Rattle.settings.specs.CutWords.{from_of, to_of}
use Rattle.arc_filter.specs.declared.marks.Marks.{Marks}

-- of each symbol, whether it has the name
abbrev pub name_marks : List Symbol → List ℕ → List Bool
name_marks symbols name = map (λ (s : Symbol). bytes_eq s.name name) symbols

abbrev pub sides_of : Marks → List Bool × List Bool
sides_of m = (m.from.items, m.to.items)

abbrev pub sides_named : List Symbol → List ℕ → List Bool × List Bool
sides_named symbols word = (name_marks symbols (from_of word), name_marks symbols (to_of word))

-- the marks are those of these words, one after the other
abbrev pub AreMarks : List Symbol → List (List ℕ) → List Marks → Type 0
AreMarks symbols words marks = map sides_of marks ≡ map (sides_named symbols) words

-- the marks are of n functions
abbrev pub AreOf : ℕ → List Marks → Type 0
AreOf n marks = All (λ (m : Marks). (length m.from.items ≡ n) × (length m.to.items ≡ n)) marks

-- some marks have both functions, the one as FROM and the other as TO
abbrev pub is_marked : List Marks → ℕ → ℕ → Bool
is_marked marks f g = list_any (λ (m : Marks). slice_index_or m.from.items f false && slice_index_or m.to.items g false) marks

-- some marks have the function as FROM
abbrev pub is_caller_marked : List Marks → ℕ → Bool
is_caller_marked marks f = list_any (λ (m : Marks). slice_index_or m.from.items f false) marks

-- of each of n functions, whether some marks have it as FROM
abbrev pub callers_marked : ℕ → List Marks → List Bool
callers_marked n marks = map (is_caller_marked marks) (range_with_len 0 n)
