-- The lines that are printed, in the form that flame graph tools read: one for each stack.
use Rattle.std.specs.Prelude.{ℕ, ◌==◌, List, [], ◌∷◌, ◌++◌, codes, decimal, slice_get, slice_index, length, Option, Some, None, if◌then◌else◌}
use Rattle.std.specs.List.{flat_map, range_with_len}
use Rattle.std.specs.Option.{option_map_or}
use Rattle.elf32_syms.specs.declared.image.Symbol.{Symbol}
use Rattle.folded.specs.Tally.{FoldedValue}

abbrev pub name_in : List Symbol → Option ℕ → List ℕ
name_in symbols None = codes "[unknown]"
name_in symbols (Some f) = option_map_or (λ (symbol : Symbol). symbol.name) (slice_get symbols f) []

abbrev pub callee_text : List Symbol → Option ℕ → List ℕ
callee_text symbols f = codes ";" ++ name_in symbols f

-- the names, with `;` between them
abbrev pub stack_text : List Symbol → List (Option ℕ) → List ℕ
stack_text symbols [] = []
stack_text symbols (f ∷ callees) = name_in symbols f ++ flat_map (callee_text symbols) callees

abbrev pub count_text : ℕ → List ℕ
count_text n = codes " " ++ decimal n ++ codes "\n"

unfoldable pub line_text : List Symbol → List (Option ℕ) × ℕ → List ℕ
line_text symbols line = stack_text symbols line.0 ++ count_text line.1

abbrev pub lines_text : List Symbol → List (List (Option ℕ) × ℕ) → List ℕ
lines_text symbols lines = flat_map (line_text symbols) lines

-- a function that samples have, and how many
unfoldable pub inclusive_line : List Symbol → ℕ → ℕ → List ℕ
inclusive_line symbols f n = if n == 0 then [] else name_in symbols (Some f) ++ count_text n

abbrev pub function_line : List Symbol → List ℕ → ℕ → List ℕ
function_line symbols inclusive f = inclusive_line symbols f (slice_index inclusive f)

abbrev pub functions_text : List Symbol → List ℕ → List ℕ
functions_text symbols inclusive = flat_map (function_line symbols inclusive) (range_with_len 0 (length inclusive))

abbrev pub folded_text : List Symbol → FoldedValue → List ℕ
folded_text symbols f = lines_text symbols f.lines

abbrev pub inclusive_text : List Symbol → FoldedValue → List ℕ
inclusive_text symbols f = functions_text symbols f.inclusive
