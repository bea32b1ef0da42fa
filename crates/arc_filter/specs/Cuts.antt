-- Calls that are cut, by words FROM/TO: the calls of functions with the name FROM to functions with the name TO.
use Rattle.std.specs.Prelude.{ℕ, ◌&&◌, not, false, Bool, List, filter, slice_get}
use Rattle.std.specs.List.{list_any}
use Rattle.std.specs.Option.{option_map_or}
use Rattle.std.specs.Str.{bytes_eq}
use Rattle.elf32_syms.specs.declared.image.Symbol.{Symbol}
use Rattle.elf32_syms.specs.Owners.{owner_of}
use Rattle.settings.specs.CutWords.{from_of, to_of}
use Rattle.gmon_data.specs.Content.{Content}

-- function f has the name
abbrev pub is_named : List Symbol → List ℕ → ℕ → Bool
is_named symbols name f = option_map_or (λ (s : Symbol). bytes_eq s.name name) (slice_get symbols f) false

-- calls from function f to function g are cut
unfoldable pub is_cut_pair : List Symbol → List (List ℕ) → ℕ → ℕ → Bool
is_cut_pair symbols cuts f g = list_any (λ word. is_named symbols (from_of word) f && is_named symbols (to_of word) g) cuts

-- the address lies in a function with the name
abbrev pub lies_in_named : List Symbol → List ℕ → ℕ → Bool
lies_in_named symbols name address = option_map_or (is_named symbols name) (owner_of symbols address) false

-- some word cuts the calls from one address to another: each lies in a function with the name on its side
unfoldable pub is_cut : List Symbol → List (List ℕ) → ℕ → ℕ → Bool
is_cut symbols cuts from to = list_any (λ word. lies_in_named symbols (from_of word) from && lies_in_named symbols (to_of word) to) cuts

-- an arc, by call site and callee, that stays
abbrev pub stays : List Symbol → List (List ℕ) → (ℕ × ℕ) × ℕ → Bool
stays symbols cuts arc = not (is_cut symbols cuts arc.0.0 arc.0.1)

-- the content without the arcs that are cut; all else and the order stay
unfoldable pub without_cuts : Content → List Symbol → List (List ℕ) → Content
without_cuts p symbols cuts = record p { arcs = filter (stays symbols cuts) p.arcs }
