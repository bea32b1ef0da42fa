-- Symbols (System V ABI, "Symbol Table"). Which of them are kept is this project's own choice.
use Rattle.std.specs.Prelude.{ℕ, ◌+◌, ◌-◌, ◌*◌, ◌/◌, ◌%◌, ◌<◌, ◌≤◌, Bool, not, ◌&&◌, false, ◌||◌, ◌==◌, nat_lt, nat_le, if◌then◌else◌, List, length, map, filter, find, fold, slice_get, slice_index, Option, Some, None, option_map}
use Rattle.std.specs.Option.{option_map_or}
use Rattle.std.specs.List.{filter_map, range_with_len}
use Rattle.std.specs.Str.{bytes_eq}
use Rattle.std.specs.declared.cmp.Ordering.{Ordering}
use Rattle.std.specs.Ordering.{nat_cmp, ordering_then, is_lt}
use Rattle.std.specs.Cmp.Lexicographic.{slice_cmp}
use Rattle.gp_base.specs.Bytes.{half_at, word_at}
use Rattle.elf32_syms.specs.declared.sections.Section.{Section}
use Rattle.elf32_syms.specs.declared.symbols.Entry.{Entry}
use Rattle.elf32_syms.specs.Sections.{section_end, is_executable, text_low, text_high}
use Rattle.elf32_syms.specs.Names.{name_at, name_ends}

-- symbol n of a table: st_name, st_value, the two halves of st_info, and st_shndx
unfoldable pub entry_at : List ℕ → ℕ → Entry
entry_at table n = record {
  number = n;
  name = word_at table (16 * n);
  addr = word_at table (16 * n + 4);
  binding = slice_index table (16 * n + 12) / 16;
  kind = slice_index table (16 * n + 12) % 16;
  section = half_at table (16 * n + 14);
}

-- a function (FUNC), or a global or weak symbol of no type (NOTYPE)
abbrev pub may_be_function : Entry → Bool
may_be_function e = (e.kind == 2) || ((e.kind == 0) && ((e.binding == 1) || (e.binding == 2)))

-- the symbol's address lies in its section, which is executable
abbrev pub is_in_section : Entry → Section → Bool
is_in_section e s = is_executable s && nat_le s.addr e.addr && nat_lt e.addr (section_end s)

-- symbol 0 is none
unfoldable pub is_candidate : List Section → Entry → Bool
is_candidate sections e =
    nat_lt 0 e.number && may_be_function e && option_map_or (is_in_section e) (slice_get sections e.section) false

-- the fitting symbols of a table
unfoldable pub fitting_entries : List Section → List ℕ → List Entry
fitting_entries sections table = filter (is_candidate sections) (map (entry_at table) (range_with_len 0 (length table / 16)))

-- a symbol's name
abbrev pub symbol_name : List ℕ → Entry → List ℕ
symbol_name strings e = name_at strings e.name

-- no zero byte ends the name
abbrev pub has_endless_name : List ℕ → Entry → Bool
has_endless_name strings e = not (name_ends strings e.name)

-- the candidates: the fitting symbols with a name of at least one byte
abbrev pub has_name : List ℕ → Entry → Bool
has_name strings e = nat_lt 0 (length (symbol_name strings e))

abbrev pub candidates : List ℕ → List Entry → List Entry
candidates strings entries = filter (has_name strings) entries

-- among the candidates at one address a global one comes first, then a weak one, then any other
abbrev pub binding_rank : Entry → ℕ
binding_rank e = if e.binding == 1 then 0 else (if e.binding == 2 then 1 else 2)

-- then a function before a symbol of no type
abbrev pub type_rank : Entry → ℕ
type_rank e = if e.kind == 2 then 0 else 1

-- then the lesser name by its bytes, then the lesser number
abbrev pub rank_cmp : List ℕ → Entry → Entry → Ordering
rank_cmp strings c d =
    ordering_then (nat_cmp (binding_rank c) (binding_rank d))
    (ordering_then (nat_cmp (type_rank c) (type_rank d))
    (ordering_then (slice_cmp nat_cmp (symbol_name strings c) (symbol_name strings d)) (nat_cmp c.number d.number)))

unfoldable pub ranks_before : List ℕ → Entry → Entry → Bool
ranks_before strings c d = is_lt (rank_cmp strings c d)

-- its address lies in the text
abbrev pub IsInText : List Section → Entry → Type 0
IsInText sections e = (text_low sections ≤ e.addr) × (e.addr < text_high sections)

-- the first of two, of which there may be only one
abbrev pub kept_of_two : List ℕ → Option Entry → Entry → Option Entry
kept_of_two strings None c = Some c
kept_of_two strings (Some best) c = if ranks_before strings c best then Some c else Some best

-- the one that is kept of the candidates at an address, if there are any: the first of them
unfoldable pub kept_at : List ℕ → List Entry → ℕ → Option Entry
kept_at strings cs addr = fold (kept_of_two strings) None (filter (λ c. c.addr == addr) cs)

-- the kept ones, in the order of their addresses, which are those of the text
unfoldable pub kept_entries : List Section → List ℕ → List Entry → List Entry
kept_entries sections strings cs =
    filter_map (kept_at strings cs) (range_with_len (text_low sections) (text_high sections - text_low sections))

-- the address of the first candidate by number with this name
abbrev pub hook_of : List ℕ → List Entry → List ℕ → Option ℕ
hook_of strings cs name = option_map (λ (e : Entry). e.addr) (find (λ e. bytes_eq (symbol_name strings e) name) cs)
