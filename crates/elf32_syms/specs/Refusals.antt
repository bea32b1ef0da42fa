-- The refusals of a file, in the order in which they are looked for. Each is None where its conditions aren't met.
use Rattle.std.specs.Prelude.{◌≡◌, ℕ, ◌+◌, ◌-◌, ◌*◌, Bool, true, false, not, ◌&&◌, ◌||◌, ◌==◌, nat_lt, if◌then◌else◌, List, length, find, slice_get, Option, Some, None, option_map, Result, MatchResult}
use Rattle.std.specs.Option.{option_or, option_and_then}
use Rattle.gp_base.specs.declared.limits.TheConstants.{MAX_PROGRAM_HEADERS, MAX_SYMBOLS, MAX_TEXT_BYTES, MAX_TEXT_END}
use Rattle.elf32_syms.specs.declared.refusal.ElfRefusal.{ElfRefusal}
use Rattle.elf32_syms.specs.declared.refusal.ElfRefusal.TheVariants.{Short, Magic, Class, Order, Kind, Machine, Flags, TableSize, OutOfFile, Link, TextRange, TooManySymbols, OutOfMemory}
use Rattle.elf32_syms.specs.declared.header.Header.{Header}
use Rattle.elf32_syms.specs.declared.sections.Section.{Section}
use Rattle.elf32_syms.specs.declared.symbols.Entry.{Entry}
use Rattle.elf32_syms.specs.Header.{has_flag, has_magic, header_of}
use Rattle.elf32_syms.specs.Segments.{segments_of, is_cut_off}
use Rattle.elf32_syms.specs.Sections.{sections_of, executables, text_low, text_high, symbol_table, table_of, strings_of}
use Rattle.elf32_syms.specs.Symbols.{fitting_entries, has_endless_name, candidates, kept_entries}

-- the kind of file that the header tells
unfoldable pub kind_refusal : Header → Option ElfRefusal
kind_refusal h =
    if not (h.class == 1) then Some (Class h.class)
    else (if not (h.order == 1) then Some (Order h.order)
    else (if not (h.kind == 2) then Some (Kind h.kind)
    else (if not (h.machine == 243) then Some (Machine h.machine)
    else (if has_flag h.flags 1 || has_flag h.flags 8 then Some (Flags h.flags)
    else None))))

-- the two tables: the sizes of their entries, and that they lie in the file
unfoldable pub tables_refusal : ℕ → Header → Option ElfRefusal
tables_refusal len h =
    if not (h.programs == 0) && not (h.program_bytes == 32) then Some (TableSize h.program_bytes)
    else (if nat_lt MAX_PROGRAM_HEADERS h.programs then Some (TableSize h.programs)
    else (if not (h.sections == 0) && not (h.section_bytes == 40) then Some (TableSize h.section_bytes)
    else (if not (h.programs == 0) && nat_lt len (h.programs_at + 32 * h.programs) then Some (OutOfFile h.programs_at)
    else (if not (h.sections == 0) && nat_lt len (h.sections_at + 40 * h.sections) then Some (OutOfFile h.sections_at)
    else None))))

-- the header: its length, its magic bytes, the kind of file, and the tables
unfoldable pub header_refusal : List ℕ → Option ElfRefusal
header_refusal bs =
    if nat_lt (length bs) 52 then Some (Short (length bs))
    else (if not (has_magic bs) then Some Magic
    else option_or (kind_refusal (header_of bs)) (tables_refusal (length bs) (header_of bs)))

-- the first segment whose bytes do not all lie in the file
unfoldable pub segments_refusal : List ℕ → Option ElfRefusal
segments_refusal bs = option_map (λ s. OutOfFile s.offset) (find (is_cut_off (length bs)) (segments_of bs))

-- a range that is too long for a text, or ends too high
abbrev pub is_too_far : ℕ → ℕ → Bool
is_too_far low high = nat_lt MAX_TEXT_BYTES (high - low) || nat_lt MAX_TEXT_END high

-- no executable section, or sections that reach too far
unfoldable pub text_refusal : List Section → Option ElfRefusal
text_refusal sections =
    if (length (executables sections) == 0) || is_too_far (text_low sections) (text_high sections)
    then Some (TextRange (text_low sections) (text_high sections))
    else None

-- a section does not lie in the file
abbrev pub place_refusal : ℕ → Section → Option ElfRefusal
place_refusal len s = if nat_lt len (s.offset + s.size) then Some (OutOfFile s.offset) else None

-- the section that a symbol table is linked to
abbrev pub link_refusal : ℕ → Section → Option Section → Option ElfRefusal
link_refusal len table None = Some (Link table.link)
link_refusal len table (Some s) = if not (s.kind == 3) then Some (Link table.link) else place_refusal len s

-- the symbol table and the section of its strings, where there is a symbol table
unfoldable pub table_refusal : ℕ → List Section → Option ElfRefusal
table_refusal len sections =
    option_and_then (λ t. option_or (place_refusal len t) (link_refusal len t (slice_get sections t.link))) (symbol_table sections)

-- the first fitting symbol whose name has no end
unfoldable pub names_refusal : List ℕ → List Entry → Option ElfRefusal
names_refusal strings entries = option_map (λ e. Link e.number) (find (has_endless_name strings) entries)

-- too many kept symbols
unfoldable pub count_refusal : List Entry → Option ElfRefusal
count_refusal kept = if nat_lt MAX_SYMBOLS (length kept) then Some (TooManySymbols (length kept)) else None

-- the fitting symbols' names, and how many are kept
unfoldable pub symbols_refusal : List Section → List ℕ → List ℕ → Option ElfRefusal
symbols_refusal sections table strings =
    let entries = fitting_entries sections table in
    option_or (names_refusal strings entries) (count_refusal (kept_entries sections strings (candidates strings entries)))

-- the first of them all
unfoldable pub elf_refusal : List ℕ → Option ElfRefusal
elf_refusal bs =
    let sections = sections_of bs in
    option_or (header_refusal bs)
    (option_or (segments_refusal bs)
    (option_or (text_refusal sections)
    (option_or (table_refusal (length bs) sections) (symbols_refusal sections (table_of bs sections) (strings_of bs sections)))))

-- an error is this refusal, or that no memory was left, which is free
abbrev pub IsRefusal : ElfRefusal → Option ElfRefusal → Type 0
IsRefusal OutOfMemory refusal = Unit {0}
IsRefusal e refusal = refusal ≡ Some e

-- a test's answer: Ok where there is no refusal, and else that refusal
abbrev pub Judges : {T : Type 0} → Option ElfRefusal → Result T ElfRefusal → Type 0
Judges refusal result = MatchResult result (λ _. refusal ≡ None) (λ e. refusal ≡ Some e)

-- it is told of the header alone
abbrev pub is_of_header : ElfRefusal → Bool
is_of_header (Short len) = true
is_of_header Magic = true
is_of_header (Class value) = true
is_of_header (Order value) = true
is_of_header (Kind value) = true
is_of_header (Machine value) = true
is_of_header (Flags value) = true
is_of_header (TableSize value) = true
is_of_header refusal = false
