-- The text of the flat profile: where the time went, function by function.
use Rattle.std.specs.Prelude.{ℕ, ◌+◌, ◌*◌, ◌==◌, List, ◌++◌, take, codes, if◌then◌else◌}
use Rattle.std.specs.List.{flat_map, enumerate_from, sum_by}
use Rattle.text_cols.specs.Columns.{decimal, hundredths_of, right_of, spaces}
use Rattle.symbol_shares.specs.Shares.{ShareTable, attributed_of}
use Rattle.flat_report.specs.Sources.{Sources}
use Rattle.flat_report.specs.Entries.{FlatEntry, flat_entries}
use Rattle.flat_report.specs.Hidden.{shown_entries}

-- grains in seconds, at so many samples of 1,000,000 grains a second
abbrev pub seconds_of : ℕ → ℕ → List ℕ
seconds_of rate grains = hundredths_of grains (1000000 * rate)

-- grains in milliseconds a call
abbrev pub milliseconds_of : ℕ → ℕ → ℕ → List ℕ
milliseconds_of rate grains calls = hundredths_of (1000 * grains) (1000000 * rate * calls)

-- A part of a whole in percent, with two digits after the point. Where the whole is nothing, it is 0.00.
unfoldable pub percent_of : ℕ → ℕ → List ℕ
percent_of part whole = if whole == 0 then codes "0.00" else hundredths_of (100 * part) whole

-- the grains of all functions and of none, and the rate
unfoldable pub totals_line : ShareTable → ℕ → List ℕ
totals_line t rate =
    codes "attributed " ++ decimal (attributed_of t) ++ codes ", outside " ++ decimal t.outside ++ codes ", rate " ++ decimal rate ++ codes "\n"

-- what stands above the functions
unfoldable pub flat_header : ShareTable → ℕ → List ℕ
flat_header t rate =
    codes "flat profile\n" ++ totals_line t rate ++ codes "  %time   cumulative       self      calls  self ms/call  total ms/call  name\n"

-- the calls of a function, and a call's part of its own time and of its total; without calls nothing
unfoldable pub call_columns_of : ℕ → FlatEntry → List ℕ
call_columns_of rate e =
    if e.calls == 0 then spaces 40
    else right_of (decimal e.calls) 11 ++ right_of (milliseconds_of rate e.share e.calls) 14 ++ right_of (milliseconds_of rate e.total e.calls) 15

-- In front of a function's name: its part of what all functions have, in percent, the seconds of the lines up to this
-- one, and its own, and the columns on its calls
unfoldable pub columns_of : ℕ → ℕ → ℕ → FlatEntry → List ℕ
columns_of total rate cumulative e =
    right_of (percent_of e.share total) 7 ++ right_of (seconds_of rate cumulative) 13 ++ right_of (seconds_of rate e.share) 11 ++ call_columns_of rate e ++ codes "  "

unfoldable pub line_of : ℕ → ℕ → ℕ → FlatEntry → List ℕ
line_of total rate cumulative e = columns_of total rate cumulative e ++ e.name ++ codes "\n"

-- the grains of the first n entries
abbrev pub cumulative_of : List FlatEntry → ℕ → ℕ
cumulative_of entries n = sum_by (λ (e : FlatEntry). e.share) (take n entries)

-- the line of an entry, given with its number: its cumulative time is that of the lines up to it, this one included
abbrev pub line_at : ℕ → ℕ → List FlatEntry → ℕ × FlatEntry → List ℕ
line_at total rate entries numbered = line_of total rate (cumulative_of entries (numbered.0 + 1)) numbered.1

-- a line for each entry but those of hidden functions
abbrev pub flat_lines : ℕ → ℕ → List (List ℕ) → List FlatEntry → List ℕ
flat_lines total rate hidden entries = flat_map (line_at total rate entries) (shown_entries hidden (enumerate_from 0 entries))

-- the header, and a line for each of these entries but those of hidden functions
abbrev pub text_of : Sources → List (List ℕ) → List FlatEntry → List ℕ
text_of s hidden entries = flat_header s.shares s.rate ++ flat_lines (attributed_of s.shares) s.rate hidden entries

-- The flat profile: a line for each function that has a share or is called, in order, but for functions with a hidden
-- name. The others have the lines that they have where none is hidden.
unfoldable pub flat_text : Sources → List (List ℕ) → List ℕ
flat_text s hidden = text_of s hidden (flat_entries s)
