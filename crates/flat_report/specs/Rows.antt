-- The rows from which a report is printed.
-- Only private functions and invariants speak of it.
use Rattle.std.specs.Prelude.{◌≡◌, ℕ, ◌^◌, ◌<◌, ◌≤◌, List, [], map, if◌then◌else◌}
use Rattle.flat_report.specs.declared.sources.Sources as declared
use Rattle.flat_report.specs.declared.rows.Row.{Row}
use Rattle.flat_report.specs.Sources.{Sources}
use Rattle.flat_report.specs.Entries.{FlatEntry, entry_of}
use Rattle.flat_report.specs.FlatText.{line_of}
use Rattle.flat_report.specs.Hidden.{is_hidden}

-- the sources that references lead to
abbrev pub sources_of : declared.Sources → Sources
sources_of a = record { symbols = a.symbols.now; graph = a.graph.now; flow = a.flow.now; shares = a.shares.now; rate = a.rate }

-- the entry that a row stands for
abbrev pub entry_of_row : Row → FlatEntry
entry_of_row row = record { share = row.share; total = row.total; calls = row.calls; name = row.symbol.now.name }

abbrev pub entries_of_rows : List Row → List FlatEntry
entries_of_rows rows = map entry_of_row rows

-- the row is that of its function
abbrev pub IsRowOf : Sources → Row → Type 0
IsRowOf s row = entry_of_row row ≡ entry_of s row.number

-- the entry's times are at most so many grains, and its calls are few
pub record FitsIn (total : ℕ) (e : FlatEntry) : Type 0 where
  pub share : e.share ≤ total
  pub whole : e.total ≤ total
  pub calls : e.calls < 2 ^ 59

-- the line of an entry, unless its function is hidden
abbrev pub shown_line : List (List ℕ) → ℕ → ℕ → ℕ → FlatEntry → List ℕ
shown_line hidden total rate cumulative e = if is_hidden hidden e.name then [] else line_of total rate cumulative e
