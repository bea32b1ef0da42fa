-- Functions that are left out of a report, by their names.
use Rattle.std.specs.Prelude.{ℕ, not, Bool, List, filter}
use Rattle.std.specs.List.{list_any}
use Rattle.std.specs.Str.{bytes_eq}
use Rattle.flat_report.specs.Entries.{FlatEntry}

-- the name is among the hidden ones
unfoldable pub is_hidden : List (List ℕ) → List ℕ → Bool
is_hidden hidden name = list_any (λ other. bytes_eq other name) hidden

-- of entries, each given with its number, those of functions that aren't hidden
abbrev pub shown_entries : List (List ℕ) → List (ℕ × FlatEntry) → List (ℕ × FlatEntry)
shown_entries hidden entries = filter (λ (e : ℕ × FlatEntry). not (is_hidden hidden e.1.name)) entries
