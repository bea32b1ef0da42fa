-- The functions that have a line in the flat profile, their order, and what the lines show of them.
use Rattle.std.specs.Prelude.{ℕ, Bool, ◌||◌, nat_lt, List, map, filter}
use Rattle.std.specs.declared.cmp.Ordering.{Ordering}
use Rattle.std.specs.Ordering.{nat_cmp, ordering_then, is_lt}
use Rattle.std.specs.Cmp.Lexicographic.{slice_cmp}
use Rattle.call_cycles.specs.Sums.{numbers_below}
use Rattle.flat_report.specs.Order.{in_order}
use Rattle.flat_report.specs.Sources.{Sources, name_of, self_share, inclusive_total, calls_in_all}

-- what a line shows of a function: its grains, those with what it gets from those that it calls, its calls and its name
pub record FlatEntry : Type 0 where
  pub share : ℕ
  pub total : ℕ
  pub calls : ℕ
  pub name : List ℕ

abbrev pub entry_of : Sources → ℕ → FlatEntry
entry_of s f = record { share = self_share s f; total = inclusive_total s f; calls = calls_in_all s.graph f; name = name_of s f }

-- a function has a line where it has a share or is called
abbrev pub has_line : FlatEntry → Bool
has_line e = nat_lt 0 e.share || nat_lt 0 e.calls

-- the functions that have a line, in the order of their addresses
unfoldable pub listed_functions : Sources → List ℕ
listed_functions s = filter (λ f. has_line (entry_of s f)) (numbers_below s.graph.functions)

-- Entries, each given with its function: the greater share comes first, then the more calls, then the lesser name by its
-- bytes, then the lesser address.
abbrev pub flat_entry_cmp : ℕ × FlatEntry → ℕ × FlatEntry → Ordering
flat_entry_cmp a b =
    ordering_then (nat_cmp b.1.share a.1.share)
    (ordering_then (nat_cmp b.1.calls a.1.calls) (ordering_then (slice_cmp nat_cmp a.1.name b.1.name) (nat_cmp a.0 b.0)))

unfoldable pub flat_comes_before : Sources → ℕ → ℕ → Bool
flat_comes_before s f h = is_lt (flat_entry_cmp (f, entry_of s f) (h, entry_of s h))

-- the functions that have a line, in the order of their lines
abbrev pub flat_order : Sources → List ℕ
flat_order s = in_order (flat_comes_before s) (listed_functions s)

abbrev pub flat_entries : Sources → List FlatEntry
flat_entries s = map (entry_of s) (flat_order s)
