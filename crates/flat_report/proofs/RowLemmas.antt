-- The rows of a report, and what their lines show.
use Rattle.std.proofs.Common.{◌≡◌, ℕ, ◌+◌, ◌<◌, ◌≤◌, true, false, Option, List, [], ◌∷◌, ◌++◌, append-nil, length, map, get_or, refl, sym, ap, subst, ◌∙◌, arith}
use Rattle.std.specs.List.{All, sum_by, enumerate_from}
use Rattle.std.specs.Option.{option_map_or}
use Rattle.std.proofs.lemmas.Option.{slice_get-get_or}
use Rattle.std.proofs.lemmas.List.{get_or-map, length-map, map-append}
use Rattle.elf32_syms.specs.declared.image.Symbol.{Symbol}
use Rattle.std.proofs.lemmas.List.FromFn.{get_or-enumerate_from, length-enumerate_from}
use Rattle.std.proofs.lemmas.List.Sums.{sum_by_more, sum_by-take-le}
use Rattle.std.specs.List.Sorted.{IsPermutation, IsSortedBy}
use Rattle.std.proofs.lemmas.List.Elements.{All-nil, All-cons, All-append, All-head, All-tail}
use Rattle.std.proofs.lemmas.List.Sorted.{All-permutation}
use Rattle.flat_report.specs.Order.{in_order}
use Rattle.flat_report.specs.Sources.{Sources, name_of, self_share, child_of, calls_in_all}
use Rattle.flat_report.specs.Entries.{FlatEntry, entry_of, has_line, listed_functions, flat_comes_before, flat_entries}
use Rattle.flat_report.specs.FlatText.{cumulative_of}
use Rattle.flat_report.specs.Rows.{FitsIn, IsRowOf, entry_of_row, entries_of_rows}
use Rattle.flat_report.specs.declared.rows.Row.{Row}
use Rattle.flat_report.proofs.OrderLemmas.{sorted_in_order}
use Rattle.flat_report.proofs.FunctionLemmas.{functions_to, functions_more}
use Rattle.flat_report.proofs.EntryOrder.{function_order, row_before, rows_before}

-- each row has an entry with its number
pub numbered_long : (rows : List Row) → length (enumerate_from 0 (entries_of_rows rows)) ≡ length rows
numbered_long rows = length-enumerate_from 0 (entries_of_rows rows) ∙ length-map rows entry_of_row

-- what a loop knows of row k, and of the grains n of the rows before it
pub record IsRowAt (rows : List Row) (k n : ℕ) (row : Row) : Type 0 where
  pub inside : k < length rows
  pub at : row ≡ get_or rows k row
  pub before : n ≡ cumulative_of (entries_of_rows rows) k

module _ (rows : List Row) (k n : ℕ) (row : Row) (h : IsRowAt rows k n row) where
  abbrev entries : List FlatEntry
  entries = entries_of_rows rows

  abbrev entry : FlatEntry
  entry = entry_of_row row

  entry_inside : k < length entries
  entry_inside = omega (arith, h.inside, length-map rows entry_of_row)

  entry_at : entry ≡ get_or entries k entry
  entry_at = ap entry_of_row h.at ∙ sym (get_or-map entry_of_row rows k row entry h.inside)

  pub numbered_inside : k < length (enumerate_from 0 entries)
  numbered_inside = omega (arith, h.inside, numbered_long rows)

  pub numbered_at : (k, entry) ≡ get_or (enumerate_from 0 entries) k (k, entry)
  numbered_at = grind (arith, get_or-enumerate_from, entry_inside, entry_at)

  -- the grains with its own
  pub cumulative_more : n + row.share ≡ cumulative_of entries (k + 1)
  cumulative_more = grind (arith, entry_at, sum_by_more, entry_inside)

  pub cumulative_within : (total : ℕ) → sum_by (λ (e : FlatEntry). e.share) entries ≤ total → n + row.share ≤ total
  cumulative_within total all = omega (arith, all, cumulative_more, sum_by-take-le (λ (e : FlatEntry). e.share) entries (k + 1))

  pub row_fits : (total : ℕ) → All (FitsIn total) entries → FitsIn total entry
  row_fits total fit = subst (FitsIn total) (sym entry_at) (fit k entry entry_inside)

-- ---- rows of functions

pub name_is : (s : Sources) (f : ℕ) (d : Symbol) → f < length s.symbols → (get_or s.symbols f d).name ≡ name_of s f
name_is s f d below = sym (ap (λ (o : Option Symbol). option_map_or (λ (symbol : Symbol). symbol.name) o []) (slice_get-get_or s.symbols f d below))

pub entry_is : (s : Sources) (f share child calls : ℕ) (name : List ℕ) → share ≡ self_share s f → child ≡ child_of s f → calls ≡ calls_in_all s.graph f → name ≡ name_of s f
    → record { share = share; total = share + child; calls = calls; name = name } ≡ entry_of s f
entry_is s f share child calls name p q r n = λ i. record { share = p i; total = p i + q i; calls = r i; name = n i }

module _ (s : Sources) where
  row_added : (rows : List Row) (row : Row) → All (IsRowOf s) rows → IsRowOf s row → All (IsRowOf s) (rows ++ row ∷ [])
  row_added rows row all is = All-append (IsRowOf s) rows (row ∷ []) all (All-cons (IsRowOf s) row [] is (All-nil (IsRowOf s)))

  -- the rows of the first k functions
  pub record AreRowsTo (k : ℕ) (rows : List Row) : Type 0 where
    pub rows_of : All (IsRowOf s) rows
    pub functions : map (λ (row : Row). row.number) rows ≡ functions_to s k

  module _ (k : ℕ) (rows : List Row) (row : Row) (are : AreRowsTo k rows) (is : IsRowOf s row) (number : row.number ≡ k) where
    pub row_shown : has_line (entry_of_row row) ≡ true → AreRowsTo (k + 1) (rows ++ row ∷ [])
    row_shown shown = grind (arith, row_added, map-append, functions_more)

    pub row_hidden : has_line (entry_of_row row) ≡ false → AreRowsTo (k + 1) rows
    row_hidden hidden = grind (arith, append-nil, functions_more)

  rows_are_entries : (rows : List Row) → All (IsRowOf s) rows → entries_of_rows rows ≡ map (entry_of s) (map (λ (row : Row). row.number) rows)
  rows_are_entries [] all = refl
  rows_are_entries (row ∷ rows) all =
      let here = All-head (IsRowOf s) row rows all in
      let rest = rows_are_entries rows (All-tail (IsRowOf s) row rows all) in
      λ i. here i ∷ rest i

  -- rows that are sorted are in the order of their functions
  pub rows_in_order : (old new : List Row) → All (IsRowOf s) old → map (λ (row : Row). row.number) old ≡ listed_functions s → IsPermutation old new → IsSortedBy row_before new → entries_of_rows new ≡ flat_entries s
  rows_in_order old new all functions moved up =
      let those = All-permutation (IsRowOf s) old new moved all in
      let sorted : IsSortedBy (λ a b. flat_comes_before s a.number b.number) new =
      λ k d low below. sym (rows_before s (get_or new (k + 1) d) (get_or new k d) (those (k + 1) d (omega arith)) (those k d (omega arith))) ∙ up k d low below in
      rows_are_entries new those
      ∙ ap (map (entry_of s)) (sorted_in_order (flat_comes_before s) (function_order s) (λ (row : Row). row.number) old new moved sorted ∙ ap (in_order (flat_comes_before s)) functions)
