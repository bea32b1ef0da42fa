-- The rows of entries.
use Rattle.std.proofs.Common.{◌≡◌, ℕ, ◌+◌, Bool, true, false, cond, List, [], ◌∷◌, ◌++◌, map, append_assoc, append-nil, ap, sym, ◌∙◌}
use Rattle.std.specs.Prelude.{filter}
use Rattle.std.proofs.lemmas.List.{map-append}
use Rattle.call_cycles.specs.Sums.{numbers_below}
use Rattle.flat_report.specs.Sources.{Sources}
use Rattle.graph_report.specs.Entries.{GraphEntry, graph_entries}
use Rattle.graph_report.specs.Rows.{cycle_entries, entries_of_rows, entry_of_row, function_entries}
use Rattle.graph_report.specs.declared.rows.Row.{Row}
use Rattle.graph_report.proofs.GroupLemmas.{filter_next}

-- the entries of the numbers below n that pass
abbrev entries_below : (ℕ → GraphEntry) → (ℕ → Bool) → ℕ → List GraphEntry
entries_below make p n = map make (filter p (numbers_below n))

entries_next : (make : ℕ → GraphEntry) (p : ℕ → Bool) (n : ℕ) → entries_below make p (n + 1) ≡ entries_below make p n ++ map make (cond (p n) (n ∷ []) [])
entries_next make p n = ap (map make) (filter_next p n) ∙ map-append make (filter p (numbers_below n)) (cond (p n) (n ∷ []) [])

module _ (make : ℕ → GraphEntry) (p : ℕ → Bool) (start now : List Row) (n : ℕ) (so_far : entries_of_rows now ≡ entries_of_rows start ++ map make (filter p (numbers_below n))) where
  pub row_added : (row : Row) → p n ≡ true → entry_of_row row ≡ make n → entries_of_rows (now ++ row ∷ []) ≡ entries_of_rows start ++ map make (filter p (numbers_below (n + 1)))
  row_added row passes is =
      map-append entry_of_row now (row ∷ [])
      ∙ ap (λ (es : List GraphEntry). es ++ entry_of_row row ∷ []) so_far
      ∙ ap (λ (e : GraphEntry). (entries_of_rows start ++ entries_below make p n) ++ e ∷ []) is
      ∙ append_assoc (entries_of_rows start) (entries_below make p n) (make n ∷ [])
      ∙ ap (λ (b : Bool). entries_of_rows start ++ (entries_below make p n ++ map make (cond b (n ∷ []) []))) (sym passes)
      ∙ ap (λ (es : List GraphEntry). entries_of_rows start ++ es) (sym (entries_next make p n))

  pub no_row : p n ≡ false → entries_of_rows now ≡ entries_of_rows start ++ map make (filter p (numbers_below (n + 1)))
  no_row fails =
      so_far
      ∙ ap (λ (es : List GraphEntry). entries_of_rows start ++ es) (sym (append-nil (entries_below make p n)))
      ∙ ap (λ (b : Bool). entries_of_rows start ++ (entries_below make p n ++ map make (cond b (n ∷ []) []))) (sym fails)
      ∙ ap (λ (es : List GraphEntry). entries_of_rows start ++ es) (sym (entries_next make p n))

-- the cycles, and then the functions, are the entries
pub all_rows : (s : Sources) (none cycles rows : List Row) → none ≡ [] → entries_of_rows cycles ≡ entries_of_rows none ++ cycle_entries s → entries_of_rows rows ≡ entries_of_rows cycles ++ function_entries s → entries_of_rows rows ≡ graph_entries s
unfolding graph_entries
all_rows s none cycles rows start first second =
    second ∙ ap (λ (es : List GraphEntry). es ++ function_entries s) (first ∙ ap (λ (xs : List Row). entries_of_rows xs ++ cycle_entries s) start)
