-- The order of functions by their entries: there is one order only.
use Rattle.std.proofs.Common.{◌≡◌, ℕ, Bool, ap, ◌∙◌}
use Rattle.std.specs.declared.cmp.Ordering.{Ordering}
use Rattle.std.specs.declared.cmp.Ordering.TheVariants.{Less, Equal, Greater}
use Rattle.std.specs.Ordering.{ordering_then, is_lt}
use Rattle.std.specs.Cmp.{IsTotalOrder, IsStrictWeakOrder, nat_cmp_total, then_total, on_total}
use Rattle.std.proofs.lemmas.Cmp.{nat_list_cmp_total, back_total}
use Rattle.std.proofs.lemmas.List.Sorted.{ranks_by}
use Rattle.std.proofs.lemmas.Map.Lookups.{CmpEqualImpliesEq, exact_unsigned}
use Rattle.flat_report.specs.Sources.{Sources}
use Rattle.flat_report.specs.Entries.{FlatEntry, entry_of, flat_entry_cmp, flat_comes_before}
use Rattle.flat_report.specs.Rows.{entry_of_row, IsRowOf}
use Rattle.flat_report.specs.declared.rows.Row.{Row}
use Rattle.propagate.proofs.AscentLemmas.{IsExactOrder, order_of}

entry_total : IsTotalOrder flat_entry_cmp
entry_total =
    then_total (on_total (λ (p : ℕ × FlatEntry). p.1.share) (back_total nat_cmp_total))
    (then_total (on_total (λ (p : ℕ × FlatEntry). p.1.calls) (back_total nat_cmp_total))
    (then_total (on_total (λ (p : ℕ × FlatEntry). p.1.name) nat_list_cmp_total) (on_total (λ (p : ℕ × FlatEntry). p.0) nat_cmp_total)))

then_equal : (first second : Ordering) → ordering_then first second ≡ Equal → second ≡ Equal
then_equal Less second h = absurd cc
then_equal Equal second h = h
then_equal Greater second h = absurd cc

abbrev function_cmp : Sources → ℕ → ℕ → Ordering
function_cmp s f h = flat_entry_cmp (f, entry_of s f) (h, entry_of s h)

-- functions that compare alike are one
function_exact : (s : Sources) → CmpEqualImpliesEq (function_cmp s)
function_exact s f h same = search (exact_unsigned, then_equal)

pub function_order : (s : Sources) → IsExactOrder (flat_comes_before s)
unfolding flat_comes_before
function_order s = order_of (function_cmp s) (on_total (λ (f : ℕ). (f, entry_of s f)) entry_total) (function_exact s)

-- ---- rows

abbrev pub row_before : Row → Row → Bool
row_before a b = is_lt (flat_entry_cmp (a.number, entry_of_row a) (b.number, entry_of_row b))

pub row_order : IsStrictWeakOrder row_before
row_order = ranks_by entry_total (λ (row : Row). (row.number, entry_of_row row))

-- what a comparison says of it
pub compared : (a b : Row) (o : Ordering) → o ≡ flat_entry_cmp (a.number, entry_of_row a) (b.number, entry_of_row b) → is_lt o ≡ row_before a b
compared a b o h = ap is_lt h

-- rows of functions are ordered as these
pub rows_before : (s : Sources) (a b : Row) → IsRowOf s a → IsRowOf s b → row_before a b ≡ flat_comes_before s a.number b.number
unfolding flat_comes_before
rows_before s a b is_a is_b =
    ap (λ (e : FlatEntry). is_lt (flat_entry_cmp (a.number, e) (b.number, entry_of_row b))) is_a ∙ ap (λ (e : FlatEntry). is_lt (flat_entry_cmp (a.number, entry_of s a.number) (b.number, e))) is_b
