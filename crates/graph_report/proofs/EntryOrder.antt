-- The order of entries: those that compare alike are one.
use Rattle.std.proofs.Common.{◌≡◌, ℕ, List, sym, ap, arith}
use Rattle.std.specs.declared.cmp.Ordering.{Ordering}
use Rattle.std.specs.Ordering.{nat_cmp, is_lt}
use Rattle.std.specs.Cmp.{IsTotalOrder, nat_cmp_total, then_total, on_total}
use Rattle.std.specs.Cmp.Lexicographic.{slice_cmp}
use Rattle.std.proofs.lemmas.Cmp.{nat_list_cmp_total, back_total}
use Rattle.std.proofs.lemmas.Map.Lookups.{CmpEqualImpliesEq, exact_unsigned, exact_bytes, exact_pairs}
use Rattle.propagate.proofs.AscentLemmas.{IsExactOrder, order_of}
use Rattle.graph_report.specs.Entries.{GraphEntry, graph_entry_cmp, graph_comes_before, first_function, subject_rank}

entry_total : IsTotalOrder graph_entry_cmp
entry_total =
    then_total (on_total (λ (e : GraphEntry). e.total) (back_total nat_cmp_total))
    (then_total (on_total (λ (e : GraphEntry). e.name) nat_list_cmp_total)
    (then_total (on_total (λ (e : GraphEntry). first_function e.subject) nat_cmp_total) (on_total (λ (e : GraphEntry). subject_rank e.subject) nat_cmp_total)))

abbrev Key : Type 0
Key = ℕ × (List ℕ × (ℕ × ℕ))

abbrev key_of : GraphEntry → Key
key_of e = (e.total, (e.name, (first_function e.subject, subject_rank e.subject)))

one_entry : (a b : GraphEntry) → key_of a ≡ key_of b → a ≡ b
one_entry a b same = grind arith

entry_exact : CmpEqualImpliesEq graph_entry_cmp
entry_exact a b h =
    one_entry a b
    (exact_pairs (λ x y. nat_cmp y x) _ (λ x y e. sym (exact_unsigned y x e)) (exact_pairs (slice_cmp nat_cmp) _ exact_bytes (exact_pairs nat_cmp nat_cmp exact_unsigned exact_unsigned)) (key_of a) (key_of b) h)

pub entry_order : IsExactOrder graph_comes_before
unfolding graph_comes_before
entry_order = order_of graph_entry_cmp entry_total entry_exact

-- what a comparison says of it
pub compared : (a b : GraphEntry) (o : Ordering) → o ≡ graph_entry_cmp a b → is_lt o ≡ graph_comes_before a b
unfolding graph_comes_before
compared a b o h = ap is_lt h
