-- The calls of functions, summed arc by arc.
use Rattle.std.proofs.Common.{◌≡◌, ◌<◌, ◌≤◌, ℕ, suc, ◌+◌, List, length, refl, ap, sym, ◌∙◌, arith, length-set, get_or-set_same, get_or-set_other}
use Rattle.std.specs.Prelude.{◌==◌, slice_index, slice_set}
use Rattle.std.proofs.lemmas.Bool.{eq-eqb}
use Rattle.std.proofs.lemmas.List.FromFn.{fill_by_all}
use Rattle.call_cycles.specs.Graph.{GraphValue, IsGraph, all_calls, arc_at, arc_count}
use Rattle.call_cycles.specs.Sums.{sum_below, when, list_of}
use Rattle.call_cycles.proofs.SumLemmas.{sum_front_le}
use Rattle.call_cycles.proofs.ListLemmas.{list_long, list_at}
use Rattle.flat_report.specs.Sources.{calls_by_itself, calls_in_all}
use Rattle.flat_report.proofs.FunctionLemmas.{calls_within}

-- the calls of function f by itself, and by the arcs with numbers below i
abbrev pub called_below : GraphValue → ℕ → ℕ → ℕ
called_below g i f = sum_below i (λ j. when ((arc_at g j).callee == f) (arc_at g j).count) + calls_by_itself g f

-- the calls of functions when i arcs are counted
pub record AreCounted (g : GraphValue) (i : ℕ) (calls : List ℕ) : Type 0 where
  pub len : length calls ≡ g.functions
  pub each : (f : ℕ) → f < g.functions → slice_index calls f ≡ called_below g i f

pub none_counted : (g : GraphValue) (calls : List ℕ) → calls ≡ list_of g.functions (calls_by_itself g) → AreCounted g 0 calls
none_counted g calls are = record { len = list_long _ _ calls are; each = λ f h. list_at _ _ calls are f h ∙ omega arith }

module _ (g : GraphValue) (i : ℕ) (calls : List ℕ) (are : AreCounted g i calls) where
  pub all_counted : i ≡ arc_count g → calls ≡ list_of g.functions (calls_in_all g)
  all_counted last = fill_by_all (calls_in_all g) calls g.functions 0 are.len (λ f h. are.each f h ∙ ap (λ (n : ℕ). called_below g n f) last)

  module _ (below : i < arc_count g) (k : ℕ) (callee : k ≡ (arc_at g i).callee) (low : k < g.functions) where
    counted : when ((arc_at g i).callee == k) (arc_at g i).count ≡ (arc_at g i).count
    counted = rw (eq-eqb (arc_at g i).callee k (sym callee)) refl

    pub counted_fits : IsGraph g → slice_index calls k + (arc_at g i).count ≤ all_calls g
    counted_fits is =
        grind (arith, sum_front_le (suc i) (arc_count g) (λ j. when ((arc_at g j).callee == k) (arc_at g j).count) (omega arith), calls_within g k is low)

    pub counted_more : (x : ℕ) → x ≡ slice_index calls k + (arc_at g i).count → AreCounted g (i + 1) (slice_set calls k x)
    counted_more x is = record {
      len = length-set calls k x ∙ are.len;
      each = each_more;
    }
      where
        inside : k < length calls
        inside = let len = are.len in omega arith

        each_more : (f : ℕ) → f < g.functions → slice_index (slice_set calls k x) f ≡ called_below g (i + 1) f
        each_more f h = grind (arith, get_or-set_same, get_or-set_other)
