-- The calls that enter components, summed arc by arc.
use Rattle.std.proofs.Common.{◌≡◌, ◌≢◌, ◌<◌, ◌≤◌, ℕ, suc, ◌+◌, List, length, refl, ap, arith, get_or, get_or-set_same, get_or-set_other}
use Rattle.std.specs.Prelude.{slice_index, slice_set}
use Rattle.call_cycles.specs.declared.graphs.FunArc.{FunArc}
use Rattle.call_cycles.specs.Sums.{when}
use Rattle.call_cycles.specs.Graph.{GraphValue, no_arc, arc_at, calls_into, target_of, source_of, enters, entering_of}
use Rattle.call_cycles.specs.Parts.{headless_graph, arcs_calls}
use Rattle.call_cycles.proofs.SumLemmas.{sum_mono, sum_front_le, when_le}

-- one more arc
pub seen_same : (g : GraphValue) (i : ℕ) → source_of g i ≡ target_of g i → (d : ℕ) → calls_into g d (i + 1) ≡ calls_into g d i
seen_same g i same d = grind arith

pub seen_more : (g : GraphValue) (n i t : ℕ) (xs : List ℕ) (x : ℕ) → t ≡ target_of g i → source_of g i ≢ t
    → t < length xs
    → ((d : ℕ) → d < n → slice_index xs d ≡ calls_into g d i)
    → t < n
    → x ≡ slice_index xs t + (arc_at g i).count
    → (d : ℕ) → d < n → slice_index (slice_set xs t x) d ≡ calls_into g d (i + 1)
seen_more g n i t xs x is_target apart within seen below is d low = grind (arith, get_or-set_same, get_or-set_other)

pub arcs_fit : (component : List ℕ) (arcs : List FunArc) (d i : ℕ) → i < length arcs → calls_into (headless_graph component arcs) d i + (get_or arcs i no_arc).count ≤ arcs_calls arcs
unfolding arcs_calls
arcs_fit component arcs d i below =
    let those = sum_mono i (λ j. when (enters (headless_graph component arcs) d j) (get_or arcs j no_arc).count) (λ j. (get_or arcs j no_arc).count) (λ j k. when_le (enters (headless_graph component arcs) d j) (get_or arcs j no_arc).count) in
    let all = sum_front_le (suc i) (length arcs) (λ j. (get_or arcs j no_arc).count) (omega arith) in
    omega arith

pub entered_all : (component : List ℕ) (arcs : List FunArc) (d i : ℕ) → i ≡ length arcs → calls_into (headless_graph component arcs) d i ≡ entering_of (headless_graph component arcs) d
unfolding entering_of
entered_all component arcs d i last = ap (λ (k : ℕ). calls_into (headless_graph component arcs) d k) last

pub entering_same : (g : GraphValue) (d : ℕ) → entering_of (headless_graph g.component g.arcs) d ≡ entering_of g d
unfolding entering_of
entering_same g d = refl
