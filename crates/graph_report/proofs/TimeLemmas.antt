-- No time is greater than that of all functions.
use Rattle.std.proofs.Common.{◌≡◌, ◌<◌, ◌≤◌, ◌^◌, ℕ, true, refl, arith}
use Rattle.std.proofs.Math.Logic.{∥∥₁_elim}
use Rattle.std.proofs.lemmas.Bool.{eq-eqb}
use Rattle.std.specs.Coded.{le_prop}
use Rattle.call_cycles.specs.Flow.{carried_by, time_of}
use Rattle.call_cycles.specs.Graph.{IsGraph, arc_count, component_count, is_outside, leaves, source_of}
use Rattle.call_cycles.specs.Sums.{when}
use Rattle.call_cycles.proofs.NumberingLemmas.{source_within}
use Rattle.symbol_shares.specs.Shares.{attributed_of}
use Rattle.flat_report.proofs.FunctionLemmas.{total_within}
use Rattle.flat_report.specs.Sources.{AreOfOne, Sources, inclusive_total}
use Rattle.graph_report.specs.ArcTimes.{AreTimes, arc_times}
use Rattle.graph_report.specs.Inputs.{sources_in}
use Rattle.graph_report.specs.declared.inputs.Inputs.{Inputs}
use Rattle.propagate.proofs.BoundLemmas.{within_all}
use Rattle.propagate.proofs.SumLemmas.{term_le_sum}

module _ (s : Sources) (are : AreOfOne s) where
  component_within : (c : ℕ) → c < component_count s.graph → time_of s.flow c ≤ attributed_of s.shares
  component_within c low = grind (arith, within_all)

  -- an outside arc carries no more than its caller's component has
  arc_within : (i : ℕ) → i < arc_count s.graph → is_outside s.graph i ≡ true → carried_by s.flow i ≤ attributed_of s.shares
  arc_within i low outside =
      let c = source_of s.graph i in
      let inside = source_within s.graph are.graph i low in
      let this : when (leaves s.graph c i) (carried_by s.flow i) ≡ carried_by s.flow i = rw (outside, eq-eqb c c refl) refl in
      omega (arith, component_within c inside, term_le_sum (arc_count s.graph) (λ j. when (leaves s.graph c j) (carried_by s.flow j)) i low)

  -- what is looked up of an arc is in the ranges of a report's numbers
  times_within : attributed_of s.shares < 2 ^ 65 → (i : ℕ) → i < arc_count s.graph → AreTimes s (arc_times s i)
  times_within small i low = grind (arith, arc_within)

-- the parts of inputs are of one program
pub of_one : (i : Inputs) → IsGraph i.sources.graph.now → AreOfOne (sources_in i)
of_one i is = record { functions = i.functions; each = i.each; graph = is; flow = i.flow }

module _ (i : Inputs) where
  pub time_small : (c : ℕ) → c < component_count i.sources.graph.now → time_of i.sources.flow.now c < 2 ^ 65
  time_small c low = ∥∥₁_elim i.graph le_prop (λ is. let all = component_within (sources_in i) (of_one i is) c low in let small = i.small in omega arith)

  pub total_small : (f : ℕ) → f < i.sources.graph.now.functions → inclusive_total (sources_in i) f < 2 ^ 65
  total_small f low = ∥∥₁_elim i.graph le_prop (λ is. let all = total_within (sources_in i) f (of_one i is) low in let small = i.small in omega arith)

  pub times_small : (k : ℕ) → k < arc_count i.sources.graph.now → AreTimes (sources_in i) (arc_times (sources_in i) k)
  times_small k low = record {
    caller = ∥∥₁_elim i.graph le_prop (λ is. (times is).caller);
    callee = ∥∥₁_elim i.graph le_prop (λ is. (times is).callee);
    entering = refl;
    small = λ outside. (∥∥₁_elim i.graph le_prop (λ is. ((times is).small outside).0), ∥∥₁_elim i.graph le_prop (λ is. ((times is).small outside).1));
  }
    where
      times : IsGraph i.sources.graph.now → AreTimes (sources_in i) (arc_times (sources_in i) k)
      times is = times_within (sources_in i) (of_one i is) i.small k low
