use Rattle.std.proofs.Common.{◌≡◌, ◌<◌, ◌∙◌, ◌+◌, ℕ, List, get_or, length, map, refl, ap, sym, subst, arith}
use Rattle.std.specs.Prelude.{slice_set}
use Rattle.std.proofs.lemmas.Bool.{true≢false}
use Rattle.std.proofs.lemmas.List.{get_or_default, map-set}
use Rattle.call_cycles.specs.Graph.{GraphValue, IsGraph, component_count, component_of, source_of}
use Rattle.call_cycles.specs.declared.graphs.FunArc.{FunArc}
use Rattle.call_cycles.specs.Flow.{self_in}
use Rattle.call_cycles.proofs.ListLemmas.{list_long}
use Rattle.fraction128.specs.Values.{value_of}
use Rattle.propagate.specs.Arcs.{IsLeaving}
use Rattle.exact_flow.specs.Times.{outside_numbers}
use Rattle.exact_flow.specs.Answers.{IsTooWide}
use Rattle.exact_flow.proofs.StateLemmas.{IsSoFar, none_done, leaving, one_more_done, children_found, none_wide}
use Rattle.exact_flow.proofs.WideLemmas.{first_found}
use Rattle.exact_flow.proofs.solve.hand_all_on.Goals as goal
use Rattle.exact_flow.proofs.solve.hand_all_on.Goals.{After-loop-arc}

-- the number that is read stands in the list of the outside arcs' numbers
place : (g : GraphValue) (numbers : List ℕ) (n : ℕ) → numbers ≡ outside_numbers g → n < length numbers
    → (n < length (outside_numbers g)) × (get_or (outside_numbers g) n (get_or numbers n 0) ≡ get_or numbers n 0)
place g numbers n are low = (subst (λ (xs : List ℕ). n < length xs) are low, ap (λ (xs : List ℕ). get_or xs n (get_or numbers n 0)) (sym are) ∙ get_or_default numbers n (get_or numbers n 0) 0 low)

stands : (g : GraphValue) → IsGraph g → (numbers : List ℕ) (n : ℕ) → numbers ≡ outside_numbers g → n < length numbers → IsLeaving g (source_of g (get_or numbers n 0), get_or numbers n 0)
stands g is numbers n are low = let at = place g numbers n are low in leaving g is n (get_or numbers n 0) at.0 at.1

last : (c : After-loop-arc) → c.loop-arc.arc-index ≡ length (outside_numbers c.args.graph.now)
last c = let test = c.loop-arc-test.false in let long = ap length c.requires.outside in let end = c.loop-arc.auto.arc-index-end in omega arith

pub loop-arc-init : goal.loop-arc-init
loop-arc-init c = none_done c.args.graph.now c.args.shares.now.of (map value_of c.args.children.now) c.requires.none

pub step-requires-clause-arc : goal.step-requires-clause-arc
step-requires-clause-arc c = (stands c.args.graph.now c.holds.ensures.graph c.args.outside.now c.loop-arc.arc-index c.requires.outside c.loop-arc-test.true).0

pub step-requires-clause-outside : goal.step-requires-clause-outside
step-requires-clause-outside c = (stands c.args.graph.now c.holds.ensures.graph c.args.outside.now c.loop-arc.arc-index c.requires.outside c.loop-arc-test.true).2

pub step-requires-clause-selves : goal.step-requires-clause-selves
step-requires-clause-selves c = list_long (component_count c.args.graph.now) (self_in c.args.graph.now c.args.shares.now.of) c.args.selves.now c.requires.selves

pub arc-requires : goal.arc-requires
arc-requires c = (stands c.args.graph.now c.holds.ensures.graph c.args.outside.now c.loop-arc.arc-index c.requires.outside c.loop-arc-test.true).0

pub too_wide-requires-clause-arc : goal.too_wide-requires-clause-arc
too_wide-requires-clause-arc c = (stands c.args.graph.now c.holds.ensures.graph c.args.outside.now c.loop-arc.arc-index c.requires.outside c.loop-arc-test.true).0

pub returns-in-None-clause-wide : goal.returns-in-None-clause-wide
returns-in-None-clause-wide c =
    let g = c.args.graph.now in
    let shares = c.args.shares.now.of in
    let n = c.loop-arc.arc-index in
    let i = get_or c.args.outside.now n 0 in
    let at = place g c.args.outside.now n c.requires.outside c.loop-arc-test.true in
    subst (IsTooWide g shares) (sym c.too_wide.ensures)
    (first_found g shares c.holds.ensures.graph n i at.0 at.1 c.args.selves.now (map value_of c.loop-arc.children) c.requires.selves c.loop-arc.invariant (λ fits. true≢false (sym (c.in-None.ensures.fits.1 fits))))

pub loop-arc-preserved : goal.loop-arc-preserved
loop-arc-preserved c =
    let g = c.args.graph.now in
    let shares = c.args.shares.now.of in
    let n = c.loop-arc.arc-index in
    let i = get_or c.args.outside.now n 0 in
    let after = c.in-Some.after in
    let times = map value_of c.loop-arc.children in
    let at = place g c.args.outside.now n c.requires.outside c.loop-arc-test.true in
    let source : c.component.result ≡ source_of g i = c.component.ensures.value ∙ ap (λ (a : FunArc). component_of g a.caller) c.arc.ensures.value in
    let put : map value_of (slice_set c.loop-arc.children c.component.result after) ≡ slice_set times (source_of g i) (value_of after) =
    map-set value_of c.loop-arc.children c.component.result after ∙ ap (λ (k : ℕ). slice_set times k (value_of after)) source in
    subst (IsSoFar g shares (n + 1)) (sym put)
    (one_more_done g c.holds.ensures.graph n i at.0 at.1 shares c.args.selves.now times c.requires.selves c.loop-arc.invariant (value_of after) c.in-Some.ensures.after (c.in-Some.ensures.fits.0 refl))

pub returns-clause-times : goal.returns-clause-times
returns-clause-times c = λ x exact. children_found c.args.graph.now c.args.shares.now.of c.holds.ensures.graph c.loop-arc.arc-index (map value_of c.loop-arc.children) (last c) c.loop-arc.invariant x exact

pub returns-clause-fits : goal.returns-clause-fits
returns-clause-fits c = λ x exact. none_wide c.args.graph.now c.args.shares.now.of c.holds.ensures.graph c.loop-arc.arc-index (map value_of c.loop-arc.children) (last c) c.loop-arc.invariant x exact
