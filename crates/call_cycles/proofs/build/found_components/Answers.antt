use Rattle.std.proofs.Common.{◌≡◌, ◌<◌, ℕ, List, length, map, slice_index, slice_index_or, ◌∙◌, sym, ap, subst, arith}
use Rattle.call_cycles.specs.Arcs.{AreWithin}
use Rattle.call_cycles.specs.Passes.{AreFirst}
use Rattle.call_cycles.specs.Leaders.{AreRanks, IsRankOrder, AreLeast, AreLeaders, AreLevels}
use Rattle.call_cycles.specs.Heads.{IsHeadOrder}
use Rattle.call_cycles.specs.Sums.{list_of}
use Rattle.call_cycles.proofs.LeaderLemmas.{are_leaders}
use Rattle.call_cycles.proofs.ComponentLemmas.{are_components}
use Rattle.call_cycles.proofs.build.found_components.Goals as goal

pub levels-requires : goal.levels-requires
levels-requires c =
    let n = c.args.functions in
    let arcs = c.args.arcs.now in
    let ranks = c.in_ok-ranking.ranking.ranks.items in
    let leaders = c.in_ok-leaders.leaders.items in
    let same = c.deref-4.ensures.value in
    let least : AreLeast n ranks leaders = subst (λ (xs : List ℕ). AreLeast n xs leaders) c.deref-2.ensures.value c.in_ok-leaders.ensures.least in
    let len : length c.deref-4.result.now ≡ n = ap length same ∙ least.len in
    let led : AreLeaders n arcs leaders = are_leaders n arcs ranks leaders c.in_ok-ranking.ensures.ranks least in
    let first : AreFirst n arcs c.deref-3.result.now = subst (AreFirst n arcs) (sym c.deref-3.ensures.value) c.in_ok-first.ensures.first in
    record {
      functions = omega arith;
      within = subst (λ (k : ℕ). AreWithin k arcs) (sym len) c.requires.within;
      ordered = c.requires.ordered;
      first = subst (λ (k : ℕ). AreFirst k arcs c.deref-3.result.now) (sym len) first;
      leaders = subst (λ (k : ℕ). AreLeaders k arcs c.deref-4.result.now) (sym len) (subst (AreLeaders n arcs) (sym same) led);
      ranks = subst (λ (k : ℕ). AreRanks k arcs ranks) (sym len) c.in_ok-ranking.ensures.ranks;
      order = subst (λ (k : ℕ). IsRankOrder k ranks c.in_ok-ranking.ranking.order.items) (sym len) c.in_ok-ranking.ensures.order;
    }

pub returns-clause-components : goal.returns-clause-components
returns-clause-components c =
    let n = c.args.functions in
    let arcs = c.args.arcs.now in
    let leaders = c.in_ok-leaders.leaders.items in
    let levels = c.in_ok-levels.levels.items in
    let places = c.in_ok-places.places.items in
    let order = c.in_ok-order.order.items in
    let least : AreLeast n c.in_ok-ranking.ranking.ranks.items leaders = subst (λ (xs : List ℕ). AreLeast n xs leaders) c.deref-2.ensures.value c.in_ok-leaders.ensures.least in
    let led : AreLeaders n arcs leaders = are_leaders n arcs c.in_ok-ranking.ranking.ranks.items leaders c.in_ok-ranking.ensures.ranks least in
    let lev1 : AreLevels (length leaders) arcs leaders levels = subst (λ (xs : List ℕ). AreLevels (length xs) arcs xs levels) c.deref-4.ensures.value c.in_ok-levels.ensures.levels in
    let lev : AreLevels n arcs leaders levels = subst (λ (k : ℕ). AreLevels k arcs leaders levels) led.len lev1 in
    let ord1 : IsHeadOrder (length leaders) leaders c.deref-6.result.now order = subst (λ (xs : List ℕ). IsHeadOrder (length xs) xs c.deref-6.result.now order) c.deref-5.ensures.value c.in_ok-order.ensures.order in
    let ord2 : IsHeadOrder n leaders levels order = subst (λ (k : ℕ). IsHeadOrder k leaders levels order) led.len (subst (λ (xs : List ℕ). IsHeadOrder (length leaders) leaders xs order) c.deref-6.ensures.value ord1) in
    let placed : (k : ℕ) → k < length order → slice_index places (slice_index_or order k (0, 0)).1 ≡ k = subst (λ (xs : List (ℕ × ℕ)). (k : ℕ) → k < length xs → slice_index places (slice_index_or xs k (0, 0)).1 ≡ k) c.deref-7.ensures.value c.in_ok-places.ensures.places in
    let component : c.in_ok-component.component.items ≡ list_of n (λ f. slice_index places (slice_index leaders f)) =
    c.in_ok-component.ensures.each
    ∙ ap (λ (xs : List ℕ). list_of (length xs) (λ f. slice_index c.deref-9.result.now (slice_index xs f))) c.deref-8.ensures.value
    ∙ ap (λ (xs : List ℕ). list_of (length leaders) (λ f. slice_index xs (slice_index leaders f))) c.deref-9.ensures.value
    ∙ ap (λ (k : ℕ). list_of k (λ f. slice_index places (slice_index leaders f))) led.len in
    let heads = c.in_ok-heads.ensures.each ∙ ap (map (λ (p : ℕ × ℕ). p.1)) c.deref-10.ensures.value in
    λ self_calls. are_components n arcs self_calls leaders levels places c.in_ok-component.component.items c.in_ok-heads.heads.items order c.requires.within led lev ord2.those ord2.each ord2.rising placed component heads
