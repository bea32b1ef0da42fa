use Rattle.std.proofs.Common.{◌≡◌, ◌≢◌, ◌<◌, ◌+◌, ℕ, List, length, max, replicate, slice_index, sym, ap, ◌∙◌, subst, arith, rules}
use Rattle.call_cycles.specs.Sums.{max_below}
use Rattle.call_cycles.specs.Leaders.{level_over}
use Rattle.call_cycles.proofs.ListLemmas.{whole_back}
use Rattle.call_cycles.proofs.LevelLemmas.{AreLevelsOf, no_levels, levels_more, all_levels}
use Rattle.call_cycles.proofs.level.levels.Goals as goal

pub loop-f-init : goal.loop-f-init
loop-f-init c =
    let n = length c.args.leaders.now in
    let fresh : c.in_ok-levels.levels.items ≡ replicate n 0 = search rules in
    subst (AreLevelsOf n c.args.arcs.now c.args.leaders.now c.args.ranking.now.order.items 0) (sym fresh) (no_levels n c.args.arcs.now c.args.leaders.now c.args.ranking.now.order.items)

pub loop-f-preserved : goal.loop-f-preserved
loop-f-preserved c =
    let n = length c.args.leaders.now in
    let arcs = c.args.arcs.now in
    let leaders = c.args.leaders.now in
    let order = c.args.ranking.now.order.items in
    let k = c.loop-f.f-index in
    let new = c.raise.new.levels in
    let old = c.loop-f.levels.items in
    let same = c.deref_mut.ensures.value in
    let items = c.deref-f-items.ensures.value in
    let inside : k < length order = subst (λ (xs : List ℕ). k < length xs) items c.loop-f-test.true in
    let raised = subst (λ (xs : List ℕ). slice_index new (slice_index leaders (slice_index order k)) ≡ max (slice_index xs (slice_index leaders (slice_index order k))) (max_below (length arcs) (level_over arcs leaders (slice_index order k) xs))) same
    (subst (λ (fs : List ℕ). slice_index new (slice_index leaders (slice_index fs k)) ≡ max (slice_index c.deref_mut.result.now (slice_index leaders (slice_index fs k))) (max_below (length arcs) (level_over arcs leaders (slice_index fs k) c.deref_mut.result.now))) items c.raise.ensures.raised) in
    let others = subst (λ (xs : List ℕ). (h : ℕ) → h ≢ slice_index leaders (slice_index order k) → slice_index new h ≡ slice_index xs h) same
    (subst (λ (fs : List ℕ). (h : ℕ) → h ≢ slice_index leaders (slice_index fs k) → slice_index new h ≡ slice_index c.deref_mut.result.now h) items c.raise.ensures.others) in
    let len : length new ≡ length old = c.raise.auto.levels ∙ ap length same in
    let back = whole_back new old c.loop-f.levels.len len (c.loop-f.levels.ok.0 ∙ sym len) in
    subst (AreLevelsOf n arcs leaders order (k + 1)) (sym back)
    (levels_more n arcs leaders c.args.ranking.now.ranks.items order c.requires.within c.requires.leaders c.requires.ranks c.requires.order k inside old c.loop-f.invariant new (len ∙ c.loop-f.invariant.len) raised others)

pub returns : goal.returns
returns c =
    let order = c.args.ranking.now.order.items in
    record {
      levels = all_levels (length c.args.leaders.now) c.args.arcs.now c.args.leaders.now c.args.ranking.now.ranks.items order c.requires.within c.requires.leaders c.requires.ranks c.requires.order c.loop-f.levels.items c.loop-f.f-index (omega arith) c.loop-f.invariant;
    }
