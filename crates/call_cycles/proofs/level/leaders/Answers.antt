use Rattle.std.proofs.Common.{◌≡◌, ℕ, List, ◌++◌, ◌∷◌, [], slice_index, ◌∙◌, sym, ap, arith}
use Rattle.std.proofs.lemmas.List.{get_or_read}
use Rattle.std.proofs.lemmas.List.FromFn.{map-range_with_len_more}
use Rattle.call_cycles.specs.Sums.{list_of}
use Rattle.call_cycles.proofs.LeaderLemmas.{are_least}
use Rattle.call_cycles.proofs.level.leaders.Goals as goal

pub loop-r-preserved : goal.loop-r-preserved
loop-r-preserved c =
    let least = c.in_ok-least.least.items in
    let f : ℕ → ℕ = λ h. slice_index least (slice_index c.args.ranks.now h) in
    let k = c.loop-r.r-index in
    let len = c.in_ok-least.ensures.len in
    let read : c.index.result.now ≡ f k = get_or_read least (slice_index c.args.ranks.now k) _ (omega arith) c.index.ensures 0 in
    c.in_ok-push.ensures.items
    ∙ ap (λ (x : ℕ). c.loop-r.leaders.items ++ x ∷ []) read
    ∙ ap (λ (xs : List ℕ). xs ++ f k ∷ []) c.loop-r.invariant
    ∙ sym (map-range_with_len_more f 0 k k (omega arith))

pub returns : goal.returns
returns c =
    let last : c.loop-r.r-index ≡ c.args.functions = omega arith in
    let f : ℕ → ℕ = λ h. slice_index c.in_ok-least.least.items (slice_index c.args.ranks.now h) in
    record { least = are_least c.args.functions c.args.ranks.now c.in_ok-least.least.items c.loop-r.leaders.items c.in_ok-least.ensures.least (c.loop-r.invariant ∙ ap (λ (k : ℕ). list_of k f) last) }
