use Rattle.std.proofs.Common.{◌≡◌, ◌+◌, get_or, ap, arith}
use Rattle.std.proofs.lemmas.Bool.{leb-false}
use Rattle.std.proofs.lemmas.List.{take_all}
use Rattle.std.proofs.lemmas.Option.{slice_get_within}
use Rattle.gmon_data.specs.declared.hist.Hist.{Hist}
use Rattle.gmon_data.specs.Hists.{IsKept}
use Rattle.symbol_shares.proofs.OrderLemmas.{hist-at}
use Rattle.symbol_shares.proofs.WalkLemmas.{at-place, hist-few}
use Rattle.symbol_shares.proofs.RangeLemmas.{ended-hists, last-hists, hist-more, range-most, front-most, hist-samples}
use Rattle.symbol_shares.proofs.ranges.range_grains.Goals as goal

pub loop-k-init : goal.loop-k-init
loop-k-init c = grind (arith, ended-hists)

pub returns-then-high-hist-clause-grains : goal.returns-then-high-hist-clause-grains
returns-then-high-hist-clause-grains c = grind (arith, last-hists)

pub returns-then-high-hist-clause-within : goal.returns-then-high-hist-clause-within
returns-then-high-hist-clause-within c = grind (arith, front-most, range-most)

pub grains_in_hist-grains-requires-clause-kept : goal.grains_in_hist-grains-requires-clause-kept
grains_in_hist-grains-requires-clause-kept c = hist-at IsKept c.args.profile.now.hists c.loop-k.k c.hist-hist.result.now c.ended_hists-k.ensures.profile.hists c.hist-hist.ensures

pub grains_in_hist-grains-requires-clause-few : goal.grains_in_hist-grains-requires-clause-few
grains_in_hist-grains-requires-clause-few c = hist-few c.args.profile.now.hists c.loop-k.k _ c.hist-hist.result.now c.hist-hist.ensures c.ended_hists-k.ensures.profile.within.counters

pub grains_in_hist-grains-requires-clause-fits : goal.grains_in_hist-grains-requires-clause-fits
grains_in_hist-grains-requires-clause-fits c = grind (arith, hist-samples)

pub grains_in_hist-grains-requires-clause-below : goal.grains_in_hist-grains-requires-clause-below
grains_in_hist-grains-requires-clause-below c =
    let hists = c.args.profile.now.hists in
    let h = c.hist-hist.result.now in
    let k = c.loop-k.k in
    let inside = slice_get_within hists k h c.hist-hist.ensures in
    let same : h.high ≡ (get_or hists k h).high = ap (λ (h : Hist). h.high) (at-place hists k h c.hist-hist.ensures) in
    let late = leb-false (get_or hists k h).high c.args.low (c.ended_hists-k.ensures.point.1 k h (omega (arith, c.loop-k.auto.k)) inside) in
    omega (arith, same, late)

pub overflow_add-grains : goal.overflow_add-grains
overflow_add-grains c =
    let hists = c.args.profile.now.hists in
    let k = c.loop-k.k in
    let p = c.ended_hists-k.ensures.profile in
    let inside = slice_get_within hists k c.hist-hist.result.now c.hist-hist.ensures in
    let more = hist-more hists c.args.low c.args.high k c.hist-hist.result.now c.hist-hist.ensures inside in
    omega (arith, c.loop-k.invariant, c.grains_in_hist-grains.ensures, more, front-most hists c.args.low c.args.high (k + 1), range-most hists c.args.low c.args.high, p.within.samples)

pub loop-k-preserved : goal.loop-k-preserved
loop-k-preserved c = grind (arith, hist-more)

pub returns-clause-grains : goal.returns-clause-grains
returns-clause-grains c = grind (arith, take_all)

pub returns-clause-within : goal.returns-clause-within
returns-clause-within c = grind (arith, front-most, range-most)
