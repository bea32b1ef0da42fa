use Rattle.std.proofs.Common.{◌+◌, ◌*◌, ◌<◌, ◌≤◌, length, sym, ap, arith}
use Rattle.symbol_shares.specs.Shares.{bucket_begin}
use Rattle.symbol_shares.proofs.RangeLemmas.{first-buckets, one-more, last-buckets, buckets-fit}
use Rattle.symbol_shares.proofs.ranges.grains_in_hist.Goals as goal

pub loop-i-init : goal.loop-i-init
loop-i-init c = sym (first-buckets c.args.hist.now c.args.low c.args.high c.bucket_of-i.result c.requires.kept.range c.requires.order c.bucket_of-i.ensures.begin)

pub overflow_add-grains : goal.overflow_add-grains
overflow_add-grains c = grind (arith, buckets-fit)

pub returns-then-not-is_above : goal.returns-then-not-is_above
returns-then-not-is_above c =
    let h = c.args.hist.now in
    let i = c.loop-i.i in
    let below : i < length h.counters = omega (arith, c.loop-i-test.true, ap length c.as_slice-i-end.ensures) in
    let reached : c.args.high * length h.counters ≤ bucket_begin h (i + 1) = grind arith in
    let more = one-more h c.args.low c.args.high i in
    let rest = last-buckets h c.args.low c.args.high (i + 1) (omega (arith, below)) reached in
    omega (arith, more, rest, c.loop-i.invariant, c.grains_of_bucket-grains.ensures)

pub loop-i-preserved : goal.loop-i-preserved
loop-i-preserved c = grind (arith, one-more)

pub returns : goal.returns
returns c = grind arith
