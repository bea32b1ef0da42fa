use Rattle.std.proofs.Common.{◌<◌, ◌≤◌, ◌+◌, length, ap, arith}
use Rattle.symbol_shares.specs.Shares.{bucket_begin}
use Rattle.symbol_shares.proofs.SpanLemmas.{begin-rises, bucket-added, left-fits, spans-added}
use Rattle.symbol_shares.proofs.WalkLemmas.{bucket-fits, ended-later, hist-ended}
use Rattle.symbol_shares.proofs.walk.add_hist.Goals as goal

pub loop-i-init : goal.loop-i-init
loop-i-init c = grind arith

pub add_bucket-from-requires-clause-fits : goal.add_bucket-from-requires-clause-fits
add_bucket-from-requires-clause-fits c =
    let below : c.loop-i.i < length c.args.hist.now.counters = omega (arith, c.loop-i-test.true, ap length c.as_slice-count.ensures) in
    let fits = bucket-fits c.args.hist.now c.loop-i.i c.args.symbols.now c.args.of.now c.loop-i.of _ c.requires.kept.range c.requires.ascending below c.loop-i.invariant.added c.requires.fits in
    omega (arith, fits)

pub add_whole-i-requires-in-loop-i-clause-fits : goal.add_whole-i-requires-in-loop-i-clause-fits
add_whole-i-requires-in-loop-i-clause-fits c =
    let h = c.args.hist.now in
    let i = c.loop-i.i in
    let below : i + 1 ≤ length h.counters = omega (arith, c.loop-i-test.true, ap length c.as_slice-count.ensures) in
    let added = bucket-added h i c.args.symbols.now c.args.of.now c.loop-i.of c.add_bucket-from.new.of c.loop-i.invariant.added c.add_bucket-from.ensures.added in
    left-fits h (i + 1) c.args.symbols.now c.args.of.now c.add_bucket-from.new.of _ c.requires.kept.range c.requires.ascending below added c.requires.fits

pub loop-i-preserved : goal.loop-i-preserved
loop-i-preserved c =
    let h = c.args.hist.now in
    let symbols = c.args.symbols.now in
    let i = c.loop-i.i in
    let j = c.add_whole-i-in-loop-i.result in
    let below : i + 1 ≤ length h.counters = omega (arith, c.loop-i-test.true, ap length c.as_slice-count.ensures) in
    let added = bucket-added h i symbols c.args.of.now c.loop-i.of c.add_bucket-from.new.of c.loop-i.invariant.added c.add_bucket-from.ensures.added in
    record {
      inside = c.add_whole-i-in-loop-i.ensures.inside below;
      from = c.add_bucket-from.ensures.inside;
      added = spans-added h (i + 1) j symbols c.args.of.now c.add_bucket-from.new.of c.add_whole-i-in-loop-i.new.of c.add_whole-i-in-loop-i.ensures.rising added c.add_whole-i-in-loop-i.ensures.added;
      ended = ended-later symbols c.add_bucket-from.result (length h.counters) (bucket_begin h (i + 1)) (bucket_begin h j) (begin-rises h (i + 1) j c.add_whole-i-in-loop-i.ensures.rising) c.add_bucket-from.ensures.ended;
    }

pub returns-clause-ended : goal.returns-clause-ended
returns-clause-ended c = grind (arith, hist-ended)
