use Rattle.std.proofs.Common.{◌+◌, ◌*◌, ◌<◌, ◌≤◌, length, ◌∙◌, arith, rules}
use Rattle.symbol_shares.specs.Shares.{bucket_begin}
use Rattle.symbol_shares.proofs.WalkLemmas.{begun-added, more-added, ended-added, fits-more, ended-more, ended-later}
use Rattle.symbol_shares.proofs.walk.add_bucket.Goals as goal

pub loop-k-init : goal.loop-k-init
loop-k-init c = search (begun-added, ended-later, rules)

pub overflow_add-of : goal.overflow_add-of
overflow_add-of c = search (fits-more, rules)

pub returns-then-is_above-clause-added : goal.returns-then-is_above-clause-added
returns-then-is_above-clause-added c =
    let h = c.args.hist.now in
    let s = c.index-symbols-k.result in
    let above : bucket_begin h (c.args.i + 1) < s.end * length h.counters = search rules in
    more-added h c.args.i c.args.symbols.now c.args.of.now c.requires.same c.requires.ascending c.requires.kept.range c.loop-k.k c.share_of_bucket.result s c.loop-k.of c.loop-k-test.true c.index-symbols-k.is c.loop-k.invariant.added c.share_of_bucket.ensures
    ∙ ended-added h c.args.i c.args.symbols.now c.args.of.now c.requires.same c.requires.ascending c.requires.kept.range c.loop-k.k s c.loop-k-test.true c.index-symbols-k.is above

pub loop-k-preserved : goal.loop-k-preserved
loop-k-preserved c =
    let h = c.args.hist.now in
    let s = c.index-symbols-k.result in
    let below : s.end * length h.counters ≤ bucket_begin h (c.args.i + 1) = grind arith in
    record {
      added = more-added h c.args.i c.args.symbols.now c.args.of.now c.requires.same c.requires.ascending c.requires.kept.range c.loop-k.k c.share_of_bucket.result s c.loop-k.of c.loop-k-test.true c.index-symbols-k.is c.loop-k.invariant.added c.share_of_bucket.ensures;
      ended = ended-more c.args.symbols.now c.loop-k.k (length h.counters) (bucket_begin h (c.args.i + 1)) s c.loop-k-test.true c.index-symbols-k.is c.loop-k.invariant.ended below;
    }
