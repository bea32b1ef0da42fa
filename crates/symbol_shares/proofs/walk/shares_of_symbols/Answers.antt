use Rattle.std.proofs.Common.{replicate, ◌∙◌, arith, rules}
use Rattle.gmon_data.specs.Hists.{IsKept}
use Rattle.symbol_shares.proofs.OrderLemmas.{hist-at}
use Rattle.symbol_shares.proofs.SumLemmas.{zeros}
use Rattle.symbol_shares.proofs.WalkLemmas.{hist-few, hist-fits, hist-added, hist-passed, written-back}
use Rattle.symbol_shares.proofs.walk.shares_of_symbols.Goals as goal

pub loop-k-init : goal.loop-k-init
loop-k-init c = search (replicate, zeros, rules)

pub add_hist-from-requires-clause-kept : goal.add_hist-from-requires-clause-kept
add_hist-from-requires-clause-kept c = hist-at IsKept c.args.profile.now.hists c.loop-k.k c.hist.result.now c.requires.profile.hists c.hist.ensures

pub add_hist-from-requires-clause-few : goal.add_hist-from-requires-clause-few
add_hist-from-requires-clause-few c = hist-few c.args.profile.now.hists c.loop-k.k _ c.hist.result.now c.hist.ensures c.requires.profile.within.counters

pub add_hist-from-requires-clause-fits : goal.add_hist-from-requires-clause-fits
add_hist-from-requires-clause-fits c = search (hist-fits, rules)

pub loop-k-preserved : goal.loop-k-preserved
loop-k-preserved c =
    record {
      inside = c.add_hist-from.ensures.inside;
      added = written-back c.add_hist-from.new.of c.loop-k.of.items c.loop-k.of.len (omega (arith, c.add_hist-from.auto.of, c.as_mut_slice.ensures.len)) ∙ hist-added c.args.profile.now.hists c.loop-k.k c.hist.result.now c.args.symbols.now c.as_mut_slice.result.now c.add_hist-from.new.of c.hist.ensures (c.as_mut_slice.ensures.value ∙ c.loop-k.invariant.added) c.add_hist-from.ensures.added;
      ended = λ j next from at. hist-passed c.args.profile.now.hists c.args.symbols.now c.loop-k.k j c.add_hist-from.result c.hist.result.now next c.requires.profile.apart (omega (arith, from)) c.hist.ensures at c.add_hist-from.ensures.ended;
    }
