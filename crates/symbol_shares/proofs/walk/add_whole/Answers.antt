use Rattle.std.proofs.Common.{◌-◌, ◌<◌, length, arith}
use Rattle.std.proofs.lemmas.List.{get_or_read}
use Rattle.symbol_shares.proofs.SpanLemmas.{nothing-between, span-fits, span-within, whole-added}
use Rattle.symbol_shares.proofs.walk.add_whole.Goals as goal

pub returns-then-from-symbols-clause-added : goal.returns-then-from-symbols-clause-added
returns-then-from-symbols-clause-added c = nothing-between c.args.hist.now c.args.i c.args.symbols.now c.args.of.now c.requires.same

pub returns-then-i-counters-clause-added : goal.returns-then-i-counters-clause-added
returns-then-i-counters-clause-added c = nothing-between c.args.hist.now c.args.i c.args.symbols.now c.args.of.now c.requires.same

pub samples-requires : goal.samples-requires
samples-requires c = grind (arith, span-within)

pub overflow_add-of : goal.overflow_add-of
overflow_add-of c =
    let n = c.end_of_whole-end.result - c.args.i in
    let below : c.args.from < length c.args.of.now = omega (arith, c.if-from-symbols.false, c.requires.same) in
    let fits = span-fits c.args.hist.now.counters c.args.of.now c.args.i c.args.from n _ below c.requires.fits in
    omega (arith, fits, c.from.ensures, c.samples.ensures)

pub returns-clause-added : goal.returns-clause-added
returns-clause-added c = grind (arith, get_or_read, whole-added)
