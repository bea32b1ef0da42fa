use Rattle.gmon_gnu.specs.Taking.{KeepsItems}
use Rattle.gmon_gnu.proofs.TakingLemmas.{added_within}
use Rattle.gmon_gnu.proofs.StateLemmas.{hist_ended, added_goes}
use Rattle.std.proofs.Common.{◌≡◌, ◌∙◌, length, refl, arith}
use Rattle.gmon_gnu.proofs.state.State.go_on_hist.Goals as goal

pub returns-clause-held : goal.returns-clause-held
returns-clause-held c = grind (arith, added_within)

pub returns-clause-goes : goal.returns-clause-goes
returns-clause-goes c = λ whole rest reads.
    let s = c.args.self.now in
    let none : c.args.left ≡ 0 = omega (arith) in
    let e = c.add.ensures in
    let k = e.adds.items in
    let keeps : KeepsItems s c.add.new.self = record { torn = k.torn; counters = k.counters; pairs = k.pairs; arcs = k.arcs } in
    added_goes whole rest s c.add.new.self keeps
    (hist_ended whole s.fields.items c.add.new.self.fields.items s.counters.cells.items s.pairs.cells.items s.arcs.items s.entries.items c.add.new.self.entries.items s.run c.add.new.self.run (length s.arcs.items) c.args.fields _ c.args.start _ c.args.left s.counters.torn s.torn rest
    c.requires.front.spans none (c.requires.counters.ended none) c.requires.front.torn (omega (arith, c.len-number.ensures, s.fields.ok)) ((λ i. (e.adds.fields i).items) ∙ c.push_reserved.ensures.items) (omega (arith, c.len-end.ensures, s.counters.cells.ok)) refl e.run e.adds.entries reads)
