use Rattle.gmon_gnu.specs.declared.state.HistFields.{HistFields}
use Rattle.gmon_gnu.specs.Going.{Between, Reads}
use Rattle.gmon_gnu.specs.Held.{recs_in}
use Rattle.gmon_gnu.proofs.StateLemmas.{blocks_ended, added_goes}
use Rattle.std.proofs.Common.{◌≡◌, ◌++◌, List, length, refl, subst, sym, arith}
use Rattle.gmon_gnu.proofs.state.State.go_on_blocks.Goals as goal

pub returns-clause-goes : goal.returns-clause-goes
returns-clause-goes c = λ whole rest reads.
    let s = c.args.self.now in
    let none : c.args.left ≡ 0 = omega (arith) in
    let e = c.add.ensures in
    added_goes whole rest s c.add.new.self e.adds.items
    (subst (λ (fs : List HistFields). Reads whole (recs_in fs s.counters.cells.items s.pairs.cells.items s.arcs.items c.add.new.self.entries.items c.add.new.self.run) Between (s.torn ++ rest)) (λ i. (sym e.adds.fields i).items)
    (blocks_ended whole s.fields.items s.counters.cells.items s.pairs.cells.items s.arcs.items s.entries.items c.add.new.self.entries.items s.run c.add.new.self.run (length s.arcs.items) c.args.start _ c.args.left s.pairs.torn s.torn rest
    none (c.requires.pairs.ended none) c.requires.front.torn (omega (arith, c.len-end.ensures, s.pairs.cells.ok)) refl e.run e.adds.entries reads))
