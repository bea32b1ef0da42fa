use Rattle.std.proofs.Common.{subst, arith}
use Rattle.gmon_gnu.specs.declared.state.Begun.{Begun}
use Rattle.gmon_gnu.specs.Begun.{Follows}
use Rattle.gmon_gnu.specs.Held.{recs_of}
use Rattle.gmon_gnu.proofs.StateLemmas.{begins_hist, begins_blocks, arc_came}
use Rattle.gmon_gnu.proofs.state.State.begin.Goals as goal

pub returns-in-Hist-clause-goes : goal.returns-in-Hist-clause-goes
returns-in-Hist-clause-goes c = λ whole rest follows.
    let s = c.args.self.now in
    c.go_on_hist.ensures.goes whole rest
    (begins_hist whole (recs_of s) c.in-Hist.fields c.len-start.result c.in-Hist.count s.counters.cells.items c.clear.new.self rest c.clear.ensures (omega (arith, c.len-start.ensures, s.counters.cells.ok))
    (subst (λ (b : Begun). Follows whole (recs_of s) b rest) c.in-Hist.is follows))

pub returns-in-Arc-clause-goes : goal.returns-in-Arc-clause-goes
returns-in-Arc-clause-goes c = grind (arith, arc_came)

pub returns-in-Blocks-clause-goes : goal.returns-in-Blocks-clause-goes
returns-in-Blocks-clause-goes c = λ whole rest follows.
    let s = c.args.self.now in
    c.go_on_blocks.ensures.goes whole rest
    (begins_blocks whole (recs_of s) c.len-start-in-Blocks.result c.in-Blocks.count s.pairs.cells.items c.clear-in-Blocks.new.self rest c.clear-in-Blocks.ensures (omega (arith, c.len-start-in-Blocks.ensures, s.pairs.cells.ok))
    (subst (λ (b : Begun). Follows whole (recs_of s) b rest) c.in-Blocks.is follows))
