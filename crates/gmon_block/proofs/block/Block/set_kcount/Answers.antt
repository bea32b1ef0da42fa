use Rattle.std.proofs.Common.{ℕ, ◌<◌, List, ap, ◌∙◌, arith}
use Rattle.gp_base.specs.Bytes.{with_piece_at}
use Rattle.gmon_block.proofs.Writes.{counted, with_counter}
use Rattle.gmon_block.proofs.block.Block.set_kcount.Goals as goal

pub put-requires : goal.put-requires
put-requires c = grind (arith, counted)

pub invariant_of-self : goal.invariant_of-self
invariant_of-self c =
    let n = counted c.self.inside c.args.self.now c.self.view_is in
    let inside : c.args.i < c.self.inside.counters = omega (arith, n.counters) in
    let wrote = c.put.ensures ∙ ap (λ (bs : List ℕ). with_piece_at c.counter_at-at.result bs c.self.inside.raw) c.le2.ensures in
    (with_counter c.self.inside c.self.invariant c.args.i c.counter_at-at.result c.args.n c.put.new.self inside (omega (arith, n.tos, n.counters)) c.ranges.n.fits wrote).held

pub returns : goal.returns
returns c = grind (arith, counted, with_counter)
