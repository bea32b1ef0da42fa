use Rattle.std.proofs.Common.{◌+◌, ◌≤◌, length, ap, ◌∙◌, arith}
use Rattle.gmon_block.proofs.Writes.{counted, length_part, get_counter}
use Rattle.gmon_block.proofs.block.Block.kcount.Goals as goal

pub part-requires : goal.part-requires
part-requires c = grind (arith, counted)

pub read_word-requires : goal.read_word-requires
read_word-requires c =
    let n = counted c.self.inside c.args.self.now c.self.view_is in
    let inside : c.counter_at.result + 2 ≤ length c.self.inside.raw = omega (arith, c.self.invariant.size, n.tos, n.counters) in
    ap length c.part.ensures ∙ length_part c.self.inside.raw c.counter_at.result 2 inside

pub returns : goal.returns
returns c = grind (arith, counted, get_counter)
