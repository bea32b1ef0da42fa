use Rattle.std.proofs.Common.{◌+◌, ◌≤◌, length, ap, ◌∙◌, arith}
use Rattle.gmon_block.proofs.Writes.{counted, length_part, get_entry}
use Rattle.gmon_block.proofs.block.Block.tos.Goals as goal

pub part-requires : goal.part-requires
part-requires c = grind (arith, counted)

pub read_entry-requires : goal.read_entry-requires
read_entry-requires c =
    let n = counted c.self.inside c.args.self.now c.self.view_is in
    let inside : c.entry_at.result + 12 ≤ length c.self.inside.raw = omega (arith, c.self.invariant.size, n.tos) in
    ap length c.part.ensures ∙ length_part c.self.inside.raw c.entry_at.result 12 inside

pub returns : goal.returns
returns c = grind (arith, counted, get_entry)
