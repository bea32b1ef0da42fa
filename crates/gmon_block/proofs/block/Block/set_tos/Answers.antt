use Rattle.std.proofs.Common.{ℕ, ◌<◌, List, ap, ◌∙◌, arith}
use Rattle.gp_base.specs.Bytes.{with_piece_at}
use Rattle.gmon_block.proofs.Writes.{counted, with_entry}
use Rattle.gmon_block.proofs.block.Block.set_tos.Goals as goal

pub put-requires : goal.put-requires
put-requires c = grind (arith, counted)

pub invariant_of-self : goal.invariant_of-self
invariant_of-self c =
    let n = counted c.self.inside c.args.self.now c.self.view_is in
    let inside : c.args.i < c.self.inside.tos = omega (arith, n.tos) in
    let wrote = c.put.ensures ∙ ap (λ (bs : List ℕ). with_piece_at c.entry_at-at.result bs c.self.inside.raw) c.spell_entry.ensures.value in
    (with_entry c.self.inside c.self.invariant c.args.i c.entry_at-at.result c.args.t c.put.new.self inside (omega (arith, n.tos)) c.spell_entry.ensures.fits wrote).held

pub returns : goal.returns
returns c = grind (arith, counted, with_entry)
