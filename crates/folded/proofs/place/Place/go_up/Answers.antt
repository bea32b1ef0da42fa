use Rattle.std.proofs.Common.{arith}
use Rattle.folded.proofs.PlaceLemmas.{placed_up, up_more}
use Rattle.folded.proofs.place.Place.go_up.Goals as goal

pub loop-self-preserved : goal.loop-self-preserved
loop-self-preserved c =
    let t = c.args.tree.now in
    let p = c.loop-self.self in
    let i = c.loop-self.invariant in
    let test = c.loop-self-test.true in
    let up = placed_up t.nodes.items t.counts.items t.total t.functions c.args.tree.now.is_tree p.node p.depth i.placed.node i.placed.depth (omega (arith, test)) in
    grind (arith, up_more)
