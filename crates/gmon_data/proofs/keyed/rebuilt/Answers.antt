use Rattle.gmon_data.proofs.RebuiltLemmas.{inserted_next}
use Rattle.gmon_data.proofs.keyed.rebuilt.Goals as goal

pub loop-i-preserved : goal.loop-i-preserved
loop-i-preserved g c =
    let at = rw c.unwrap.ensures at c.get_index.ensures.entry in
    inserted_next g.K.PartialEq.eq g.met.K.Eq.laws.symm c.args.numbers.now.entries c.loop-i.copy.entries c.insert.new.self.entries c.loop-i.i
    (c.unwrap.result.0.now, c.unwrap.result.1.now) c.len-i-end.ensures.unique at c.loop-i.invariant c.in_ok-insert.ensures.entries
