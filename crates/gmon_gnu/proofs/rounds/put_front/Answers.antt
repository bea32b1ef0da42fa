use Rattle.std.proofs.Common.{[], ◌∷◌}
use Rattle.gp_base.specs.Bytes.{le}
use Rattle.host_port.specs.declared.side.Side.TheVariants.{File}
use Rattle.host_port.proofs.BufferLemmas.{adds_then}
use Rattle.gmon_gnu.proofs.rounds.put_front.Goals as goal

pub returns-clause-adds : goal.returns-clause-adds
returns-clause-adds g c = adds_then File (2 ∷ []) (le c.args.number 4) _ _ _ _ _ _ (tt {0}) _ c.in_ok-put.ensures.adds (rw c.le4.ensures at c.put-2.ensures.adds)
