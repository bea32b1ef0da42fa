use Rattle.std.proofs.Common.{sym, ◌∙◌, arith}
use Rattle.host_port.specs.declared.side.Side.TheVariants.{File}
use Rattle.host_port.proofs.BufferLemmas.{adds_nothing}
use Rattle.gmon_gnu.proofs.ProfileTextLemmas.{rounds_of_some, rounds_of_none}
use Rattle.gmon_gnu.proofs.profile_file.put_runs.Goals as goal

pub returns-then-block_count-eq0-clause-adds : goal.returns-then-block_count-eq0-clause-adds
returns-then-block_count-eq0-clause-adds g c =
    let none = rounds_of_none c.args.profile.now.blocks (sym c.block_count.ensures.value ∙ c.if-block_count-eq0.true) in
    rw none (adds_nothing File _ _ (tt {0}))

pub returns-clause-adds : goal.returns-clause-adds
returns-clause-adds g c = grind (arith, rounds_of_some)
