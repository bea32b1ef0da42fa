use Rattle.std.proofs.Common.{◌≡◌, None, sym, ◌∙◌}
use Rattle.host_port.specs.declared.side.Side.TheVariants.{File}
use Rattle.host_port.proofs.BufferLemmas.{adds_nothing}
use Rattle.gmon_gnu.proofs.profile_file.put_hists.Goals as goal

pub returns-in-None-clause-adds : goal.returns-in-None-clause-adds
returns-in-None-clause-adds g c =
    let none : c.args.profile.now.«unit» ≡ None = sym c.unit.ensures.«unit» ∙ c.in-None.is in
    rw none (adds_nothing File _ _ (tt {0}))
