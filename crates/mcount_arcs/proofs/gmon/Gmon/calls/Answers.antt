use Rattle.std.proofs.Common.{All, subst}
use Rattle.mcount_arcs.specs.Arcs.{CallFits}
use Rattle.mcount_arcs.specs.Value.{GmonValue}
use Rattle.mcount_arcs.proofs.ArcsLeftLemmas.{arcs_read-fit}
use Rattle.mcount_arcs.proofs.gmon.Gmon.calls.Goals as goal

pub returns-clause-fits : goal.returns-clause-fits
returns-clause-fits c = λ log stands.
    let a = c.self.inside in
    let F : GmonValue → Type 0 = λ v. All CallFits v.arcs in
    subst (All CallFits) stands.arcs (subst F c.self.view_is (arcs_read-fit a.sizes a.block.tos a.block.froms c.self.invariant.fits))
