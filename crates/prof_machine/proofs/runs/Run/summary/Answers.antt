use Rattle.std.proofs.Common.{All, subst}
use Rattle.mcount_arcs.specs.Arcs.{CallFits, arcs_of}
use Rattle.mcount_arcs.specs.declared.sizes.Sizes.{Sizes}
use Rattle.prof_machine.specs.Value.{RunValue, StandsFor, value_of}
use Rattle.prof_machine.proofs.runs.Run.summary.Goals as goal

pub returns-clause-fits : goal.returns-clause-fits
returns-clause-fits c = λ w st.
    let a = c.self.inside in
    let P : RunValue → Type 0 = λ v. StandsFor w v → All CallFits (arcs_of v.machine.sizes w.log) in
    let Z : Sizes → Type 0 = λ z. All CallFits (arcs_of z w.log) in
    subst P c.self.view_is (λ (s : StandsFor w (value_of a)). subst Z c.self.invariant.sizes (c.calls.ensures.fits w.log s.gmon)) st
