use Rattle.std.proofs.Common.{sym, ap, subst, not, eqb}
use Rattle.prof_machine.specs.Turn.{after_moncontrol}
use Rattle.prof_machine.specs.World.{hart_of}
use Rattle.prof_machine.specs.Value.{RunValue, StandsFor, value_of}
use Rattle.prof_machine.proofs.StandingLemmas.{hart_read, there}
use Rattle.prof_machine.proofs.HookLemmas.{switched_stands}
use Rattle.std.proofs.Common.{◌≡◌, ◌∙◌, List}
use Rattle.rv_step.specs.Registers.{Registers}
use Rattle.prof_machine.specs.Notes.{return_of}
use Rattle.prof_machine.proofs.runs.Run.switch.Goals as goal

pub returns-clause-stands : goal.returns-clause-stands
returns-clause-stands c = λ w st.
    let a = c.self.inside in
    let h = c.args.hart in
    let new = c.return_from_hook.new.self in
    let read = hart_read a.harts.items h _ (there a c.args.self.now h c.self.invariant c.self.view_is c.requires.turn.hart) c.index.ensures in
    let P : RunValue → Type 0 = λ v. StandsFor w v → StandsFor (after_moncontrol h (hart_of w.harts h) w) new in
    subst P c.self.view_is (λ (s : StandsFor w (value_of a)).
    (let R : RunValue → Type 0 = λ v. StandsFor (after_moncontrol h (hart_of w.harts h) w) v in subst R (sym c.return_from_hook.ensures.run)
    (switched_stands w (value_of a) c.moncontrol.new.self h _ _ read (ap (λ n. not (eqb n 0)) c.get-on.ensures.value) (c.moncontrol.ensures.stands w.log s.gmon) s))) st

pub returns-clause-note : goal.returns-clause-note
returns-clause-note c = λ w st.
    let a = c.self.inside in
    let h = c.args.hart in
    let P : RunValue → Type 0 = λ v. StandsFor w v → c.return_from_hook.result ≡ return_of (hart_of w.harts h) in
    subst P c.self.view_is (λ (s : StandsFor w (value_of a)). c.return_from_hook.ensures.to ∙ ap (λ (x : List Registers). return_of (hart_of x h)) s.harts) st
