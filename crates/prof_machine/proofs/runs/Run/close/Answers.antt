use Rattle.std.proofs.Common.{◌≡◌, ◌∙◌, sym, subst, Some, None}
use Rattle.prof_machine.specs.Turn.{after_close}
use Rattle.prof_machine.specs.World.{World}
use Rattle.prof_machine.specs.Value.{RunValue, StandsFor, value_of}
use Rattle.prof_machine.specs.declared.flight.Flight.{Flight}
use Rattle.std.proofs.Common.{Option}
use Rattle.prof_machine.proofs.WorldLemmas.{closed_going}
use Rattle.prof_machine.proofs.WalkLemmas.{closed_here, closed_idle, held_inside, looks_some}
use Rattle.prof_machine.proofs.StandingLemmas.{is_none}
use Rattle.prof_machine.proofs.runs.Run.close.Goals as goal

pub returns-then-is_none-clause-stands : goal.returns-then-is_none-clause-stands
returns-then-is_none-clause-stands c = λ w st.
    let P : RunValue → Type 0 = λ v. StandsFor w v → StandsFor (after_close w) v in
    subst P c.self.view_is (λ (s : StandsFor w (value_of c.self.inside)).
    let Q : World → Type 0 = λ v. StandsFor v (value_of c.self.inside) in
    subst Q (sym (closed_going w (sym s.ending ∙ is_none c.self.inside.ending c.if-is_none.ensures))) s) st

pub returns-in-Some-clause-stands : goal.returns-in-Some-clause-stands
returns-in-Some-clause-stands c = λ w st.
    let a = c.self.inside in
    let f = c.in-Some.flight in
    let is : a.flight ≡ Some f = sym c.take.ensures.value ∙ c.in-Some.is in
    let P : RunValue → Type 0 = λ v. StandsFor w v → StandsFor (after_close w) (value_of (record a { flight = None; gmon = c.finish_walk.new.gmon })) in
    let Q : Option Flight → Type 0 = λ o. StandsFor (after_close w) (value_of (record a { flight = o; gmon = c.finish_walk.new.gmon })) in
    subst Q (sym c.take.ensures.after)
    (subst P c.self.view_is (λ (s : StandsFor w (value_of a)).
    closed_here w (value_of a) c.finish_walk.new.gmon f (held_inside a f c.self.invariant is) is c.if-is_none.ensures (looks_some w a f c.self.invariant is s) (c.finish_walk.ensures.stands w.log s.gmon) s) st)

pub returns-in_default-clause-stands : goal.returns-in_default-clause-stands
returns-in_default-clause-stands c = λ w st.
    let a = c.self.inside in
    let is : a.flight ≡ None = sym c.take.ensures.value ∙ c.in_default.is in
    let P : RunValue → Type 0 = λ v. StandsFor w v → StandsFor (after_close w) (value_of a) in
    let Q : Option Flight → Type 0 = λ o. StandsFor (after_close w) (value_of (record a { flight = o })) in
    subst Q (is ∙ sym c.take.ensures.after)
    (subst P c.self.view_is (λ (s : StandsFor w (value_of a)). closed_idle w (value_of a) is s) st)
