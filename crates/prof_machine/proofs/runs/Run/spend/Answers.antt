use Rattle.std.proofs.Common.{subst, Some}
use Rattle.prof_machine.specs.declared.summary.End.TheVariants.{Budget}
use Rattle.prof_machine.specs.Turn.{after_budget, while_going}
use Rattle.prof_machine.specs.Value.{RunValue, StandsFor, value_of}
use Rattle.prof_machine.proofs.StandingLemmas.{is_ended, is_none, spent_stands, stands_ended, stands_going, unspent_stands}
use Rattle.prof_machine.proofs.runs.Run.spend.Goals as goal
use Rattle.prof_machine.proofs.runs.Run.spend.Goals.{else-is_none-via-then-is_none+else-self, else-is_none-via-else-is_none}

pub returns-then-self-clause-stands : goal.returns-then-self-clause-stands
returns-then-self-clause-stands c = λ w st.
    let P : RunValue → Type 0 = λ v. StandsFor w v → StandsFor (while_going (after_budget v.machine) w) (value_of (record c.self.inside { ending = Some Budget })) in
    subst P c.self.view_is (λ (s : StandsFor w (value_of c.self.inside)).
    stands_going _ w (value_of c.self.inside) _ s (is_none c.self.inside.ending c.if-is_none.ensures) (spent_stands w (value_of c.self.inside) s c.if-self.true)) st

pub returns-else-is_none-clause-stands : goal.returns-else-is_none-clause-stands
returns-else-is_none-clause-stands c = λ w st.
    let P : RunValue → Type 0 = λ v. StandsFor w v → StandsFor (while_going (after_budget v.machine) w) v in
    subst P c.self.view_is (λ (s : StandsFor w (value_of c.self.inside)). elim c.else-is_none.branch [
      | else-is_none-via-then-is_none+else-self b ↦
          stands_going _ w (value_of c.self.inside) _ s (is_none c.self.inside.ending b.if-is_none.ensures) (unspent_stands w (value_of c.self.inside) s b.if-self.false)
      | else-is_none-via-else-is_none b ↦ stands_ended _ w (value_of c.self.inside) _ s (is_ended c.self.inside.ending b.if-is_none.ensures) s
    ]) st
