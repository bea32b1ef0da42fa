use Rattle.std.proofs.Common.{true, false, sym, subst, refl}
use Rattle.prof_machine.specs.Turn.{after_arrival, after_mcount, after_moncontrol, while_going}
use Rattle.prof_machine.specs.World.{World, hart_of}
use Rattle.prof_machine.specs.Value.{RunValue, StandsFor, value_of}
use Rattle.prof_machine.proofs.HookLemmas.{arrived_as}
use Rattle.prof_machine.proofs.StandingLemmas.{hart_read, is_ended, is_none, stands_ended, stands_going, there}
use Rattle.std.proofs.Common.{◌≡◌, ◌∙◌, None}
use Rattle.prof_machine.proofs.NoteLemmas.{ended_part, going_part, return_as}
use Rattle.prof_machine.specs.Notes.{if_going, return_in, return_from_call, return_of}
use Rattle.prof_machine.proofs.runs.Run.arrive.Goals as goal

pub returns-then-is_some-clause-stands : goal.returns-then-is_some-clause-stands
returns-then-is_some-clause-stands c = λ w st.
    let P : RunValue → Type 0 = λ v. StandsFor w v → StandsFor (while_going (after_arrival v.machine c.args.hart) w) v in
    subst P c.self.view_is (λ (s : StandsFor w (value_of c.self.inside)). stands_ended _ w (value_of c.self.inside) _ s (is_ended c.self.inside.ending (sym c.if-is_some.ensures)) s) st

pub returns-then-eq-clause-stands : goal.returns-then-eq-clause-stands
returns-then-eq-clause-stands c = λ w st.
    let a = c.self.inside in
    let h = c.args.hart in
    let new = c.enter.new.self in
    let read = hart_read a.harts.items h _ (there a c.args.self.now h c.self.invariant c.self.view_is c.requires.turn.hart) c.index.ensures in
    let P : RunValue → Type 0 = λ v. StandsFor w v → StandsFor (after_mcount v.machine h (hart_of w.harts h) w) new → StandsFor (while_going (after_arrival v.machine h) w) new in
    let Q : World → Type 0 = λ v. StandsFor v new in
    subst P c.self.view_is (λ (s : StandsFor w (value_of a)) (after : StandsFor (after_mcount a.machine h (hart_of w.harts h) w) new).
    stands_going _ w (value_of a) new s (is_none a.ending (sym c.if-is_some.ensures))
    (subst Q (sym (arrived_as w (value_of a) h c.pc-pc.result _ true _ read c.pc-pc.ensures c.if-eq.ensures refl s)) after)) st (c.enter.ensures.stands w st)

pub returns-then-eq-2-clause-stands : goal.returns-then-eq-2-clause-stands
returns-then-eq-2-clause-stands c = λ w st.
    let a = c.self.inside in
    let h = c.args.hart in
    let new = c.switch.new.self in
    let read = hart_read a.harts.items h _ (there a c.args.self.now h c.self.invariant c.self.view_is c.requires.turn.hart) c.index.ensures in
    let P : RunValue → Type 0 = λ v. StandsFor w v → StandsFor (after_moncontrol h (hart_of w.harts h) w) new → StandsFor (while_going (after_arrival v.machine h) w) new in
    let Q : World → Type 0 = λ v. StandsFor v new in
    subst P c.self.view_is (λ (s : StandsFor w (value_of a)) (after : StandsFor (after_moncontrol h (hart_of w.harts h) w) new).
    stands_going _ w (value_of a) new s (is_none a.ending (sym c.if-is_some.ensures))
    (subst Q (sym (arrived_as w (value_of a) h c.pc-pc.result _ false true read c.pc-pc.ensures c.if-eq.ensures c.if-eq-2.ensures s)) after)) st (c.switch.ensures.stands w st)

pub returns-else-eq-2-clause-stands : goal.returns-else-eq-2-clause-stands
returns-else-eq-2-clause-stands c = λ w st.
    let a = c.self.inside in
    let h = c.args.hart in
    let read = hart_read a.harts.items h _ (there a c.args.self.now h c.self.invariant c.self.view_is c.requires.turn.hart) c.index.ensures in
    let P : RunValue → Type 0 = λ v. StandsFor w v → StandsFor (while_going (after_arrival v.machine h) w) v in
    let Q : World → Type 0 = λ v. StandsFor v (value_of a) in
    subst P c.self.view_is (λ (s : StandsFor w (value_of a)).
    stands_going _ w (value_of a) (value_of a) s (is_none a.ending (sym c.if-is_some.ensures))
    (subst Q (sym (arrived_as w (value_of a) h c.pc-pc.result _ false false read c.pc-pc.ensures c.if-eq.ensures c.if-eq-2.ensures s)) s)) st

pub returns-then-is_some-clause-note : goal.returns-then-is_some-clause-note
returns-then-is_some-clause-note c = λ w st.
    let P : RunValue → Type 0 = λ v. StandsFor w v → None ≡ if_going (return_in v.machine c.args.hart) w in
    subst P c.self.view_is (λ (s : StandsFor w (value_of c.self.inside)). sym (ended_part (return_in c.self.inside.machine c.args.hart) w (value_of c.self.inside) s (is_ended c.self.inside.ending (sym c.if-is_some.ensures)))) st

pub returns-then-eq-clause-note : goal.returns-then-eq-clause-note
returns-then-eq-clause-note c = λ w st.
    let a = c.self.inside in
    let h = c.args.hart in
    let read = hart_read a.harts.items h _ (there a c.args.self.now h c.self.invariant c.self.view_is c.requires.turn.hart) c.index.ensures in
    let P : RunValue → Type 0 = λ v. StandsFor w v → c.enter.result ≡ return_from_call v.machine w.log (hart_of w.harts h) → c.enter.result ≡ if_going (return_in v.machine h) w in
    subst P c.self.view_is (λ (s : StandsFor w (value_of a)) after.
    after ∙ sym (going_part (return_in a.machine h) w (value_of a) s (is_none a.ending (sym c.if-is_some.ensures)) ∙ return_as w (value_of a) h c.pc-pc.result _ true _ read c.pc-pc.ensures c.if-eq.ensures refl s)) st (c.enter.ensures.note w st)

pub returns-then-eq-2-clause-note : goal.returns-then-eq-2-clause-note
returns-then-eq-2-clause-note c = λ w st.
    let a = c.self.inside in
    let h = c.args.hart in
    let read = hart_read a.harts.items h _ (there a c.args.self.now h c.self.invariant c.self.view_is c.requires.turn.hart) c.index.ensures in
    let P : RunValue → Type 0 = λ v. StandsFor w v → c.switch.result ≡ return_of (hart_of w.harts h) → c.switch.result ≡ if_going (return_in v.machine h) w in
    subst P c.self.view_is (λ (s : StandsFor w (value_of a)) after.
    after ∙ sym (going_part (return_in a.machine h) w (value_of a) s (is_none a.ending (sym c.if-is_some.ensures)) ∙ return_as w (value_of a) h c.pc-pc.result _ false true read c.pc-pc.ensures c.if-eq.ensures c.if-eq-2.ensures s)) st (c.switch.ensures.note w st)

pub returns-else-eq-2-clause-note : goal.returns-else-eq-2-clause-note
returns-else-eq-2-clause-note c = λ w st.
    let a = c.self.inside in
    let h = c.args.hart in
    let read = hart_read a.harts.items h _ (there a c.args.self.now h c.self.invariant c.self.view_is c.requires.turn.hart) c.index.ensures in
    let P : RunValue → Type 0 = λ v. StandsFor w v → None ≡ if_going (return_in v.machine h) w in
    subst P c.self.view_is (λ (s : StandsFor w (value_of a)).
    sym (going_part (return_in a.machine h) w (value_of a) s (is_none a.ending (sym c.if-is_some.ensures)) ∙ return_as w (value_of a) h c.pc-pc.result _ false false read c.pc-pc.ensures c.if-eq.ensures c.if-eq-2.ensures s)) st
