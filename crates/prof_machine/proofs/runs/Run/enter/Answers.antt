use Rattle.std.proofs.Common.{arith}
use Rattle.std.proofs.lemmas.Grind.{common_steps}
use Rattle.std.proofs.Common.{sym, subst, Some}
use Rattle.mcount_arcs.specs.declared.walk.Entered.TheVariants.{Ignored, Lost, Walking}
use Rattle.prof_machine.specs.Turn.{after_entering, after_mcount}
use Rattle.prof_machine.specs.World.{World, hart_of}
use Rattle.prof_machine.specs.Value.{RunValue, StandsFor, value_of}
use Rattle.prof_machine.proofs.HookLemmas.{called_as, ignored_stands, lost_stands, walking_stands}
use Rattle.prof_machine.proofs.StandingLemmas.{hart_read, there}
use Rattle.prof_machine.proofs.runs.Run.enter.Goals as goal

pub returns-in-Walking-clause-stands : goal.returns-in-Walking-clause-stands
returns-in-Walking-clause-stands c = λ w st.
    let a = c.self.inside in
    let h = c.args.hart in
    let new = value_of (record a { flight = Some (record { hart = h; walk = c.in-Walking.walk }); gmon = c.enter.new.self }) in
    let read = hart_read a.harts.items h _ (there a c.args.self.now h c.self.invariant c.self.view_is c.requires.turn.hart) c.index-regs.ensures in
    let P : RunValue → Type 0 = λ v. StandsFor w v → StandsFor (after_mcount v.machine h (hart_of w.harts h) w) new in
    let Q : World → Type 0 = λ v. StandsFor v new in
    subst P c.self.view_is (λ (s : StandsFor w (value_of a)).
    subst Q (sym (called_as w (value_of a) h _ _ _ (Walking c.in-Walking.walk) read c.get.ensures.value c.get-2.ensures.value c.in-Walking.ensures.answer c.self.invariant.sizes s))
    (walking_stands w (value_of a) c.enter.new.self h _ _ c.in-Walking.walk c.in-Walking.ensures.answer c.self.invariant.sizes c.self.invariant.walk (c.in-Walking.ensures.stands w.log s.gmon) s)) st

pub returns-in-Lost-clause-stands : goal.returns-in-Lost-clause-stands
returns-in-Lost-clause-stands c = λ w st.
    let a = c.self.inside in
    let h = c.args.hart in
    let new = c.return_from_hook.new.self in
    let read = hart_read a.harts.items h _ (there a c.args.self.now h c.self.invariant c.self.view_is c.requires.turn.hart) c.index-regs.ensures in
    let P : RunValue → Type 0 = λ v. StandsFor w v → StandsFor (after_mcount v.machine h (hart_of w.harts h) w) new in
    let Q : World → Type 0 = λ v. StandsFor v new in
    subst P c.self.view_is (λ (s : StandsFor w (value_of a)).
    subst Q (sym (called_as w (value_of a) h _ _ _ Lost read c.get.ensures.value c.get-2.ensures.value c.in-Lost.ensures.answer c.self.invariant.sizes s))
    (let R : RunValue → Type 0 = λ v. StandsFor (after_entering a.machine h c.get.result c.get-2.result Lost w) v in subst R (sym c.return_from_hook.ensures.run) (lost_stands w (value_of a) c.enter.new.self h _ _ (c.in-Lost.ensures.stands w.log s.gmon) s))) st

pub returns-in-Ignored-clause-stands : goal.returns-in-Ignored-clause-stands
returns-in-Ignored-clause-stands c = λ w st.
    let a = c.self.inside in
    let h = c.args.hart in
    let new = c.return_from_hook-in-Ignored.new.self in
    let read = hart_read a.harts.items h _ (there a c.args.self.now h c.self.invariant c.self.view_is c.requires.turn.hart) c.index-regs.ensures in
    let P : RunValue → Type 0 = λ v. StandsFor w v → StandsFor (after_mcount v.machine h (hart_of w.harts h) w) new in
    let Q : World → Type 0 = λ v. StandsFor v new in
    subst P c.self.view_is (λ (s : StandsFor w (value_of a)).
    subst Q (sym (called_as w (value_of a) h _ _ _ Ignored read c.get.ensures.value c.get-2.ensures.value c.in-Ignored.ensures.answer c.self.invariant.sizes s))
    (let R : RunValue → Type 0 = λ v. StandsFor (after_entering a.machine h c.get.result c.get-2.result Ignored w) v in subst R (sym c.return_from_hook-in-Ignored.ensures.run) (ignored_stands w (value_of a) c.enter.new.self h _ _ (c.in-Ignored.ensures.stands w.log s.gmon) s))) st

pub returns-in-Walking-clause-note : goal.returns-in-Walking-clause-note
returns-in-Walking-clause-note c = grind (arith, hart_read)

pub returns-in-Lost-clause-note : goal.returns-in-Lost-clause-note
returns-in-Lost-clause-note c = grind arith

pub returns-in-Ignored-clause-note : goal.returns-in-Ignored-clause-note
returns-in-Ignored-clause-note c = grind (arith, hart_read)

pub returns-in-Lost-clause-serves : goal.returns-in-Lost-clause-serves
returns-in-Lost-clause-serves c = grind (arith, common_steps)
