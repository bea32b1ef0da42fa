use Rattle.std.proofs.Common.{◌≡◌, ◌∙◌, MatchResult, Some, ap, subst, sym}
use Rattle.std.specs.Vec.{with_item}
use Rattle.prof_machine.specs.declared.summary.End.TheVariants.{Trap}
use Rattle.prof_machine.specs.Stages.{Executes}
use Rattle.prof_machine.specs.Turn.{after_ecall, after_execution}
use Rattle.prof_machine.specs.World.{World}
use Rattle.prof_machine.proofs.StageLemmas.{printless, prints_as}
use Rattle.prof_machine.proofs.StandingLemmas.{hart_read, there}
use Rattle.prof_machine.proofs.ResultLemmas.{on_ok}
use Rattle.prof_machine.proofs.InstructionLemmas.{called_unchanged, step_called, step_retired, step_trapped}
use Rattle.prof_machine.specs.Value.{RunValue, StandsFor, value_of}
use Rattle.prof_machine.proofs.runs.Run.execute.Goals as goal

pub returns-in-Retired-clause-stands : goal.returns-in-Retired-clause-stands
returns-in-Retired-clause-stands g c = λ w st.
    let a = c.self.inside in
    let h = c.args.hart in
    let read = hart_read a.harts.items h _ (there a c.args.self.now h c.self.invariant c.self.view_is c.requires.turn.hart) c.index_mut-regs.ensures.value in
    let P : RunValue → Type 0 = λ v. StandsFor w v → StandsFor (after_execution v.machine h w) c.retire.new.self in
    subst P c.self.view_is (λ (s : StandsFor w (value_of a)).
    let R : RunValue → Type 0 = λ v. StandsFor (after_execution a.machine h w) v in
    subst R (sym c.retire.ensures) (step_retired w a h c.pc-pc.result _ _ _ read c.pc-pc.ensures (c.in-Retired.ensures.answer) c.step.ensures.registers c.step.ensures.memory s).0) st

pub returns-in-Retired-clause-outside : goal.returns-in-Retired-clause-outside
returns-in-Retired-clause-outside g c = printless _ _ _ _ (λ w st.
    let a = c.self.inside in
    let h = c.args.hart in
    let read = hart_read a.harts.items h _ (there a c.args.self.now h c.self.invariant c.self.view_is c.requires.turn.hart) c.index_mut-regs.ensures.value in
    let P : RunValue → Type 0 = λ v. StandsFor w v → (after_execution v.machine h w).prints ≡ w.prints in
    subst P c.self.view_is (λ (s : StandsFor w (value_of a)).
    (step_retired w a h c.pc-pc.result _ _ _ read c.pc-pc.ensures (c.in-Retired.ensures.answer) c.step.ensures.registers c.step.ensures.memory s).1) st)

pub returns-in-Ecall-clause-stands : goal.returns-in-Ecall-clause-stands
returns-in-Ecall-clause-stands g c = on_ok _ _ c.call.result _ _ (λ after w st.
    let a = c.self.inside in
    let h = c.args.hart in
    let read = hart_read a.harts.items h _ (there a c.args.self.now h c.self.invariant c.self.view_is c.requires.turn.hart) c.index_mut-regs.ensures.value in
    let P : RunValue → Type 0 = λ v. StandsFor w v → StandsFor (after_execution v.machine h w) c.call.new.self in
    subst P c.self.view_is (λ (s : StandsFor w (value_of a)).
    let called = step_called w a h _ _ _ read (c.in-Ecall.ensures.answer) c.step.ensures.registers c.step.ensures.memory c.in-Ecall.ensures.unchanged s in
    let R : World → Type 0 = λ v. StandsFor v c.call.new.self in
    subst R (sym called.0) (after w called.1)) st) c.call.ensures.stands

pub returns-in-Ecall-clause-outside : goal.returns-in-Ecall-clause-outside
returns-in-Ecall-clause-outside g c =
    let a = c.self.inside in
    let h = c.args.hart in
    let q = value_of (record a { harts = with_item a.harts h c.step.new.regs; ram = c.step.new.ram }) in
    let read = hart_read a.harts.items h _ (there a c.args.self.now h c.self.invariant c.self.view_is c.requires.turn.hart) c.index_mut-regs.ensures.value in
    let P : World → RunValue → Type 0 = λ w v. StandsFor w v → (after_execution v.machine h w ≡ after_ecall a.machine h w) × StandsFor w q in
    let called : (w : World) → P w c.args.self.now = λ w. subst (P w) c.self.view_is (step_called w a h _ _ _ read (c.in-Ecall.ensures.answer) c.step.ensures.registers c.step.ensures.memory c.in-Ecall.ensures.unchanged) in
    prints_as _ (after_ecall a.machine h) c.args.self.now q _ _ c.call.result (λ w st. (called w st).1) (λ w st. ap (λ (v : World). v.prints) (called w st).0) c.call.ensures.outside

pub returns-in-Ecall-clause-executes : goal.returns-in-Ecall-clause-executes
returns-in-Ecall-clause-executes g c =
    let a = c.self.inside in
    let h = c.args.hart in
    let read = hart_read a.harts.items h _ (there a c.args.self.now h c.self.invariant c.self.view_is c.requires.turn.hart) c.index_mut-regs.ensures.value in
    let same = called_unchanged a h _ c.step.new.regs c.step.new.ram read c.in-Ecall.ensures.unchanged ∙ c.self.view_is in
    let P : RunValue → Type 0 = λ v. MatchResult c.call.result (λ _. Executes v c.call.new.self) (λ _. c.call.new.self ≡ v) in
    subst P same c.call.ensures.executes

pub returns-in-Trap-clause-stands : goal.returns-in-Trap-clause-stands
returns-in-Trap-clause-stands g c = λ w st.
    let a = c.self.inside in
    let h = c.args.hart in
    let read = hart_read a.harts.items h _ (there a c.args.self.now h c.self.invariant c.self.view_is c.requires.turn.hart) c.index_mut-regs.ensures.value in
    let P : RunValue → Type 0 = λ v. StandsFor w v → StandsFor (after_execution v.machine h w) (value_of (record a { harts = with_item a.harts h c.step.new.regs; ram = c.step.new.ram; ending = Some (Trap c.in-Trap.kind c.pc-pc.result) })) in
    subst P c.self.view_is (λ (s : StandsFor w (value_of a)).
    (step_trapped w a h c.in-Trap.kind c.pc-pc.result _ _ _ read (c.in-Trap.ensures.answer) c.step.ensures.registers c.step.ensures.memory c.in-Trap.ensures.unchanged c.pc-pc.ensures s).0) st

pub returns-in-Trap-clause-outside : goal.returns-in-Trap-clause-outside
returns-in-Trap-clause-outside g c = printless _ _ _ _ (λ w st.
    let a = c.self.inside in
    let h = c.args.hart in
    let read = hart_read a.harts.items h _ (there a c.args.self.now h c.self.invariant c.self.view_is c.requires.turn.hart) c.index_mut-regs.ensures.value in
    let P : RunValue → Type 0 = λ v. StandsFor w v → (after_execution v.machine h w).prints ≡ w.prints in
    subst P c.self.view_is (λ (s : StandsFor w (value_of a)).
    (step_trapped w a h c.in-Trap.kind c.pc-pc.result _ _ _ read (c.in-Trap.ensures.answer) c.step.ensures.registers c.step.ensures.memory c.in-Trap.ensures.unchanged c.pc-pc.ensures s).1) st)
