use Rattle.std.proofs.Common.{◌≡◌, ◌∙◌, true, sym, subst, Some, None, Option}
use Rattle.prof_machine.specs.declared.flight.Flight.{Flight}
use Rattle.prof_machine.specs.Turn.{after_look}
use Rattle.prof_machine.specs.World.{looks_of_hart}
use Rattle.prof_machine.specs.Value.{RunValue, StandsFor, value_of}
use Rattle.prof_machine.specs.Stages.{holds, returns}
use Rattle.prof_machine.proofs.WalkLemmas.{moved_stands, over_stands}
use Rattle.std.proofs.Common.{List, ap}
use Rattle.rv_step.specs.Registers.{Registers}
use Rattle.prof_machine.specs.Notes.{look_note, note_by, return_of}
use Rattle.prof_machine.specs.World.{hart_of}
use Rattle.prof_machine.proofs.NoteLemmas.{moved_note, over_note}
use Rattle.prof_machine.proofs.runs.Run.look.Goals as goal

pub returns-in-More-clause-stands : goal.returns-in-More-clause-stands
returns-in-More-clause-stands c = λ w st.
    let a = c.self.inside in
    let f = c.in-Some.flight in
    let is : a.flight ≡ Some f = sym c.take.ensures.value ∙ c.in-Some.is in
    let P : RunValue → Type 0 = λ v. StandsFor w v → holds v.flight c.args.hart ≡ true → StandsFor (after_look v.machine c.args.hart (looks_of_hart w.left c.args.hart) w) (value_of (record a { flight = Some (record { hart = c.args.hart; walk = c.in-More.next }); gmon = c.look.new.self })) in
    subst P c.self.view_is (λ (s : StandsFor w (value_of a)) (mine : holds a.flight c.args.hart ≡ true).
    (moved_stands w a f c.look.new.self c.args.hart c.in-More.next c.self.invariant is mine (c.in-More.ensures.looks w.log s.gmon) s).0) st c.requires.holder

pub returns-in-More-clause-prints : goal.returns-in-More-clause-prints
returns-in-More-clause-prints c = λ w st.
    let a = c.self.inside in
    let f = c.in-Some.flight in
    let is : a.flight ≡ Some f = sym c.take.ensures.value ∙ c.in-Some.is in
    let P : RunValue → Type 0 = λ v. StandsFor w v → holds v.flight c.args.hart ≡ true → (after_look v.machine c.args.hart (looks_of_hart w.left c.args.hart) w).prints ≡ w.prints in
    subst P c.self.view_is (λ (s : StandsFor w (value_of a)) (mine : holds a.flight c.args.hart ≡ true).
    (moved_stands w a f c.look.new.self c.args.hart c.in-More.next c.self.invariant is mine (c.in-More.ensures.looks w.log s.gmon) s).1) st c.requires.holder

pub returns-in-Counted-clause-stands : goal.returns-in-Counted-clause-stands
returns-in-Counted-clause-stands c = λ w st.
    let a = c.self.inside in
    let f = c.in-Some.flight in
    let is : a.flight ≡ Some f = sym c.take.ensures.value ∙ c.in-Some.is in
    let P : RunValue → Type 0 = λ v. StandsFor w v → holds v.flight c.args.hart ≡ true → StandsFor (after_look v.machine c.args.hart (looks_of_hart w.left c.args.hart) w) (returns c.args.hart (value_of (record a { flight = None; gmon = c.look.new.self }))) in
    let Q : Option Flight → Type 0 = λ o. StandsFor (after_look c.args.self.now.machine c.args.hart (looks_of_hart w.left c.args.hart) w) (returns c.args.hart (value_of (record a { flight = o; gmon = c.look.new.self }))) in
    let R : RunValue → Type 0 = λ v. StandsFor (after_look c.args.self.now.machine c.args.hart (looks_of_hart w.left c.args.hart) w) v in
    subst R (sym c.return_from_hook.ensures.run) (subst Q (sym c.take.ensures.after)
    (subst P c.self.view_is (λ (s : StandsFor w (value_of a)) (mine : holds a.flight c.args.hart ≡ true).
    (over_stands w a f c.look.new.self c.args.hart _ c.self.invariant is mine (c.in-Counted.ensures.looks w.log s.gmon) (λ x same. absurd cc) s).0) st c.requires.holder))

pub returns-in-Counted-clause-prints : goal.returns-in-Counted-clause-prints
returns-in-Counted-clause-prints c = λ w st.
    let a = c.self.inside in
    let f = c.in-Some.flight in
    let is : a.flight ≡ Some f = sym c.take.ensures.value ∙ c.in-Some.is in
    let P : RunValue → Type 0 = λ v. StandsFor w v → holds v.flight c.args.hart ≡ true → (after_look v.machine c.args.hart (looks_of_hart w.left c.args.hart) w).prints ≡ w.prints in
    subst P c.self.view_is (λ (s : StandsFor w (value_of a)) (mine : holds a.flight c.args.hart ≡ true).
    (over_stands w a f c.look.new.self c.args.hart _ c.self.invariant is mine (c.in-Counted.ensures.looks w.log s.gmon) (λ x same. absurd cc) s).1) st c.requires.holder

pub returns-in-Overflowed-clause-stands : goal.returns-in-Overflowed-clause-stands
returns-in-Overflowed-clause-stands c = λ w st.
    let a = c.self.inside in
    let f = c.in-Some.flight in
    let is : a.flight ≡ Some f = sym c.take.ensures.value ∙ c.in-Some.is in
    let P : RunValue → Type 0 = λ v. StandsFor w v → holds v.flight c.args.hart ≡ true → StandsFor (after_look v.machine c.args.hart (looks_of_hart w.left c.args.hart) w) (returns c.args.hart (value_of (record a { flight = None; gmon = c.look.new.self }))) in
    let Q : Option Flight → Type 0 = λ o. StandsFor (after_look c.args.self.now.machine c.args.hart (looks_of_hart w.left c.args.hart) w) (returns c.args.hart (value_of (record a { flight = o; gmon = c.look.new.self }))) in
    let R : RunValue → Type 0 = λ v. StandsFor (after_look c.args.self.now.machine c.args.hart (looks_of_hart w.left c.args.hart) w) v in
    subst R (sym c.return_from_hook-in-Overflowed.ensures.run) (subst Q (sym c.take.ensures.after)
    (subst P c.self.view_is (λ (s : StandsFor w (value_of a)) (mine : holds a.flight c.args.hart ≡ true).
    (over_stands w a f c.look.new.self c.args.hart _ c.self.invariant is mine (c.in-Overflowed.ensures.looks w.log s.gmon) (λ x same. absurd cc) s).0) st c.requires.holder))

pub returns-in-Overflowed-clause-prints : goal.returns-in-Overflowed-clause-prints
returns-in-Overflowed-clause-prints c = λ w st.
    let a = c.self.inside in
    let f = c.in-Some.flight in
    let is : a.flight ≡ Some f = sym c.take.ensures.value ∙ c.in-Some.is in
    let P : RunValue → Type 0 = λ v. StandsFor w v → holds v.flight c.args.hart ≡ true → (after_look v.machine c.args.hart (looks_of_hart w.left c.args.hart) w).prints ≡ w.prints in
    subst P c.self.view_is (λ (s : StandsFor w (value_of a)) (mine : holds a.flight c.args.hart ≡ true).
    (over_stands w a f c.look.new.self c.args.hart _ c.self.invariant is mine (c.in-Overflowed.ensures.looks w.log s.gmon) (λ x same. absurd cc) s).1) st c.requires.holder

pub returns-in-More-clause-note : goal.returns-in-More-clause-note
returns-in-More-clause-note c = λ w st.
    let a = c.self.inside in
    let f = c.in-Some.flight in
    let is : a.flight ≡ Some f = sym c.take.ensures.value ∙ c.in-Some.is in
    let P : RunValue → Type 0 = λ v. StandsFor w v → holds v.flight c.args.hart ≡ true → look_note None ≡ note_by v.machine c.args.hart (looks_of_hart w.left c.args.hart) w in
    subst P c.self.view_is (λ (s : StandsFor w (value_of a)) (mine : holds a.flight c.args.hart ≡ true).
    moved_note w a f c.look.new.self c.args.hart c.in-More.next c.self.invariant is mine (c.in-More.ensures.looks w.log s.gmon) s) st c.requires.holder

pub returns-in-Counted-clause-note : goal.returns-in-Counted-clause-note
returns-in-Counted-clause-note c = λ w st.
    let a = c.self.inside in
    let f = c.in-Some.flight in
    let is : a.flight ≡ Some f = sym c.take.ensures.value ∙ c.in-Some.is in
    let P : RunValue → Type 0 = λ v. StandsFor w v → holds v.flight c.args.hart ≡ true → look_note c.return_from_hook.result ≡ note_by v.machine c.args.hart (looks_of_hart w.left c.args.hart) w in
    subst P c.self.view_is (λ (s : StandsFor w (value_of a)) (mine : holds a.flight c.args.hart ≡ true).
    ap look_note (c.return_from_hook.ensures.to ∙ ap (λ (x : List Registers). return_of (hart_of x c.args.hart)) s.harts)
    ∙ over_note w a f c.look.new.self c.args.hart _ c.self.invariant is mine (c.in-Counted.ensures.looks w.log s.gmon) (λ x same. absurd cc) s) st c.requires.holder

pub returns-in-Overflowed-clause-note : goal.returns-in-Overflowed-clause-note
returns-in-Overflowed-clause-note c = λ w st.
    let a = c.self.inside in
    let f = c.in-Some.flight in
    let is : a.flight ≡ Some f = sym c.take.ensures.value ∙ c.in-Some.is in
    let P : RunValue → Type 0 = λ v. StandsFor w v → holds v.flight c.args.hart ≡ true → look_note c.return_from_hook-in-Overflowed.result ≡ note_by v.machine c.args.hart (looks_of_hart w.left c.args.hart) w in
    subst P c.self.view_is (λ (s : StandsFor w (value_of a)) (mine : holds a.flight c.args.hart ≡ true).
    ap look_note (c.return_from_hook-in-Overflowed.ensures.to ∙ ap (λ (x : List Registers). return_of (hart_of x c.args.hart)) s.harts)
    ∙ over_note w a f c.look.new.self c.args.hart _ c.self.invariant is mine (c.in-Overflowed.ensures.looks w.log s.gmon) (λ x same. absurd cc) s) st c.requires.holder
