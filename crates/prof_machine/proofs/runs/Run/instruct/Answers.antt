use Rattle.std.proofs.Common.{◌≡◌, ◌∙◌, ap}
use Rattle.std.proofs.lemmas.Result.{err_from_is_err_and}
use Rattle.prof_machine.proofs.PrintLemmas.{prints_instructed}
use Rattle.prof_machine.proofs.StageLemmas.{fails_like, prints_like}
use Rattle.prof_machine.proofs.TurnLemmas.{instructed_stands}
use Rattle.prof_machine.proofs.NoteLemmas.{instruction_noted}
use Rattle.prof_machine.specs.declared.notes.TurnNote.{TurnNote}
use Rattle.prof_machine.proofs.runs.Run.instruct.Goals as goal

pub returns-in_err-execute-clause-outside : goal.returns-in_err-execute-clause-outside
returns-in_err-execute-clause-outside g c =
    let p = err_from_is_err_and c.from_residual.result c.from_residual.ensures.1 in
    rw p.1 (fails_like _ _ c.args.self.now _ _ _ _ _ (λ w st. st) (λ w st. prints_instructed c.args.self.now.machine c.args.hart w) c.in_err-execute.ensures.outside)

pub returns-clause-stands : goal.returns-clause-stands
returns-clause-stands g c = λ w st.
    let e = c.in_ok-execute.ensures in
    let m1 : c.execute.new.self.machine ≡ c.args.self.now.machine = e.executes.same.machine in
    let m2 : c.sample-note-inside.new.self.machine ≡ c.args.self.now.machine = c.sample-note-inside.ensures.ticks.same.machine ∙ m1 in
    let m3 : c.arrive-note-inside.new.self.machine ≡ c.args.self.now.machine = c.arrive-note-inside.ensures.serves.same.machine ∙ m2 in
    instructed_stands c.args.self.now.machine _ _ _ c.args.hart w _ m1 m2 m3 (c.spend.ensures.stands _ (c.arrive-note-inside.ensures.stands _ (c.sample-note-inside.ensures.stands _ (e.stands w st))))

pub returns-clause-outside : goal.returns-clause-outside
returns-clause-outside g c = prints_like _ _ c.args.self.now _ _ _ _ _ (λ w st. st) (λ w st. prints_instructed c.args.self.now.machine c.args.hart w) c.in_ok-execute.ensures.outside

pub returns-clause-note : goal.returns-clause-note
returns-clause-note g c = λ w st.
    let e = c.in_ok-execute.ensures in
    let m1 : c.execute.new.self.machine ≡ c.args.self.now.machine = e.executes.same.machine in
    let m2 : c.sample-note-inside.new.self.machine ≡ c.args.self.now.machine = c.sample-note-inside.ensures.ticks.same.machine ∙ m1 in
    let after = c.sample-note-inside.ensures.stands _ (e.stands w st) in
    instruction_noted c.args.self.now.machine _ _ c.args.hart w c.args.self.now c.execute.new.self _ c.begin-begin.result m1 m2 st (e.stands w st) c.begin-begin.ensures (ap (λ (x : TurnNote). x.ran) (c.note.view_is ∙ c.note_since-note.ensures))
    (c.sample-note-inside.ensures.note _ (e.stands w st)) (c.arrive-note-inside.ensures.note _ after)
