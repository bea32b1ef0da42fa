use Rattle.std.proofs.Common.{ap, ◌≡◌, ◌∙◌, sym, subst, refl, Some}
use Rattle.std.proofs.lemmas.Result.{err_from_is_err_and}
use Rattle.host_port.specs.Outside.{Did}
use Rattle.rv_step.specs.Memory.{Memory}
use Rattle.rv_step.specs.Registers.{Registers}
use Rattle.prof_machine.proofs.StageLemmas.{printless}
use Rattle.prof_machine.proofs.InstructionLemmas.{ecall_as, written_stands}
use Rattle.prof_machine.proofs.StandingLemmas.{answers_stands, hart_read, there, with_break, with_ending, with_retired}
use Rattle.prof_machine.specs.declared.ecalls.Call.TheVariants.{Answers, Writes, SetsBreak, Exits}
use Rattle.prof_machine.specs.declared.summary.End.TheVariants.{Exit}
use Rattle.prof_machine.specs.Ecalls.{write_acts}
use Rattle.prof_machine.specs.Prints.{ArePrinted, BreaksOff, IsCutShort}
use Rattle.prof_machine.specs.Stages.{answers, retires}
use Rattle.prof_machine.specs.Turn.{after_ecall, one_retired}
use Rattle.prof_machine.specs.Value.{RunValue, StandsFor, value_of}
use Rattle.prof_machine.specs.World.{World}
use Rattle.prof_machine.proofs.runs.Run.call.Goals as goal

pub returns-in-Answers-clause-stands : goal.returns-in-Answers-clause-stands
returns-in-Answers-clause-stands g c = λ w st.
    let a = c.self.inside in
    let h = c.args.hart in
    let read = hart_read a.harts.items h _ (there a c.args.self.now h c.self.invariant c.self.view_is c.requires.turn.hart) c.index.ensures in
    let P : RunValue → Type 0 = λ v. StandsFor w v → StandsFor (after_ecall v.machine h w) (answers h c.in-Answers.n v) in
    let R : RunValue → Type 0 = λ v. StandsFor (after_ecall c.args.self.now.machine h w) v in
    subst R (sym c.answer.ensures) (subst P c.self.view_is (λ (s : StandsFor w (value_of a)).
    let Q : World → Type 0 = λ v. StandsFor v (answers h c.in-Answers.n (value_of a)) in
    subst Q (sym (ecall_as w (value_of a) h _ (Answers c.in-Answers.n) read c.in-Answers.ensures s)) (answers_stands w (value_of a) h c.in-Answers.n s)) st)

pub returns-in-Answers-clause-outside : goal.returns-in-Answers-clause-outside
returns-in-Answers-clause-outside g c = printless _ _ _ _ (λ w st.
    let a = c.self.inside in
    let h = c.args.hart in
    let read = hart_read a.harts.items h _ (there a c.args.self.now h c.self.invariant c.self.view_is c.requires.turn.hart) c.index.ensures in
    let P : RunValue → Type 0 = λ v. StandsFor w v → (after_ecall v.machine h w).prints ≡ w.prints in
    subst P c.self.view_is (λ (s : StandsFor w (value_of a)).
    ap (λ (v : World). v.prints) (ecall_as w (value_of a) h _ (Answers c.in-Answers.n) read c.in-Answers.ensures s)) st)

pub returns-in-SetsBreak-clause-stands : goal.returns-in-SetsBreak-clause-stands
returns-in-SetsBreak-clause-stands g c = λ w st.
    let a = c.self.inside in
    let h = c.args.hart in
    let to = c.in-SetsBreak.to in
    let read = hart_read a.harts.items h _ (there a c.args.self.now h c.self.invariant c.self.view_is c.requires.turn.hart) c.index.ensures in
    let P : RunValue → Type 0 = λ v. StandsFor w v → StandsFor (after_ecall v.machine h w) (answers h to (value_of (record a { break_at = to }))) in
    let R : RunValue → Type 0 = λ v. StandsFor (after_ecall c.args.self.now.machine h w) v in
    subst R (sym c.answer-in-SetsBreak.ensures) (subst P c.self.view_is (λ (s : StandsFor w (value_of a)).
    let Q : World → Type 0 = λ v. StandsFor v (answers h to (value_of (record a { break_at = to }))) in
    subst Q (sym (ecall_as w (value_of a) h _ (SetsBreak to) read c.in-SetsBreak.ensures s)) (answers_stands (record w { break_at = to }) (value_of (record a { break_at = to })) h to (with_break w (value_of a) to s))) st)

pub returns-in-SetsBreak-clause-outside : goal.returns-in-SetsBreak-clause-outside
returns-in-SetsBreak-clause-outside g c = printless _ _ _ _ (λ w st.
    let a = c.self.inside in
    let h = c.args.hart in
    let read = hart_read a.harts.items h _ (there a c.args.self.now h c.self.invariant c.self.view_is c.requires.turn.hart) c.index.ensures in
    let P : RunValue → Type 0 = λ v. StandsFor w v → (after_ecall v.machine h w).prints ≡ w.prints in
    subst P c.self.view_is (λ (s : StandsFor w (value_of a)).
    ap (λ (v : World). v.prints) (ecall_as w (value_of a) h _ (SetsBreak c.in-SetsBreak.to) read c.in-SetsBreak.ensures s)) st)

pub returns-in_ok-n-in-Writes-clause-stands : goal.returns-in_ok-n-in-Writes-clause-stands
returns-in_ok-n-in-Writes-clause-stands g c = λ w st.
    let a = c.self.inside in
    let h = c.args.hart in
    let d = c.in-Writes.descriptor in
    let from = c.in-Writes.from in
    let n = c.in-Writes.count in
    let answer = c.in_ok-n-in-Writes.n in
    let read = hart_read a.harts.items h _ (there a c.args.self.now h c.self.invariant c.self.view_is c.requires.turn.hart) c.index.ensures in
    let P : RunValue → Type 0 = λ v. StandsFor w v → StandsFor (after_ecall v.machine h w) (answers h answer v) in
    let R : RunValue → Type 0 = λ v. StandsFor (after_ecall c.args.self.now.machine h w) v in
    subst R (sym c.answer-in-Writes.ensures) (subst P c.self.view_is (λ (s : StandsFor w (value_of a)).
    let Q : World → Type 0 = λ v. StandsFor v (answers h answer (value_of a)) in
    subst Q (sym (ecall_as w (value_of a) h _ (Writes d from n) read c.in-Writes.ensures s)) (written_stands w (value_of a) h d from n answer c.in_ok-n-in-Writes.ensures.answer s)) st)

pub returns-in_ok-n-in-Writes-clause-outside : goal.returns-in_ok-n-in-Writes-clause-outside
returns-in_ok-n-in-Writes-clause-outside g c =
    let a = c.self.inside in
    let h = c.args.hart in
    let old = g.H.Host.outside c.args.host.now in
    let new = g.H.Host.outside c.write.new.host in
    let d = c.in-Writes.descriptor in
    let from = c.in-Writes.from in
    let n = c.in-Writes.count in
    let read = hart_read a.harts.items h _ (there a c.args.self.now h c.self.invariant c.self.view_is c.requires.turn.hart) c.index.ensures in
    let e = c.in_ok-n-in-Writes.ensures in
    record {
      prints = λ w st.
          let P : RunValue → Type 0 = λ v. StandsFor w v → ArePrinted w (after_ecall v.machine h w) old new in
          subst P c.self.view_is (λ (s : StandsFor w (value_of a)).
          let Q : World → Type 0 = λ v. ArePrinted w v old new in
          let M : Memory → Type 0 = λ m. Did (write_acts m d from n) old new in
          subst Q (sym (ecall_as w (value_of a) h _ (Writes d from n) read c.in-Writes.ensures s))
          (record { more = write_acts w.memory d from n; behind = refl; did = subst M s.memory e.prints })) st;
      fails = tt;
      counts = e.counts;
      writing = e.writing;
      input = e.input;
    }

pub returns-in_err-n-in-Writes-clause-outside : goal.returns-in_err-n-in-Writes-clause-outside
returns-in_err-n-in-Writes-clause-outside g c =
    let a = c.self.inside in
    let h = c.args.hart in
    let old = g.H.Host.outside c.args.host.now in
    let new = g.H.Host.outside c.write.new.host in
    let d = c.in-Writes.descriptor in
    let from = c.in-Writes.from in
    let n = c.in-Writes.count in
    let read = hart_read a.harts.items h _ (there a c.args.self.now h c.self.invariant c.self.view_is c.requires.turn.hart) c.index.ensures in
    let e = c.in_err-n-in-Writes.ensures in
    let p = err_from_is_err_and c.from_residual.result c.from_residual.ensures.1 in
    rw p.1 (record {
      prints = tt;
      fails = λ w st.
          let P : RunValue → Type 0 = λ v. StandsFor w v → BreaksOff w (after_ecall v.machine h w) old new in
          subst P c.self.view_is (λ (s : StandsFor w (value_of a)).
          let Q : World → Type 0 = λ v. BreaksOff w v old new in
          let M : Memory → Type 0 = λ m. IsCutShort (write_acts m d from n) old new in
          subst Q (sym (ecall_as w (value_of a) h _ (Writes d from n) read c.in-Writes.ensures s))
          (record { more = write_acts w.memory d from n; behind = refl; cut = subst M s.memory e.fails })) st;
      counts = e.counts;
      writing = e.writing;
      input = e.input;
    })

pub returns-in-Exits-clause-stands : goal.returns-in-Exits-clause-stands
returns-in-Exits-clause-stands g c = λ w st.
    let a = c.self.inside in
    let h = c.args.hart in
    let e = Exit c.in-Exits.status in
    let read = hart_read a.harts.items h _ (there a c.args.self.now h c.self.invariant c.self.view_is c.requires.turn.hart) c.index.ensures in
    let P : RunValue → Type 0 = λ v. StandsFor w v → StandsFor (after_ecall v.machine h w) (record (retires c.pc-pc.result v) { ending = Some e }) in
    let R : RunValue → Type 0 = λ v. StandsFor (after_ecall c.args.self.now.machine h w) (record v { ending = Some e }) in
    subst R (sym (c.self-in-Exits.view_is ∙ c.retire.ensures)) (subst P c.self.view_is (λ (s : StandsFor w (value_of a)).
    let Q : World → Type 0 = λ v. StandsFor v (record (retires c.pc-pc.result (value_of a)) { ending = Some e }) in
    subst Q (sym (ecall_as w (value_of a) h _ (Exits c.in-Exits.status) read c.in-Exits.ensures s)) (with_ending (one_retired h w) (retires c.pc-pc.result (value_of a)) e (with_retired w (value_of a) h c.pc-pc.result (c.pc-pc.ensures ∙ ap (λ (t : Registers). t.pc) (sym (hart_read a.harts.items h _ (there a c.args.self.now h c.self.invariant c.self.view_is c.requires.turn.hart) c.index-in-Exits.ensures))) s))) st)

pub returns-in-Exits-clause-outside : goal.returns-in-Exits-clause-outside
returns-in-Exits-clause-outside g c = printless _ _ _ _ (λ w st.
    let a = c.self.inside in
    let h = c.args.hart in
    let read = hart_read a.harts.items h _ (there a c.args.self.now h c.self.invariant c.self.view_is c.requires.turn.hart) c.index.ensures in
    let P : RunValue → Type 0 = λ v. StandsFor w v → (after_ecall v.machine h w).prints ≡ w.prints in
    subst P c.self.view_is (λ (s : StandsFor w (value_of a)).
    ap (λ (v : World). v.prints) (ecall_as w (value_of a) h _ (Exits c.in-Exits.status) read c.in-Exits.ensures s)) st)
