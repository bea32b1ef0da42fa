use Rattle.std.proofs.Common.{◌≡◌, ◌∙◌, Ok, true, false, sym, subst, rules}
use Rattle.std.proofs.lemmas.Result.{err_from_is_err_and}
use Rattle.host_port.specs.declared.host.Failed.{Failed}
use Rattle.prof_machine.proofs.DriveLemmas.{fewer_turns}
use Rattle.prof_machine.proofs.StageLemmas.{fails_like, instructed_prints, printless, prints_like}
use Rattle.prof_machine.proofs.StandingLemmas.{with_live}
use Rattle.prof_machine.proofs.TurnLemmas.{taken_instructed, turn_prints, turn_stands}
use Rattle.prof_machine.proofs.NoteLemmas.{instructed_note, turn_noted}
use Rattle.prof_machine.specs.declared.notes.TurnNote.{TurnNote}
use Rattle.prof_machine.specs.Stages.{PrintsAs}
use Rattle.prof_machine.specs.Turn.{after_close, after_ordinary_turn, after_look, turn_of}
use Rattle.prof_machine.specs.Value.{RunValue, StandsFor, value_of}
use Rattle.prof_machine.specs.World.{World, looks_of_hart}
use Rattle.prof_machine.proofs.runs.Run.advance.Goals as goal
use Rattle.prof_machine.proofs.runs.Run.advance.Goals.{then-holds_walk, else-holds_walk+in_ok-note}

pub returns-clause-stands : goal.returns-clause-stands
returns-clause-stands g c = λ w st.
    let a = c.self.inside in
    let h = c.args.hart in
    let P : RunValue → Type 0 = λ v. v.live ≡ true → StandsFor w v → StandsFor (turn_of v.machine w h) (value_of (record c.self-2.inside { live = c.is_none-self-inside.result })) in
    let V : RunValue → Type 0 = λ v. StandsFor (after_close (after_look a.machine h (looks_of_hart w.left h) w)) v in
    subst P c.self.view_is (λ live (s : StandsFor w (value_of a)).
    let s' : StandsFor w (value_of (record a { live = false })) = with_live w (value_of a) false s in
    let mid : StandsFor (after_look a.machine h (looks_of_hart w.left h) w) c.if-holds_walk.self = elim c.if-holds_walk.branch [
      | then-holds_walk b ↦ (let Q : RunValue → Type 0 = λ v. StandsFor (after_look a.machine h (looks_of_hart w.left h) w) v in subst Q (sym b.self-is) (b.look.ensures.stands w s'))
      | else-holds_walk+in_ok-note b ↦
          let Q : RunValue → Type 0 = λ v. StandsFor (after_look a.machine h (looks_of_hart w.left h) w) v in
          let R : World → Type 0 = λ v. StandsFor v b.instruct.new.self in
          subst Q (sym b.self-is) (subst R (sym (taken_instructed a.machine h w (value_of (record a { live = false })) (sym b.if-holds_walk.ensures) s')) (b.in_ok-note.ensures.stands w s'))
    ] in
    turn_stands a.machine h w (value_of a) _ (c.self.invariant.going live) s
    (with_live _ (value_of c.self-2.inside) _ (subst V (sym c.self-2.view_is) (c.close.ensures.stands _ mid)))) c.requires.live st

pub returns-in_err-note-clause-outside : goal.returns-in_err-note-clause-outside
returns-in_err-note-clause-outside g c = search (err_from_is_err_and, instructed_prints, fails_like, rules)

pub returns-clause-outside : goal.returns-clause-outside
returns-clause-outside g c =
    let a = c.self.inside in
    let h = c.args.hart in
    let v = c.args.self.now in
    let old = g.H.Host.outside c.args.host.now in
    let stage : World → World = λ w. turn_of v.machine w h in
    let H : _ → Type 0 = λ x. PrintsAs {T = TurnNote} {E = Failed} stage v old (g.H.Host.outside x) (Ok c.if-holds_walk.note) in
    elim c.if-holds_walk.branch [
      | then-holds_walk b ↦ subst H (sym b.host-is) (printless stage v old _ (λ w st.
          let P : RunValue → Type 0 = λ v. v.live ≡ true → StandsFor w v → (turn_of v.machine w h).prints ≡ w.prints in
          subst P c.self.view_is (λ live (s : StandsFor w (value_of a)). turn_prints a.machine h w (value_of a) (c.self.invariant.going live) s ∙ b.look.ensures.prints w (with_live w (value_of a) false s)) c.requires.live st))
      | else-holds_walk+in_ok-note b ↦
          let here = instructed_prints a v h c.self.view_is c.self.invariant.going c.requires.live (sym b.if-holds_walk.ensures) in
          subst H (sym b.host-is) (prints_like stage (after_ordinary_turn a.machine h) v (value_of (record a { live = false })) _ _ _ _ (λ w st. (here w st).0) (λ w st. (here w st).1) b.in_ok-note.ensures.outside)
    ]

pub returns-in_err-note-clause-fewer : goal.returns-in_err-note-clause-fewer
returns-in_err-note-clause-fewer g c = fewer_turns c.self.inside _ _ c.self.view_is c.self.invariant c.requires.live (search rules)

pub returns-clause-fewer : goal.returns-clause-fewer
returns-clause-fewer g c = fewer_turns c.self.inside _ _ c.self.view_is c.self.invariant c.requires.live (search rules)

pub returns-clause-note : goal.returns-clause-note
returns-clause-note g c = search (with_live, then-holds_walk, else-holds_walk+in_ok-note, instructed_note, turn_noted, rules)
