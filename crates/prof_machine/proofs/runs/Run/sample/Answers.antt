use Rattle.std.proofs.Common.{◌≡◌, ◌∙◌, ◌+◌, ◌<◌, None, ap, arith, true, false, sym, subst, refl}
use Rattle.prof_machine.specs.declared.runs.Run.TheInside.{Inside}
use Rattle.mcount_arcs.specs.Value.{StandsFor as RuntimeStandsFor, with_tick}
use Rattle.prof_machine.specs.Turn.{after_sample, while_going}
use Rattle.prof_machine.specs.Value.{IsHeld, RunValue, StandsFor, value_of}
use Rattle.prof_machine.proofs.StandingLemmas.{hart_read, held_sampled, is_ended, is_none, sampled_stands, stands_ended, stands_going, there, unsampled_stands}
use Rattle.prof_machine.proofs.NoteLemmas.{sampled_note, unsampled_note}
use Rattle.prof_machine.proofs.runs.Run.sample.Goals as goal
use Rattle.prof_machine.proofs.runs.Run.sample.Goals.{then-counts, else-counts}

pub returns-then-is_some-clause-stands : goal.returns-then-is_some-clause-stands
returns-then-is_some-clause-stands c = λ w st.
    let P : RunValue → Type 0 = λ v. StandsFor w v → StandsFor (while_going (after_sample v.machine c.args.hart) w) v in
    subst P c.self.view_is (λ (s : StandsFor w (value_of c.self.inside)). stands_ended _ w (value_of c.self.inside) _ s (is_ended c.self.inside.ending (sym c.if-is_some.ensures)) s) st

pub returns-then-self-ne0-clause-stands : goal.returns-then-self-ne0-clause-stands
returns-then-self-ne0-clause-stands c = λ w st.
    let a = c.self.inside in
    let P : RunValue → Type 0 = λ v. StandsFor w v → (v.ending ≡ None → v.due < v.machine.setup.every) → StandsFor (while_going (after_sample v.machine c.args.hart) w) v in
    subst P c.self.view_is (λ (s : StandsFor w (value_of a)) (most : a.ending ≡ None → a.due < a.machine.setup.every).
    let going = is_none a.ending (sym c.if-is_some.ensures) in
    stands_going _ w (value_of a) _ s going (unsampled_stands w a c.args.hart c.self.invariant c.if-self-ne0.true (most going) s)) st c.requires.due

pub returns-clause-stands : goal.returns-clause-stands
returns-clause-stands c = λ w st.
    let a = c.self.inside in
    let h = c.args.hart in
    let new = c.tick.new.self in
    let read = hart_read a.harts.items h _ (there a c.args.self.now h c.self.invariant c.self.view_is c.requires.turn.hart) c.index.ensures in
    let P : RunValue → Type 0 = λ v. StandsFor w v → StandsFor (while_going (after_sample v.machine h) w) (value_of (record c.if-counts.self-inside { gmon = new })) in
    let R : Inside → Type 0 = λ x. StandsFor (while_going (after_sample a.machine h) w) (value_of (record x { gmon = new })) in
    subst P c.self.view_is (λ (s : StandsFor w (value_of a)).
    let going = is_none a.ending (sym c.if-is_some.ensures) in
    let G : Inside → Type 0 = λ x. RuntimeStandsFor w.log x.gmon in
    elim c.if-counts.branch [
      | then-counts b ↦ subst R (sym b.self-inside-is) (stands_going _ w (value_of a) _ s going
          (sampled_stands w a new h c.pc-pc.result (a.samples + 1) a.machine.setup.every _ true c.self.invariant read c.pc-pc.ensures c.if-self-ne0.false (sym b.if-counts.true ∙ c.counts-counts.ensures) refl (c.tick.ensures.stands w.log (subst G (sym b.self-inside-is) s.gmon)) s))
      | else-counts b ↦ subst R (sym b.self-inside-is) (stands_going _ w (value_of a) _ s going
          (sampled_stands w a new h c.pc-pc.result a.samples a.machine.setup.every _ false c.self.invariant read c.pc-pc.ensures c.if-self-ne0.false (sym b.if-counts.false ∙ c.counts-counts.ensures) (omega arith) (c.tick.ensures.stands w.log (subst G (sym b.self-inside-is) s.gmon)) s))
    ]) st

pub invariant_of-self : goal.invariant_of-self
invariant_of-self c =
    let a = c.self.inside in
    let g = c.tick.new.self in
    let v = c.args.self.now in
    let dead : a.live ≡ false = ap (λ (v : RunValue). v.live) c.self.view_is ∙ c.requires.turn.dead in
    let going = is_none a.ending (sym c.if-is_some.ensures) in
    let few : a.samples < a.retired = subst (λ (v : RunValue). v.ending ≡ None → v.samples < v.retired) (sym c.self.view_is) c.requires.samples going in
    let R : Inside → Type 0 = λ x. IsHeld (record x { gmon = g }) in
    let O : Inside → Type 0 = λ x. g ≡ with_tick c.pc-pc.result x.gmon in
    elim c.if-counts.branch [
      | then-counts b ↦ subst R (sym b.self-inside-is) (held_sampled a (a.samples + 1) c.pc-pc.result g c.self.invariant dead c.if-self-ne0.false (omega arith) (subst O b.self-inside-is c.tick.ensures.changed))
      | else-counts b ↦ subst R (sym b.self-inside-is) (held_sampled a a.samples c.pc-pc.result g c.self.invariant dead c.if-self-ne0.false (omega arith) (subst O b.self-inside-is c.tick.ensures.changed))
    ]

pub returns-then-is_some-clause-note : goal.returns-then-is_some-clause-note
returns-then-is_some-clause-note c = grind arith

pub returns-then-self-ne0-clause-note : goal.returns-then-self-ne0-clause-note
returns-then-self-ne0-clause-note c = grind (arith, unsampled_note)

pub returns-clause-note : goal.returns-clause-note
returns-clause-note c = grind (arith, hart_read, sampled_note)
