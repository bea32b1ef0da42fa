-- The note of a turn, in the world that a run stands for.
use Rattle.std.proofs.Common.{◌&&◌, ◌<◌, Bool, None, Option, Some, ap, arith, eqb, false, refl, subst, suc, sym, true, zero, ℕ, ◌∙◌, ◌≡◌, if◌then◌else◌}
use Rattle.std.specs.Option.{IsSome, option_eq}
use Rattle.std.specs.Prelude.{is_some}
use Rattle.std.proofs.lemmas.Bool.{eqb-true}
use Rattle.gp_base.specs.Spans.{is_in}
use Rattle.rv_step.specs.Registers.{Registers}
use Rattle.mcount_arcs.specs.Sizes.{text_span}
use Rattle.mcount_arcs.specs.Value.{GmonValue, Looks}
use Rattle.mcount_arcs.specs.declared.walk.Looked.{Looked}
use Rattle.mcount_arcs.specs.declared.walk.Looked.TheVariants.{More}
use Rattle.mcount_arcs.specs.declared.walk.Walk.{Walk}
use Rattle.prof_machine.proofs.ClockLemmas.{not_due}
use Rattle.prof_machine.proofs.WalkLemmas.{goes_on_left, held_inside, left_here, left_none, more_left}
use Rattle.prof_machine.specs.Notes.{if_going, instruction_note, look_note, note_by, note_of, return_from_call, return_in, return_of, sample_in}
use Rattle.prof_machine.specs.Stages.{begin_of, holds, ran_since}
use Rattle.prof_machine.specs.Turn.{after_execution, after_sample, while_going}
use Rattle.prof_machine.specs.Value.{IsHeld, RunValue, StandsFor, value_of}
use Rattle.prof_machine.specs.World.{World, hart_of, looks_of_hart}
use Rattle.prof_machine.specs.declared.summary.End.{End}
use Rattle.prof_machine.specs.declared.flight.Flight.{Flight}
use Rattle.prof_machine.specs.declared.machine.Machine.{Machine}
use Rattle.prof_machine.specs.declared.notes.TurnNote.{TurnNote}
use Rattle.prof_machine.specs.declared.runs.Run.TheInside.{Inside}
use Rattle.prof_machine.specs.declared.stages.Begin.{Begin}

-- ---- what there is only while the run goes on

pub going_part : (part : World → Option ℕ) (w : World) (r : RunValue) → StandsFor w r → r.ending ≡ None → if_going part w ≡ part w
going_part part w r stands going = ap (λ (o : Option End). if is_some o then None else part w) (sym stands.ending ∙ going)

pub ended_part : (part : World → Option ℕ) (w : World) (r : RunValue) → StandsFor w r → IsSome r.ending → if_going part w ≡ None
ended_part part w r stands ended = grind arith

-- ---- the sample

pub sampled_note : (w : World) (a : Inside) (h pc : ℕ) (s : Registers) (b : Bool) → IsHeld a → hart_of a.harts.items h ≡ s → pc ≡ s.pc → a.due ≡ 0 → b ≡ (a.gmon.sampling && is_in (text_span a.gmon.sizes) pc) → StandsFor w (value_of a)
    → sample_in a.machine h w ≡ (if b then Some pc else None)
unfolding sample_in
sampled_note w a h pc s b held read pc_is none may stands = grind arith

pub unsampled_note : (w : World) (a : Inside) (h : ℕ) → IsHeld a → (a.due ≡ 0 → ⊥) → a.due < a.machine.setup.every → StandsFor w (value_of a) → sample_in a.machine h w ≡ None
unfolding sample_in
unsampled_note w a h held some most stands = grind (arith, not_due)

-- ---- the return from a hook

pub return_as : (w : World) (r : RunValue) (h pc : ℕ) (s : Registers) (b c : Bool) → hart_of r.harts h ≡ s → pc ≡ s.pc → b ≡ option_eq eqb r.machine.mcount (Some pc) → c ≡ option_eq eqb r.machine.moncontrol (Some pc) → StandsFor w r
    → return_in r.machine h w ≡ (if b then return_from_call r.machine w.log (hart_of w.harts h) else (if c then return_of (hart_of w.harts h) else None))
unfolding return_in
return_as w r h pc s b c read pc_is b_is c_is stands = grind arith

-- ---- a look

note_at : (m : Machine) (h n : ℕ) (w : World) → looks_of_hart w.left h ≡ n → note_by m h n w ≡ note_by m h (looks_of_hart w.left h) w
note_at m h n w is = sym (ap (λ (k : ℕ). note_by m h k w) is)

pub moved_note : (w : World) (a : Inside) (f : Flight) (g : GmonValue) (h : ℕ) (next : Walk) → IsHeld a → a.flight ≡ Some f → holds a.flight h ≡ true → Looks w.log f.walk a.gmon g (More next) → StandsFor w (value_of a)
    → look_note None ≡ note_by a.machine h (looks_of_hart w.left h) w
moved_note w a f g h next held is mine looks stands =
    let here : f.hart ≡ h = eqb-true f.hart h (sym (ap (λ (o : Option Flight). holds o h) is) ∙ mine) in
    let (n, two, gmon, next_is) = goes_on_left w a f g next held is stands looks in
    let left : looks_of_hart w.left f.hart ≡ suc (suc n) = left_here w (value_of a) f (held_inside a f held is) is stands ∙ two in
    let R : ℕ → Type 0 = λ k. look_note None ≡ note_by a.machine k (looks_of_hart w.left k) w in
    subst R here (note_at a.machine f.hart (suc (suc n)) w left)

pub over_note : (w : World) (a : Inside) (f : Flight) (g : GmonValue) (h : ℕ) (result : Looked) → IsHeld a → a.flight ≡ Some f → holds a.flight h ≡ true → Looks w.log f.walk a.gmon g result → ((x : Walk) → result ≡ More x → ⊥) → StandsFor w (value_of a)
    → look_note (return_of (hart_of w.harts h)) ≡ note_by a.machine h (looks_of_hart w.left h) w
over_note w a f g h result held is mine looks over stands =
    let here : f.hart ≡ h = eqb-true f.hart h (sym (ap (λ (o : Option Flight). holds o h) is) ∙ mine) in
    let last = more_left w a f g result held is stands looks over in
    let left : looks_of_hart w.left f.hart ≡ suc zero = left_here w (value_of a) f (held_inside a f held is) is stands ∙ last.0 in
    search note_at

-- ---- an instruction

pub instruction_noted : (m m1 m2 : Machine) (h : ℕ) (w : World) (old new : RunValue) (t : TurnNote) (b : Begin) → m1 ≡ m → m2 ≡ m → StandsFor w old → StandsFor (after_execution m h w) new
    → b ≡ begin_of h old → t.ran ≡ ran_since h b new
    → t.sample ≡ if_going (sample_in m1 h) (after_execution m h w) → t.returned ≡ if_going (return_in m2 h) (while_going (after_sample m1 h) (after_execution m h w)) → t ≡ instruction_note m h w
unfolding instruction_note
instruction_noted m m1 m2 h w old new t b p q first last begin ran sample returned = grind arith

-- ---- a turn

-- of a hart that holds no walk
pub instructed_note : (m : Machine) (h : ℕ) (w : World) (r : RunValue) → holds r.flight h ≡ false → StandsFor w r → instruction_note m h w ≡ note_by m h (looks_of_hart w.left h) w
instructed_note m h w r none stands = note_at m h zero w (left_none w r h r.flight refl none stands)

pub turn_noted : (m : Machine) (h : ℕ) (w : World) (r : RunValue) (note : TurnNote) → r.ending ≡ None → StandsFor w r → note ≡ note_by m h (looks_of_hart w.left h) w → note ≡ note_of m w h
unfolding note_of
turn_noted m h w r note going stands is = grind arith
