-- What the notes of turns tell: the samples that count, and the instructions that have retired.
use Rattle.std.proofs.Common.{◌%◌, ◌&&◌, ◌+◌, ◌++◌, Bool, List, None, Option, Some, [], ap, append_assoc, arith, eqb, false, inl, inr, length, length-append, map, refl, suc, sym, zero, ℕ, ◌∙◌, ◌∷◌, ◌≡◌, if◌then◌else◌}
use Rattle.std.proofs.lemmas.Bool.{eq-eqb, ne_eqb}
use Rattle.std.proofs.lemmas.List.{append-nil}
use Rattle.std.specs.List.{cons_option, list_any}
use Rattle.std.specs.Option.{IsSome, option_map}
use Rattle.std.specs.Prelude.{is_some, nat_lt, ◌⊎◌, ◌↔◌}
use Rattle.elf32_syms.specs.declared.image.Image.{Image}
use Rattle.rv_decode.specs.declared.instruction.Instr.{Instr}
use Rattle.rv_step.specs.Memory.{Memory}
use Rattle.rv_step.specs.Registers.{Registers}
use Rattle.rv_step.specs.Step.{instruction_at, step_of}
use Rattle.rv_step.specs.declared.stepped.Stepped.{Stepped}
use Rattle.rv_step.specs.declared.stepped.Stepped.TheVariants.{Ecall, Retired, Trap as Trapped}
use Rattle.rv_step.proofs.StepEnds.{no_instruction}
use Rattle.settings.specs.declared.setup.Setup.{Setup}
use Rattle.mcount_arcs.proofs.LogLemmas.{counted_samples-same, counted_samples-sampled}
use Rattle.mcount_arcs.specs.Log.{Sample, WalkDone}
use Rattle.mcount_arcs.specs.Samples.{counted_in, counted_samples}
use Rattle.mcount_arcs.specs.declared.sizes.Sizes.{Sizes}
use Rattle.prof_machine.proofs.LastingLemmas.{Lasting, lasting, lasts_closed, lasts_instructed, lasts_over}
use Rattle.prof_machine.proofs.WorldLemmas.{by_executed, by_going, by_returned}
use Rattle.prof_machine.specs.Ecalls.{ecall_of}
use Rattle.prof_machine.specs.Laws.{noted_pcs, noted_samples}
use Rattle.prof_machine.specs.Notes.{if_going, instruction_note, look_note, note_by, note_of, ran_from, ran_of, sample_in}
use Rattle.prof_machine.specs.Start.{machine_of, start_of}
use Rattle.prof_machine.specs.Turn.{after_call, after_ecall, after_step, after_arrival, after_close, after_execution, after_ordinary_turn, after_return, after_sample, after_budget, after_look, turn_of, while_going, with_entry, world_after}
use Rattle.prof_machine.specs.World.{World, hart_of, looks_of_hart}
use Rattle.prof_machine.specs.declared.ecalls.Call.{Call}
use Rattle.prof_machine.specs.declared.ecalls.Call.TheVariants.{Answers, Exits, SetsBreak, Writes}
use Rattle.prof_machine.specs.declared.summary.End.{End}
use Rattle.prof_machine.specs.declared.summary.End.TheVariants.{Budget}
use Rattle.prof_machine.specs.declared.machine.Machine.{Machine}
use Rattle.prof_machine.specs.declared.notes.Ran.{Ran}

-- ---- the instruction that has retired

-- it is told, and its place is kept; or none has
abbrev HasRetired : ℕ → World → Lasting → Option Ran → Type 0
HasRetired pc w v o = (v.retired ≡ w.retired + 1) × (v.ran ≡ w.ran ++ pc ∷ []) × ((r : Ran) × (o ≡ Some r) × (r.pc ≡ pc))

abbrev HasNone : World → Lasting → Option Ran → Type 0
HasNone w v o = (v.retired ≡ w.retired) × (v.ran ≡ w.ran) × (o ≡ None)

abbrev Tells : ℕ → World → Lasting → Option Ran → Type 0
Tells pc w v o = HasRetired pc w v o ⊎ HasNone w v o

-- the instruction that stands at the pc, of which a step that doesn't trap has one
abbrev HasInstr : ℕ → World → Type 0
HasInstr h w = (i : Instr) × (instruction_at w.memory (hart_of w.harts h).pc ≡ Some i)

has_instr : (h : ℕ) (w : World) (o : Option Instr) → instruction_at w.memory (hart_of w.harts h).pc ≡ o → ((kind : _) → (step_of (hart_of w.harts h) w.memory).answer ≡ Trapped kind → ⊥) → HasInstr h w
has_instr h w None is fine = let p = no_instruction (hart_of w.harts h) w.memory is in absurd (fine p.0 p.1)
has_instr h w (Some i) is fine = (i, is)

told_retired : (h : ℕ) (w v : World) → v.retired ≡ w.retired + 1 → v.ran ≡ w.ran ++ (hart_of w.harts h).pc ∷ [] → HasInstr h w → HasRetired (hart_of w.harts h).pc w (lasting v) (ran_of h w v)
told_retired h w v more ran (i, is) =
    let pc = (hart_of w.harts h).pc in
    let next = (hart_of v.harts h).pc in
    let differs : eqb v.retired w.retired ≡ false = ne_eqb v.retired w.retired (λ same. omega (arith, more, same)) in
    let told : ran_of h w v ≡ Some (record { pc = pc; instr = i; next = next }) =
    ap (λ (b : Bool). if b then None else ran_from pc next (instruction_at w.memory pc)) differs ∙ ap (ran_from pc next) is in
    (more, ran, (record { pc = pc; instr = i; next = next }, told, refl))

told_none : (h : ℕ) (w v : World) → v.retired ≡ w.retired → v.ran ≡ w.ran → HasNone w (lasting v) (ran_of h w v)
told_none h w v same ran = search eq-eqb

told_call : (h : ℕ) (w : World) (call : Call) → HasInstr h w → HasRetired (hart_of w.harts h).pc w (lasting (after_call h call w)) (ran_of h w (after_call h call w))
told_call h w (Answers n) has = told_retired h w (after_call h (Answers n) w) refl refl has
told_call h w (SetsBreak to) has = told_retired h w (after_call h (SetsBreak to) w) refl refl has
told_call h w (Writes d from n) has = told_retired h w (after_call h (Writes d from n) w) refl refl has
told_call h w (Exits status) has = told_retired h w (after_call h (Exits status) w) refl refl has

told_ecall : (m : Machine) (h : ℕ) (w : World) → HasInstr h w → HasRetired (hart_of w.harts h).pc w (lasting (after_ecall m h w)) (ran_of h w (after_ecall m h w))
unfolding after_ecall
told_ecall m h w has = told_call h w (ecall_of m (hart_of w.harts h) w.break_at) has

told_step : (m : Machine) (h : ℕ) (w : World) (answer : Stepped) (s : Registers) (memory : Memory) → (step_of (hart_of w.harts h) w.memory).answer ≡ answer
    → Tells (hart_of w.harts h).pc w (lasting (after_step m h answer s memory w)) (ran_of h w (after_step m h answer s memory w))
told_step m h w Retired s memory is =
    inl (told_retired h w (after_step m h Retired s memory w) refl refl (has_instr h w (instruction_at w.memory (hart_of w.harts h).pc) refl (λ kind trap. let e : Trapped kind ≡ Retired = sym trap ∙ is in cc)))
told_step m h w Ecall s memory is =
    inl (told_ecall m h w (has_instr h w (instruction_at w.memory (hart_of w.harts h).pc) refl (λ kind trap. let e : Trapped kind ≡ Ecall = sym trap ∙ is in cc)))
told_step m h w (Trapped kind) s memory is = inr (told_none h w (after_step m h (Trapped kind) s memory w) refl refl)

told_executed : (m : Machine) (h : ℕ) (w : World) → Tells (hart_of w.harts h).pc w (lasting (after_execution m h w)) (ran_of h w (after_execution m h w))
unfolding after_execution
told_executed m h w = let o = step_of (hart_of w.harts h) w.memory in told_step m h w o.answer o.registers o.memory refl

told_instructed : (m : Machine) (h : ℕ) (w : World) → Tells (hart_of w.harts h).pc w (lasting (after_ordinary_turn m h w)) (instruction_note m h w).ran
unfolding instruction_note
told_instructed m h w = grind (arith, lasts_instructed, told_executed)

told_taken : (m : Machine) (h n : ℕ) (w : World) → Tells (hart_of w.harts h).pc w (lasting (after_look m h n w)) (note_by m h n w).ran
told_taken m h zero w = told_instructed m h w
told_taken m h (suc zero) w = grind (arith, lasts_over)
told_taken m h (suc (suc n)) w = inr (refl, refl, refl)

-- by whether the run goes on
told_by : (m : Machine) (h : ℕ) (w u : World) (o : Option End) → Tells (hart_of w.harts h).pc w (lasting u) (note_by m h (looks_of_hart w.left h) w).ran
    → Tells (hart_of w.harts h).pc w (lasting (if is_some o then w else u)) (if is_some o then look_note None else note_by m h (looks_of_hart w.left h) w).ran
told_by m h w u None told = told
told_by m h w u (Some end) told = inr (refl, refl, refl)

pub told_turn : (m : Machine) (w : World) (h : ℕ) → Tells (hart_of w.harts h).pc w (lasting (turn_of m w h)) (note_of m w h).ran
unfolding turn_of note_of while_going
told_turn m w h = grind (arith, told_by, lasts_closed, told_taken)

who_by : (pc : ℕ) (w : World) (v : Lasting) (o : Option Ran) → Tells pc w v o → (IsSome o ↔ (v.retired ≡ w.retired + 1)) × ((o ≡ None) ↔ (v.retired ≡ w.retired))
who_by pc w v o is = grind arith

pub who_retired : (m : Machine) (w : World) (h : ℕ) → (IsSome (note_of m w h).ran ↔ ((turn_of m w h).retired ≡ w.retired + 1)) × (((note_of m w h).ran ≡ None) ↔ ((turn_of m w h).retired ≡ w.retired))
who_retired m w h = who_by (hart_of w.harts h).pc w (lasting (turn_of m w h)) (note_of m w h).ran (told_turn m w h)

abbrev pc_in : Option Ran → Option ℕ
pc_in o = option_map (λ (r : Ran). r.pc) o

ran_by : (pc : ℕ) (w : World) (v : Lasting) (o : Option Ran) → Tells pc w v o → v.ran ≡ w.ran ++ cons_option (pc_in o) []
ran_by pc w v o is = grind (arith, append-nil)

-- one more part, before others
behind : (front : List ℕ) (o : Option ℕ) (rest : List ℕ) → (front ++ cons_option o []) ++ rest ≡ front ++ cons_option o rest
behind front o rest = grind (arith, append_assoc)

pub ran_noted : (m : Machine) (w : World) (turns : List ℕ) → (world_after m w turns).ran ≡ w.ran ++ noted_pcs m w turns
ran_noted m w [] = sym (append-nil w.ran)
ran_noted m w (h ∷ turns) =
    let one = ran_by (hart_of w.harts h).pc w (lasting (turn_of m w h)) (note_of m w h).ran (told_turn m w h) in
    ran_noted m (turn_of m w h) turns ∙ ap (λ (x : List ℕ). x ++ noted_pcs m (turn_of m w h) turns) one ∙ behind w.ran (pc_in (note_of m w h).ran) (noted_pcs m (turn_of m w h) turns)

many_by : (pc : ℕ) (w : World) (v : Lasting) (o : Option Ran) → Tells pc w v o → length w.ran ≡ w.retired → length v.ran ≡ v.retired
many_by pc w v o is many = grind (arith, length-append)

many_after : (m : Machine) (w : World) (turns : List ℕ) → length w.ran ≡ w.retired → length (world_after m w turns).ran ≡ (world_after m w turns).retired
many_after m w [] many = many
many_after m w (h ∷ turns) many = many_after m (turn_of m w h) turns (many_by (hart_of w.harts h).pc w (lasting (turn_of m w h)) (note_of m w h).ran (told_turn m w h) many)

none_yet : (image : Image) (bytes : List ℕ) (setup : Setup) → length (start_of image bytes setup).ran ≡ (start_of image bytes setup).retired
unfolding start_of
none_yet image bytes setup = refl

pub as_many : (image : Image) (bytes : List ℕ) (setup : Setup) (turns : List ℕ) → (let w = world_after (machine_of image setup) (start_of image bytes setup) turns in length w.ran ≡ w.retired)
as_many image bytes setup turns = many_after (machine_of image setup) (start_of image bytes setup) turns (none_yet image bytes setup)

-- ---- the sample that counts

abbrev seen : Sizes → World → List ℕ
seen z w = counted_samples z w.log

seen_returned : (z : Sizes) (h : ℕ) (w : World) → seen z (after_return h w) ≡ seen z w
seen_returned z h w = let r = by_returned h w in ap (counted_samples z) r.2

seen_arrived : (m : Machine) (h : ℕ) (w : World) → seen m.sizes (after_arrival m h w) ≡ seen m.sizes w
unfolding after_arrival
seen_arrived m h w = grind (arith, counted_samples-same, seen_returned)

seen_spent : (m : Machine) (w : World) → seen m.sizes (after_budget m w) ≡ seen m.sizes w
unfolding after_budget
seen_spent m w = by_test (eqb w.retired m.setup.budget)
  where
    by_test : (b : Bool) → seen m.sizes (if b then record w { ending = Some Budget } else w) ≡ seen m.sizes w
    by_test b = grind arith

seen_closed : (m : Machine) (w : World) → seen m.sizes (after_close w) ≡ seen m.sizes w
unfolding after_close
seen_closed m w = by_test (is_some w.ending && list_any (λ n. nat_lt 0 n) w.left)
  where
    by_test : (b : Bool) → seen m.sizes (if b then record (with_entry WalkDone w) { left = map (λ n. 0) w.left } else w) ≡ seen m.sizes w
    by_test b = grind (arith, counted_samples-same)

seen_stage : (m : Machine) (f : World → World) (w : World) → seen m.sizes (f w) ≡ seen m.sizes w → seen m.sizes (while_going f w) ≡ seen m.sizes w
seen_stage m f w same = by_going f w (λ v. seen m.sizes v ≡ seen m.sizes w) (λ on. same) (λ end off. refl)

counted : (b : Bool) (pc : ℕ) → (if b then pc ∷ [] else []) ≡ cons_option (if b then Some pc else None) []
counted b pc = grind arith

ticks_by : (m : Machine) (pc : ℕ) (w : World) (b : Bool)
    → seen m.sizes (if b then with_entry (Sample pc) w else w) ≡ seen m.sizes w ++ cons_option (if b then counted_in m.sizes w.log (Sample pc) else None) []
ticks_by m pc w b = grind (arith, counted_samples-sampled, append-nil)

ticks : (m : Machine) (h : ℕ) (w : World) → seen m.sizes (after_sample m h w) ≡ seen m.sizes w ++ cons_option (sample_in m h w) []
unfolding after_sample sample_in
ticks m h w = ticks_by m (hart_of w.harts h).pc w (eqb (w.retired % m.setup.every) 0)

going_by : (m : Machine) (w u : World) (part : Option ℕ) (o : Option End) → seen m.sizes u ≡ seen m.sizes w ++ cons_option part []
    → seen m.sizes (if is_some o then w else u) ≡ seen m.sizes w ++ cons_option (if is_some o then None else part) []
going_by m w u part o is = grind (arith, append-nil)

ticks_going : (m : Machine) (h : ℕ) (w : World) → seen m.sizes (while_going (after_sample m h) w) ≡ seen m.sizes w ++ cons_option (if_going (sample_in m h) w) []
unfolding while_going
ticks_going m h w = going_by m w (after_sample m h w) (sample_in m h w) w.ending (ticks m h w)

seen_instructed : (m : Machine) (h : ℕ) (w : World) → seen m.sizes (after_ordinary_turn m h w) ≡ seen m.sizes w ++ cons_option (instruction_note m h w).sample []
unfolding after_ordinary_turn instruction_note
seen_instructed m h w = grind (arith, seen_stage, seen_spent, seen_arrived, ticks_going, by_executed)

seen_taken : (m : Machine) (h n : ℕ) (w : World) → seen m.sizes (after_look m h n w) ≡ seen m.sizes w ++ cons_option (note_by m h n w).sample []
seen_taken m h n w = grind (arith, seen_instructed, seen_returned, counted_samples-same, append-nil)

note_going : (m : Machine) (h : ℕ) (w : World) (o : Option End)
    → (if is_some o then None else (note_by m h (looks_of_hart w.left h) w).sample) ≡ (if is_some o then look_note None else note_by m h (looks_of_hart w.left h) w).sample
note_going m h w o = grind arith

seen_turn : (m : Machine) (w : World) (h : ℕ) → seen m.sizes (turn_of m w h) ≡ seen m.sizes w ++ cons_option (note_of m w h).sample []
unfolding turn_of note_of while_going
seen_turn m w h =
    let t = after_look m h (looks_of_hart w.left h) w in
    going_by m w (after_close t) (note_by m h (looks_of_hart w.left h) w).sample w.ending (seen_closed m t ∙ seen_taken m h (looks_of_hart w.left h) w)
    ∙ ap (λ (x : Option ℕ). seen m.sizes w ++ cons_option x []) (note_going m h w w.ending)

pub samples_noted : (m : Machine) (w : World) (turns : List ℕ) → counted_samples m.sizes (world_after m w turns).log ≡ counted_samples m.sizes w.log ++ noted_samples m w turns
samples_noted m w [] = sym (append-nil (counted_samples m.sizes w.log))
samples_noted m w (h ∷ turns) = search (seen_turn, behind, samples_noted m (turn_of m w h) turns)
