-- What the stages of a turn do to the world that a run stands for.
use Rattle.std.proofs.Common.{◌%◌, ◌&&◌, ◌+◌, ◌++◌, ◌<◌, Bool, List, None, Option, Some, [], ap, arith, cond, eqb, false, get_or, length, length-append, refl, subst, sym, true, ℕ, ◌∙◌, ◌∷◌, ◌≡◌, ◌≤◌, if◌then◌else◌}
use Rattle.std.specs.Option.{IsSome}
use Rattle.std.specs.List.{count_by}
use Rattle.std.proofs.lemmas.List.{get_or_default}
use Rattle.std.specs.Prelude.{is_some}
use Rattle.std.proofs.lemmas.List.Sums.{sum_by_push}
use Rattle.mcount_arcs.proofs.LogLemmas.{IsQuiet, counted_samples-same, counted_samples-sampled, kept_calls-quiet, looks_of-kept_calls}
use Rattle.mcount_arcs.specs.Log.{LogEntry, Sample, is_on, kept_calls}
use Rattle.mcount_arcs.specs.Samples.{counted_in}
use Rattle.host_port.specs.Act.{Act}
use Rattle.gp_base.specs.Spans.{is_in}
use Rattle.mcount_arcs.specs.Sizes.{text_span}
use Rattle.mcount_arcs.specs.Value.{GmonValue, StandsFor as RuntimeStandsFor, with_tick}
use Rattle.mcount_arcs.specs.declared.sizes.Sizes.{Sizes}
use Rattle.rv_step.specs.Memory.{Memory}
use Rattle.rv_step.specs.Registers.{Registers}
use Rattle.prof_machine.proofs.ClockLemmas.{again, due_now, not_due}
use Rattle.prof_machine.proofs.ExecutionLemmas.{exec_counts_of-push}
use Rattle.prof_machine.proofs.WorldLemmas.{ended_stage, going_stage}
use Rattle.prof_machine.specs.Stages.{answers, retires, returns}
use Rattle.prof_machine.specs.Turn.{after_answer, one_retired, after_return, after_sample, after_budget, while_going, with_entry}
use Rattle.prof_machine.specs.Value.{IsHeld, RunValue, StandsFor, is_lost, left_by, value_of}
use Rattle.prof_machine.specs.World.{World, blank, hart_of}
use Rattle.prof_machine.specs.declared.summary.End.{End}
use Rattle.prof_machine.specs.declared.summary.End.TheVariants.{Budget}
use Rattle.prof_machine.specs.declared.flight.Flight.{Flight}
use Rattle.prof_machine.specs.declared.notes.TurnNote.{TurnNote}
use Rattle.prof_machine.specs.declared.runs.Run.TheInside.{Inside}

pub stands_going : (f : World → World) (w : World) (old new : RunValue) → StandsFor w old → old.ending ≡ None → StandsFor (f w) new → StandsFor (while_going f w) new
stands_going f w old new stands going after = grind (arith, going_stage)

pub stands_ended : (f : World → World) (w : World) (old new : RunValue) → StandsFor w old → IsSome old.ending → StandsFor w new → StandsFor (while_going f w) new
stands_ended f w old new stands ended after = grind (arith, ended_stage)

-- whether it has ended, by a test
pub is_none : (o : Option End) → is_some o ≡ false → o ≡ None
is_none o is = grind arith

pub is_ended : (o : Option End) → is_some o ≡ true → IsSome o
is_ended o is = grind arith

-- ---- what changes one part alone

-- registers, memory, break and end are the world's; what was printed, what can go on and what is noted say nothing more
pub stands_with : {xs ys : List Registers} {m n : Memory} {b c : ℕ} {e f : Option End} (w : World) (r : RunValue) (acts : List Act) (live : Bool) (note : TurnNote) → xs ≡ ys → m ≡ n → b ≡ c → e ≡ f → StandsFor w r
    → StandsFor (record w { harts = ys; memory = n; break_at = c; ending = f; prints = acts }) (record r { harts = xs; memory = m; break_at = b; ending = e; live = live; note = note })
stands_with w r acts live note harts memory break_at ending stands = grind arith

pub with_ending : (w : World) (r : RunValue) (end : End) → StandsFor w r → StandsFor (record w { ending = Some end }) (record r { ending = Some end })
with_ending w r end stands = stands_with {e = Some end} {f = Some end} w r w.prints r.live r.note stands.harts stands.memory stands.break_at refl stands

pub with_harts : (w : World) (r : RunValue) (harts other : List Registers) → harts ≡ other → StandsFor w r → StandsFor (record w { harts = other }) (record r { harts = harts })
with_harts w r harts other same stands = stands_with w r w.prints r.live r.note same stands.memory stands.break_at stands.ending stands

pub with_memory : (w : World) (r : RunValue) (m : Memory) → StandsFor w r → StandsFor (record w { memory = m }) (record r { memory = m })
with_memory w r m stands = stands_with {m = m} {n = m} w r w.prints r.live r.note stands.harts refl stands.break_at stands.ending stands

pub with_break : (w : World) (r : RunValue) (to : ℕ) → StandsFor w r → StandsFor (record w { break_at = to }) (record r { break_at = to })
with_break w r to stands = stands_with {b = to} {c = to} w r w.prints r.live r.note stands.harts stands.memory refl stands.ending stands

pub with_note : (w : World) (r : RunValue) (b : Bool) (note : TurnNote) → StandsFor w r → StandsFor w (record r { note = note; live = b })
with_note w r b note stands = stands_with w r w.prints b note stands.harts stands.memory stands.break_at stands.ending stands

pub with_live : (w : World) (r : RunValue) (b : Bool) → StandsFor w r → StandsFor w (record r { live = b })
with_live w r b stands = with_note w r b r.note stands

-- the instruction retires at which the hart stands
pub with_retired : (w : World) (r : RunValue) (h pc : ℕ) → pc ≡ (hart_of r.harts h).pc → StandsFor w r → StandsFor (one_retired h w) (retires pc r)
with_retired w r h pc is stands = grind (arith, exec_counts_of-push)

-- ---- an answer, and a return

pub answers_stands : (w : World) (r : RunValue) (h n : ℕ) → StandsFor w r → StandsFor (after_answer h n w) (answers h n r)
answers_stands w r h n stands = grind (arith, with_retired)

pub returns_stands : (w : World) (r : RunValue) (h : ℕ) → StandsFor w r → StandsFor (after_return h w) (returns h r)
unfolding after_return
returns_stands w r h stands = grind arith

-- ---- one entry more in the log

left_same : (z : Sizes) (log other : List LogEntry) (n : ℕ) (f : Option Flight) → kept_calls z other ≡ kept_calls z log → left_by z other n f ≡ left_by z log n f
left_same z log other n f same = grind (arith, looks_of-kept_calls)

pub lost_more : (log : List LogEntry) (e : LogEntry) → count_by is_lost (log ++ e ∷ []) ≡ count_by is_lost log + cond (is_lost e) 1 0
lost_more log e = sum_by_push (λ x. cond (is_lost x) 1 0) log e

-- one that is no sample, and neither begins nor ends a call
pub quiet_stands : (w : World) (r : RunValue) (g : GmonValue) (l : ℕ) (e : LogEntry) → IsQuiet r.machine.sizes e → ((before : List LogEntry) → counted_in r.machine.sizes before e ≡ None)
    → l ≡ r.lost + cond (is_lost e) 1 0 → RuntimeStandsFor (w.log ++ e ∷ []) g → StandsFor w r → StandsFor (with_entry e w) (record r { gmon = g; lost = l })
quiet_stands w r g l e quiet none lost gmon stands = grind (arith, left_same, kept_calls-quiet, counted_samples-same, lost_more)

pub sample_stands : (w : World) (r : RunValue) (g : GmonValue) (k d pc : ℕ) (b : Bool) → (is_on w.log && is_in (text_span r.machine.sizes) pc) ≡ b → k ≡ r.samples + (if b then 1 else 0) → RuntimeStandsFor (w.log ++ Sample pc ∷ []) g
    → StandsFor w r → StandsFor (with_entry (Sample pc) w) (record r { gmon = g; samples = k; due = d })
sample_stands w r g k d pc b may count gmon stands = grind (arith, left_same, kept_calls-quiet, lost_more, counted_samples-sampled, length-append)

-- ---- registers that were read

pub hart_read : (harts : List Registers) (h : ℕ) (s : Registers) → h < length harts → s ≡ get_or harts h s → hart_of harts h ≡ s
hart_read harts h s inside is = get_or_default harts h blank s inside ∙ sym is

pub there : (a : Inside) (now : RunValue) (h : ℕ) → IsHeld a → value_of a ≡ now → h < now.machine.setup.harts → h < length a.harts.items
there a now h held view inside = omega (arith, ap (λ (v : RunValue). v.machine.setup.harts) view, held.harts)

-- ---- a sample

pub sampled_stands : (w : World) (a : Inside) (g : GmonValue) (h pc k d : ℕ) (s : Registers) (b : Bool) → IsHeld a → hart_of a.harts.items h ≡ s → pc ≡ s.pc → a.due ≡ 0 → b ≡ (a.gmon.sampling && is_in (text_span a.gmon.sizes) pc)
    → k ≡ a.samples + (if b then 1 else 0) → RuntimeStandsFor (w.log ++ Sample pc ∷ []) g → StandsFor w (value_of a) → StandsFor (after_sample a.machine h w) (record (value_of a) { gmon = g; samples = k; due = d })
unfolding after_sample
sampled_stands w a g h pc k d s b held read pc_is none may count gmon stands =
    let m = a.machine in
    let test : eqb (w.retired % m.setup.every) 0 ≡ true = ap (λ (n : ℕ). eqb (n % m.setup.every) 0) (sym stands.retired) ∙ due_now a.retired a.due m.setup.every held.clock none in
    let here : pc ≡ (hart_of w.harts h).pc = pc_is ∙ ap (λ (x : Registers). x.pc) (sym read) ∙ ap (λ (x : List Registers). (hart_of x h).pc) stands.harts in
    let on : (is_on w.log && is_in (text_span m.sizes) pc) ≡ b =
    ap (λ (x : Bool). x && is_in (text_span m.sizes) pc) (sym stands.gmon.sampling) ∙ ap (λ (z : Sizes). a.gmon.sampling && is_in (text_span z) pc) (sym held.sizes) ∙ sym may in
    let new = record (value_of a) { gmon = g; samples = k; due = d } in
    let P : Bool → Type 0 = λ x. StandsFor (if x then with_entry (Sample (hart_of w.harts h).pc) w else w) new in
    let Q : ℕ → Type 0 = λ n. StandsFor (with_entry (Sample n) w) new in
    subst P (sym test) (subst Q here (sample_stands w (value_of a) g k d pc b on count gmon stands))

pub unsampled_stands : (w : World) (a : Inside) (h : ℕ) → IsHeld a → (a.due ≡ 0 → ⊥) → a.due < a.machine.setup.every → StandsFor w (value_of a) → StandsFor (after_sample a.machine h w) (value_of a)
unfolding after_sample
unsampled_stands w a h held some most stands = grind (arith, not_due)

-- what is true of a run stays true where the clock has ticked
pub held_sampled : (a : Inside) (k pc : ℕ) (g : GmonValue) → IsHeld a → a.live ≡ false → a.due ≡ 0 → k ≤ a.retired → g ≡ with_tick pc a.gmon → IsHeld (record a { due = a.machine.setup.every; samples = k; gmon = g })
held_sampled a k pc g held dead none few changed = grind (arith, again)

-- ---- the budget

pub spent_stands : (w : World) (r : RunValue) → StandsFor w r → r.retired ≡ r.machine.setup.budget → StandsFor (after_budget r.machine w) (record r { ending = Some Budget })
unfolding after_budget
spent_stands w r stands is = grind arith

pub unspent_stands : (w : World) (r : RunValue) → StandsFor w r → (r.retired ≡ r.machine.setup.budget → ⊥) → StandsFor (after_budget r.machine w) r
unfolding after_budget
unspent_stands w r stands is = grind arith
