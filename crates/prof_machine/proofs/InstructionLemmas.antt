-- An instruction, in the world that a run stands for.
use Rattle.std.proofs.Common.{◌++◌, List, Some, ap, inl, inr, refl, set, subst, sym, ℕ, ◌∙◌, ◌≡◌}
use Rattle.std.proofs.lemmas.List.{set-get_or}
use Rattle.std.specs.Vec.{with_item}
use Rattle.std.specs.Prelude.{◌⊎◌}
use Rattle.host_port.specs.Act.{Act}
use Rattle.rv_step.specs.Memory.{Memory}
use Rattle.rv_step.specs.Registers.{Registers}
use Rattle.rv_step.specs.Step.{step_of}
use Rattle.rv_step.specs.declared.stepped.Stepped.{Stepped}
use Rattle.rv_step.specs.declared.stepped.Stepped.TheVariants.{Ecall, Retired, Trap as Trapped}
use Rattle.rv_step.specs.declared.stepped.TrapKind.{TrapKind}
use Rattle.prof_machine.proofs.StandingLemmas.{answers_stands, with_ending, with_harts, with_memory, with_retired, stands_with}
use Rattle.prof_machine.specs.Ecalls.{ecall_of, write_acts, write_answer}
use Rattle.prof_machine.specs.Stages.{answers, retires}
use Rattle.prof_machine.specs.Turn.{after_call, after_ecall, after_outcome, after_step, after_execution, one_retired, retired_with}
use Rattle.prof_machine.specs.Value.{RunValue, StandsFor, value_of}
use Rattle.prof_machine.specs.World.{World, blank, hart_of}
use Rattle.prof_machine.specs.declared.ecalls.Call.{Call}
use Rattle.prof_machine.specs.declared.ecalls.Call.TheVariants.{Writes}
use Rattle.prof_machine.specs.declared.summary.End.TheVariants.{Trap}
use Rattle.prof_machine.specs.declared.machine.Machine.{Machine}
use Rattle.prof_machine.specs.declared.runs.Run.TheInside.{Inside}

-- ---- the instruction

executed_at : (w : World) (r : RunValue) (m : Machine) (h : ℕ) → StandsFor w r → after_execution m h w ≡ after_outcome m h (step_of (hart_of r.harts h) r.memory) w
unfolding after_execution
executed_at w r m h stands = search (w.memory, stands.harts, stands.memory)

-- what the step answered, and left
pub executed_by : (w : World) (r : RunValue) (m : Machine) (h : ℕ) (answer : Stepped) (s : Registers) (memory : Memory) → StandsFor w r
    → answer ≡ (step_of (hart_of r.harts h) r.memory).answer → s ≡ (step_of (hart_of r.harts h) r.memory).registers → memory ≡ (step_of (hart_of r.harts h) r.memory).memory → after_execution m h w ≡ after_step m h answer s memory w
executed_by w r m h answer s memory stands a b c =
    let o = step_of (hart_of r.harts h) r.memory in
    executed_at w r m h stands
    ∙ ap (λ (x : Stepped). after_step m h x o.registers o.memory w) (sym a)
    ∙ ap (λ (x : Registers). after_step m h answer x o.memory w) (sym b)
    ∙ ap (λ (x : Memory). after_step m h answer s x w) (sym c)

pub retired_stands : (w : World) (r : RunValue) (h pc : ℕ) (s : Registers) (m : Memory) → pc ≡ (hart_of r.harts h).pc → StandsFor w r → StandsFor (retired_with h s (record w { memory = m })) (retires pc (record r { harts = set r.harts h s; memory = m }))
retired_stands w r h pc s m is stands =
    with_harts (one_retired h (record w { memory = m })) (retires pc (record r { memory = m })) _ _ (ap (λ (x : List Registers). set x h s) stands.harts)
    (with_retired (record w { memory = m }) (record r { memory = m }) h pc is (with_memory w r m stands))

-- ---- an environment call

pub ecall_as : (w : World) (r : RunValue) (h : ℕ) (s : Registers) (call : Call) → hart_of r.harts h ≡ s → call ≡ ecall_of r.machine s r.break_at → StandsFor w r → after_ecall r.machine h w ≡ after_call h call w
unfolding after_ecall
ecall_as w r h s call read is stands = search (w.harts, stands.harts, w.break_at, stands.break_at)

with_prints : (w : World) (r : RunValue) (acts : List Act) → StandsFor w r → StandsFor (record w { prints = acts }) r
with_prints w r acts stands = stands_with w r acts r.live r.note stands.harts stands.memory stands.break_at stands.ending stands

pub written_stands : (w : World) (r : RunValue) (h d from n answer : ℕ) → answer ≡ write_answer r.memory d from n → StandsFor w r → StandsFor (after_call h (Writes d from n) w) (answers h answer r)
written_stands w r h d from n answer is stands =
    let P : ℕ → Type 0 = λ k. StandsFor (after_call h (Writes d from n) w) (answers h k r) in
    let same : answer ≡ write_answer w.memory d from n = is ∙ ap (λ (m : Memory). write_answer m d from n) stands.memory in
    subst P (sym same) (answers_stands (record w { prints = w.prints ++ write_acts w.memory d from n }) r h (write_answer w.memory d from n) (with_prints w r _ stands))

-- ---- a step

-- what was read is written back
put_back : (a : Inside) (h : ℕ) (s0 s : Registers) (m : Memory) → hart_of a.harts.items h ≡ s0 → s ≡ s0 → m ≡ a.ram → value_of (record a { harts = with_item a.harts h s; ram = m }) ≡ value_of a
put_back a h s0 s m read same memory =
    ap (λ (x : List Registers). record (value_of a) { harts = x; memory = m }) (ap (set a.harts.items h) (same ∙ sym read) ∙ set-get_or a.harts.items h blank)
    ∙ ap (λ (x : Memory). record (value_of a) { memory = x }) memory

unchanged : (o : Stepped) (s0 s : Registers) (m0 m : Memory) → (o ≡ Retired → ⊥) → ((o ≡ Retired) ⊎ ((s ≡ s0) × (m ≡ m0))) → (s ≡ s0) × (m ≡ m0)
unchanged o s0 s m0 m other (inl is) = absurd (other is)
unchanged o s0 s m0 m other (inr same) = same

step_as : (w : World) (a : Inside) (h : ℕ) (answer : Stepped) (s0 s : Registers) (m : Memory) → hart_of a.harts.items h ≡ s0 → answer ≡ (step_of s0 a.ram).answer → s ≡ (step_of s0 a.ram).registers → m ≡ (step_of s0 a.ram).memory → StandsFor w (value_of a)
    → after_execution a.machine h w ≡ after_step a.machine h answer s m w
step_as w a h answer s0 s m read x y z stands =
    executed_by w (value_of a) a.machine h answer s m stands (x ∙ ap (λ (t : Registers). (step_of t a.ram).answer) (sym read)) (y ∙ ap (λ (t : Registers). (step_of t a.ram).registers) (sym read)) (z ∙ ap (λ (t : Registers). (step_of t a.ram).memory) (sym read))

pub step_retired : (w : World) (a : Inside) (h pc : ℕ) (s0 s : Registers) (m : Memory) → hart_of a.harts.items h ≡ s0 → pc ≡ s0.pc → Retired ≡ (step_of s0 a.ram).answer → s ≡ (step_of s0 a.ram).registers → m ≡ (step_of s0 a.ram).memory → StandsFor w (value_of a)
    → StandsFor (after_execution a.machine h w) (retires pc (value_of (record a { harts = with_item a.harts h s; ram = m }))) × ((after_execution a.machine h w).prints ≡ w.prints)
step_retired w a h pc s0 s m read at x y z stands =
    let P : World → Type 0 = λ v. StandsFor v (retires pc (value_of (record a { harts = with_item a.harts h s; ram = m }))) × (v.prints ≡ w.prints) in
    subst P (sym (step_as w a h Retired s0 s m read x y z stands)) (retired_stands w (value_of a) h pc s m (at ∙ ap (λ (t : Registers). t.pc) (sym read)) stands, refl)

pub step_trapped : (w : World) (a : Inside) (h : ℕ) (kind : TrapKind) (pc : ℕ) (s0 s : Registers) (m : Memory) → hart_of a.harts.items h ≡ s0 → Trapped kind ≡ (step_of s0 a.ram).answer → s ≡ (step_of s0 a.ram).registers → m ≡ (step_of s0 a.ram).memory
    → ((Trapped kind ≡ Retired) ⊎ ((s ≡ s0) × (m ≡ a.ram))) → pc ≡ s0.pc → StandsFor w (value_of a)
    → StandsFor (after_execution a.machine h w) (value_of (record a { harts = with_item a.harts h s; ram = m; ending = Some (Trap kind pc) })) × ((after_execution a.machine h w).prints ≡ w.prints)
step_trapped w a h kind pc s0 s m read x y z stays pc_is stands =
    let same = unchanged (Trapped kind) s0 s a.ram m (λ is. absurd cc) stays in
    let here : pc ≡ (hart_of w.harts h).pc = pc_is ∙ ap (λ (t : Registers). t.pc) (sym read) ∙ ap (λ (t : List Registers). (hart_of t h).pc) stands.harts in
    let back : record (value_of (record a { harts = with_item a.harts h s; ram = m })) { ending = Some (Trap kind pc) } ≡ record (value_of a) { ending = Some (Trap kind pc) } =
    ap (λ (r : RunValue). record r { ending = Some (Trap kind pc) }) (put_back a h s0 s m read same.0 same.1) in
    let P : World → Type 0 = λ v. StandsFor v (value_of (record a { harts = with_item a.harts h s; ram = m; ending = Some (Trap kind pc) })) × (v.prints ≡ w.prints) in
    let Q : RunValue → Type 0 = λ r. StandsFor (record w { ending = Some (Trap kind (hart_of w.harts h).pc) }) r in
    let R : ℕ → Type 0 = λ n. StandsFor (record w { ending = Some (Trap kind n) }) (record (value_of a) { ending = Some (Trap kind pc) }) in
    subst P (sym (step_as w a h (Trapped kind) s0 s m read x y z stands)) (subst Q (sym back) (subst R here (with_ending w (value_of a) (Trap kind pc) stands)), refl)

-- a call leaves what is there to be changed by its own stage
pub called_unchanged : (a : Inside) (h : ℕ) (s0 s : Registers) (m : Memory) → hart_of a.harts.items h ≡ s0 → ((Ecall ≡ Retired) ⊎ ((s ≡ s0) × (m ≡ a.ram))) → value_of (record a { harts = with_item a.harts h s; ram = m }) ≡ value_of a
called_unchanged a h s0 s m read stays = let same = unchanged Ecall s0 s a.ram m (λ is. absurd cc) stays in put_back a h s0 s m read same.0 same.1

pub step_called : (w : World) (a : Inside) (h : ℕ) (s0 s : Registers) (m : Memory) → hart_of a.harts.items h ≡ s0 → Ecall ≡ (step_of s0 a.ram).answer → s ≡ (step_of s0 a.ram).registers → m ≡ (step_of s0 a.ram).memory
    → ((Ecall ≡ Retired) ⊎ ((s ≡ s0) × (m ≡ a.ram))) → StandsFor w (value_of a) → (after_execution a.machine h w ≡ after_ecall a.machine h w) × StandsFor w (value_of (record a { harts = with_item a.harts h s; ram = m }))
step_called w a h s0 s m read x y z stays stands =
    let P : RunValue → Type 0 = λ r. StandsFor w r in
    (step_as w a h Ecall s0 s m read x y z stands, subst P (sym (called_unchanged a h s0 s m read stays)) stands)
