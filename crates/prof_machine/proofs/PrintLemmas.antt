-- What a run prints: only its instructions print, what is printed stays, and no file is touched by it.
use Rattle.std.proofs.Common.{◌++◌, ◌==◌, Bool, true, false, not, if◌then◌else◌, List, [], ap, append_assoc, drop, refl, set, suc, sym, zero, ℕ, ◌∙◌, ◌∷◌, ◌≡◌, ◌≤◌}
use Rattle.std.proofs.lemmas.List.{append-nil}
use Rattle.elf32_syms.specs.declared.image.Image.{Image}
use Rattle.host_port.specs.Act.{Act, Disk, disk_after}
use Rattle.host_port.specs.Host.{act_of}
use Rattle.host_port.specs.declared.side.Side.TheVariants.{ErrorOutput, Output}
use Rattle.host_port.proofs.Laws.{disk_after-append}
use Rattle.settings.specs.declared.setup.Setup.{Setup}
use Rattle.mcount_arcs.specs.Log.{WalkDone}
use Rattle.rv_step.specs.Memory.{Memory, is_inside, read_at}
use Rattle.rv_step.specs.Registers.{Registers}
use Rattle.rv_step.specs.Step.{step_of}
use Rattle.rv_step.specs.declared.stepped.Stepped.{Stepped}
use Rattle.rv_step.specs.declared.stepped.Stepped.TheVariants.{Ecall, Retired, Trap as Trapped}
use Rattle.prof_machine.proofs.PlanLemmas.{planned_split}
use Rattle.prof_machine.proofs.LastingLemmas.{Lasting, lasts_closed, lasts_instructed, lasts_returned}
use Rattle.prof_machine.proofs.WorldLemmas.{by_going}
use Rattle.prof_machine.specs.Ecalls.{ecall_of, is_output, side_of, write_acts}
use Rattle.prof_machine.specs.Plan.{after_drive, most_turns, plan_of, world_at}
use Rattle.prof_machine.specs.Turn.{after_call, after_ecall, after_step, after_close, after_execution, after_ordinary_turn, after_return, after_look, turn_of, with_entry, world_after}
use Rattle.prof_machine.specs.World.{World, hart_of, looks_of_hart}
use Rattle.prof_machine.specs.declared.ecalls.Call.{Call}
use Rattle.prof_machine.specs.declared.ecalls.Call.TheVariants.{Answers, Exits, SetsBreak, Writes}
use Rattle.prof_machine.specs.declared.machine.Machine.{Machine}
use Rattle.prof_machine.specs.Start.{final_world, start_of}

-- ---- only instructions print

pub prints_returned : (h : ℕ) (w : World) → (after_return h w).prints ≡ w.prints
prints_returned h w = ap (λ (l : Lasting). l.prints) (lasts_returned h w)

pub prints_closed : (w : World) → (after_close w).prints ≡ w.prints
prints_closed w = ap (λ (l : Lasting). l.prints) (lasts_closed w)

pub prints_instructed : (m : Machine) (h : ℕ) (w : World) → (after_ordinary_turn m h w).prints ≡ (after_execution m h w).prints
prints_instructed m h w = ap (λ (l : Lasting). l.prints) (lasts_instructed m h w)

-- ---- what is printed stays

-- acts that leave all files as they are
abbrev LeaveFiles : List Act → Type 0
LeaveFiles acts = (d : Disk) → disk_after acts d ≡ d

Prints_on : World → World → Type 0
Prints_on w v = (more : List Act) × (v.prints ≡ w.prints ++ more) × LeaveFiles more

nothing_more : (w v : World) → v.prints ≡ w.prints → Prints_on w v
unfolding Prints_on
nothing_more w v same = ([], same ∙ sym (append-nil w.prints), λ d. refl)

print_leaves_files : (is_first : Bool) (bytes : List ℕ) → LeaveFiles (act_of (if is_first then Output else ErrorOutput) bytes ∷ [])
print_leaves_files true bytes d = refl
print_leaves_files false bytes d = refl

write_leaves_files : (memory : Memory) (descriptor from count : ℕ) → LeaveFiles (write_acts memory descriptor from count)
write_leaves_files memory descriptor from count d = by (not (is_output descriptor)) (count == 0) (is_inside memory from count)
  where
    by : (a b c : Bool) → disk_after (if a then [] else (if b then [] else (if c then act_of (side_of descriptor) (read_at memory from count) ∷ [] else []))) d ≡ d
    by true b c = refl
    by false true c = refl
    by false false true = print_leaves_files (descriptor == 1) (read_at memory from count) d
    by false false false = refl

prints_call : (h : ℕ) (w : World) (call : Call) → Prints_on w (after_call h call w)
unfolding Prints_on
prints_call h w (Answers n) = nothing_more w (after_call h (Answers n) w) refl
prints_call h w (SetsBreak to) = nothing_more w (after_call h (SetsBreak to) w) refl
prints_call h w (Writes d from n) = (write_acts w.memory d from n, refl, write_leaves_files w.memory d from n)
prints_call h w (Exits status) = nothing_more w (after_call h (Exits status) w) refl

prints_ecall : (m : Machine) (h : ℕ) (w : World) → Prints_on w (after_ecall m h w)
unfolding after_ecall
prints_ecall m h w = prints_call h w (ecall_of m (hart_of w.harts h) w.break_at)

prints_step : (m : Machine) (h : ℕ) (w : World) (answer : Stepped) (s : Registers) (memory : Memory) → Prints_on w (after_step m h answer s memory w)
prints_step m h w Retired s memory = nothing_more w _ refl
prints_step m h w Ecall s memory = prints_ecall m h w
prints_step m h w (Trapped kind) s memory = nothing_more w _ refl

prints_executed : (m : Machine) (h : ℕ) (w : World) → Prints_on w (after_execution m h w)
unfolding after_execution
prints_executed m h w = let o = step_of (hart_of w.harts h) w.memory in prints_step m h w o.answer o.registers o.memory

prints_taken : (m : Machine) (h n : ℕ) (w : World) → Prints_on w (after_look m h n w)
unfolding Prints_on
prints_taken m h zero w = let p = prints_executed m h w in (p.0, prints_instructed m h w ∙ p.1, p.2)
prints_taken m h (suc zero) w = nothing_more w (after_return h (record (with_entry WalkDone w) { left = set w.left h 0 })) (prints_returned h (record (with_entry WalkDone w) { left = set w.left h 0 }))
prints_taken m h (suc (suc n)) w = nothing_more w (record w { left = set w.left h (suc n) }) refl

prints_turn : (m : Machine) (w : World) (h : ℕ) → Prints_on w (turn_of m w h)
unfolding turn_of Prints_on
prints_turn m w h =
    by_going (λ v. after_close (after_look m h (looks_of_hart v.left h) v)) w (λ v. Prints_on w v)
    (λ on. (let p = prints_taken m h (looks_of_hart w.left h) w in (p.0, prints_closed (after_look m h (looks_of_hart w.left h) w) ∙ p.1, p.2))) (λ end off. nothing_more w w refl)

-- what turns print stands behind what was printed
pub prints_after : (m : Machine) (w : World) (turns : List ℕ) → (more : List Act) × ((world_after m w turns).prints ≡ w.prints ++ more)
unfolding Prints_on
prints_after m w [] = ([], sym (append-nil w.prints))
prints_after m w (h ∷ turns) =
    let p = prints_turn m w h in
    let q = prints_after m (turn_of m w h) turns in
    (p.0 ++ q.0, q.1 ∙ ap (λ (front : List Act). front ++ q.0) p.1 ∙ append_assoc w.prints p.0 q.0)

pub prints_planned : (m : Machine) (w : World) (k n : ℕ) → k ≤ n → (more : List Act) × ((world_at m w n).prints ≡ (world_at m w k).prints ++ more)
prints_planned m w k n le =
    let p = prints_after m (world_at m w k) (drop k (plan_of m.setup n)) in
    (p.0, ap (λ (v : World). v.prints) (planned_split m w k n le) ∙ p.1)

-- and of the turns in which a run ends
pub prints_driven : (m : Machine) (w : World) (n : ℕ) → n ≤ most_turns m.setup → (more : List Act) × ((after_drive m w).prints ≡ (world_at m w n).prints ++ more)
unfolding after_drive
prints_driven m w n le = prints_planned m w n (most_turns m.setup) le

-- ---- no file is made or written by it

pub files_after : (m : Machine) (w : World) (turns : List ℕ) (d : Disk) → disk_after (world_after m w turns).prints d ≡ disk_after w.prints d
unfolding Prints_on
files_after m w [] d = refl
files_after m w (h ∷ turns) d =
    let p = prints_turn m w h in
    files_after m (turn_of m w h) turns d
    ∙ ap (λ (acts : List Act). disk_after acts d) p.1
    ∙ disk_after-append w.prints p.0 d
    ∙ p.2 (disk_after w.prints d)

files_of_turns : (m : Machine) (w : World) (d : Disk) → disk_after (after_drive m w).prints d ≡ disk_after w.prints d
unfolding after_drive
files_of_turns m w d = files_after m w (plan_of m.setup (most_turns m.setup)) d

-- before its first turn it has printed nothing
nothing_at_start : (image : Image) (bytes : List ℕ) (setup : Setup) → (start_of image bytes setup).prints ≡ []
unfolding start_of
nothing_at_start image bytes setup = refl

pub files_driven : (image : Image) (bytes : List ℕ) (setup : Setup) (d : Disk) → disk_after (final_world image bytes setup).prints d ≡ d
files_driven image bytes setup d = search (files_of_turns, nothing_at_start)
