-- What follows from the definitions on turns: the statements of the laws.
use Rattle.std.specs.Prelude.{◌≡◌, ◌≢◌, ◌⊎◌, ℕ, ◌+◌, ◌<◌, ◌≤◌, ◌↔◌, Bool, true, false, List, [], ◌∷◌, ◌++◌, length, count_by, None, Some, option_map, IsSome, All}
use Rattle.std.specs.List.{cons_option}
use Rattle.elf32_syms.specs.declared.image.Image.{Image}
use Rattle.host_port.specs.Act.{Act, Disk, disk_after}
use Rattle.settings.specs.declared.setup.Setup.{Setup}
use Rattle.mcount_arcs.specs.declared.state.State.TheVariants.{Busy}
use Rattle.mcount_arcs.specs.Log.{CallIgnored, CallLost, Enter, IsLegal, LogEntry, MayFollow, Mode, Sample, WalkDone, state_of}
use Rattle.mcount_arcs.specs.Samples.{counted_samples}
use Rattle.rv_step.specs.declared.stepped.TrapKind.{TrapKind}
use Rattle.prof_machine.specs.declared.summary.End.TheVariants.{Trap}
use Rattle.prof_machine.specs.declared.machine.Machine.{Machine}
use Rattle.prof_machine.specs.declared.notes.Ran.{Ran}
use Rattle.prof_machine.specs.Notes.{note_of}
use Rattle.prof_machine.specs.Plan.{after_drive, most_turns, world_at}
use Rattle.prof_machine.specs.Start.{final_world, machine_of, start_of}
use Rattle.prof_machine.specs.Turn.{turn_of, world_after}
use Rattle.prof_machine.specs.World.{World, hart_of, looks_of_hart}

-- the samples that the notes of turns tell, in order
abbrev pub noted_samples : Machine → World → List ℕ → List ℕ
noted_samples m w [] = []
noted_samples m w (h ∷ turns) = cons_option (note_of m w h).sample (noted_samples m (turn_of m w h) turns)

-- and where the instructions stood that they tell
abbrev pub noted_pcs : Machine → World → List ℕ → List ℕ
noted_pcs m w [] = []
noted_pcs m w (h ∷ turns) = cons_option (option_map (λ (r : Ran). r.pc) (note_of m w h).ran) (noted_pcs m (turn_of m w h) turns)

-- the samples that notes tell are those that count
abbrev pub SamplesAreNoted : Type 0
SamplesAreNoted = (m : Machine) (w : World) (turns : List ℕ) → counted_samples m.sizes (world_after m w turns).log ≡ counted_samples m.sizes w.log ++ noted_samples m w turns

-- the instructions that notes tell are those that have retired ..
abbrev pub RetiredAreNoted : Type 0
RetiredAreNoted = (m : Machine) (w : World) (turns : List ℕ) → (world_after m w turns).ran ≡ w.ran ++ noted_pcs m w turns

-- .. one in each turn in which their number rose, and none in any other
abbrev pub NotesTellWhoRetired : Type 0
NotesTellWhoRetired = (m : Machine) (w : World) (h : ℕ) →
    (IsSome (note_of m w h).ran ↔ ((turn_of m w h).retired ≡ w.retired + 1)) × (((note_of m w h).ran ≡ None) ↔ ((turn_of m w h).retired ≡ w.retired))

-- as many places are kept as instructions have retired
abbrev pub AsManyAsRetired : Type 0
AsManyAsRetired = (image : Image) (bytes : List ℕ) (setup : Setup) (turns : List ℕ) →
    let w = world_after (machine_of image setup) (start_of image bytes setup) turns in length w.ran ≡ w.retired

-- no call is being entered once a run has ended, whichever harts of it took the turns
abbrev pub NoneEndsBusy : Type 0
NoneEndsBusy = (image : Image) (bytes : List ℕ) (setup : Setup) (turns : List ℕ) → All (λ h. h < setup.harts) turns →
    let w = world_after (machine_of image setup) (start_of image bytes setup) turns in
    IsSome w.ending → state_of (machine_of image setup).sizes w.log ≢ Busy

-- nor once it has ended by its plan
abbrev pub NoPlanEndsBusy : Type 0
NoPlanEndsBusy = (image : Image) (bytes : List ℕ) (setup : Setup) → 1 ≤ setup.harts →
    let w = final_world image bytes setup in IsSome w.ending → state_of (machine_of image setup).sizes w.log ≢ Busy

-- The log is legal whichever harts take the turns: a call is lost exactly where it meets another one that is being
-- entered, and entered exactly where the table is on and the call site in the text.
abbrev pub LogsAreLegal : Type 0
LogsAreLegal = (image : Image) (bytes : List ℕ) (setup : Setup) (turns : List ℕ) → All (λ h. h < setup.harts) turns →
    let m = machine_of image setup in IsLegal m.sizes (world_after m (start_of image bytes setup) turns).log

-- and so is that of a run by its plan
abbrev pub PlannedLogsAreLegal : Type 0
PlannedLogsAreLegal = (image : Image) (bytes : List ℕ) (setup : Setup) → 1 ≤ setup.harts
    → IsLegal (machine_of image setup).sizes (final_world image bytes setup).log

-- each of its entries stands where it may, behind those in front of it
abbrev pub EntriesMayStand : Type 0
EntriesMayStand = (image : Image) (bytes : List ℕ) (setup : Setup) (turns : List ℕ) → All (λ h. h < setup.harts) turns →
    let m = machine_of image setup in
    (front : List LogEntry) (entry : LogEntry) (back : List LogEntry) → (world_after m (start_of image bytes setup) turns).log ≡ front ++ entry ∷ back → MayFollow m.sizes front entry

-- what is printed stays, up to the end of the run
abbrev pub PrintsStay : Type 0
PrintsStay = (m : Machine) (w : World) (k n : ℕ) → k ≤ n → (more : List Act) × ((world_at m w n).prints ≡ (world_at m w k).prints ++ more)

abbrev pub PrintsStayToTheEnd : Type 0
PrintsStayToTheEnd = (m : Machine) (w : World) (n : ℕ) → n ≤ most_turns m.setup → (more : List Act) × ((after_drive m w).prints ≡ (world_at m w n).prints ++ more)

-- and a run touches no file
abbrev pub PrintsLeaveFiles : Type 0
PrintsLeaveFiles = (image : Image) (bytes : List ℕ) (setup : Setup) (d : Disk) → disk_after (final_world image bytes setup).prints d ≡ d

-- ---- a hart that leaves a hook

-- what a hook logs that a hart leaves at once
abbrev pub leaves_hook : LogEntry → Bool
leaves_hook (Sample pc) = false
leaves_hook (Mode on) = true
leaves_hook (Enter from to) = false
leaves_hook WalkDone = false
leaves_hook (CallLost from to) = true
leaves_hook (CallIgnored from to) = true

abbrev pub hooks_left : World → ℕ
hooks_left w = count_by leaves_hook w.log

-- from world w to world v hart h has served such a hook, or its walk is over, which was at its last look
abbrev pub HasServed : World → World → ℕ → Type 0
HasServed w v h = (hooks_left v ≡ hooks_left w + 1) ⊎ ((w.ending ≡ None) × (looks_of_hart w.left h ≡ 1))

-- a return from a hook is told exactly where one was served in this turn and none trapped, and it is the pc that the
-- turn left
abbrev pub ReturnsAreNoted : Type 0
ReturnsAreNoted = (m : Machine) (w : World) (h r : ℕ) → h < length w.harts →
    let v = turn_of m w h in
    ((note_of m w h).returned ≡ Some r) ↔ (HasServed w v h × ((kind : TrapKind) (pc : ℕ) → v.ending ≢ Some (Trap kind pc)) × ((hart_of v.harts h).pc ≡ r))
