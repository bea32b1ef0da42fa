-- What the stages of a turn begin with, and what they leave of a run's parts and of the outside.
-- Only private functions and invariants speak of it.
use Rattle.std.specs.Prelude.{◌≡◌, ℕ, ◌+◌, ◌-◌, ◌%◌, ◌<◌, ◌≤◌, ◌==◌, Bool, true, false, Option, Some, None, slice_set, option_and_then, if◌then◌else◌, IsSome, Result, OnOk, OnErr, MatchResult, ◌↔◌}
use Rattle.host_port.specs.Outside.{KeepsCounts, KeepsInput, Outside}
use Rattle.rv_step.specs.declared.stepped.TrapKind.TheVariants.{JumpMisaligned}
use Rattle.rv_decode.specs.Table.{instr_of}
use Rattle.rv_step.specs.Registers.{Registers}
use Rattle.rv_step.specs.Step.{word_at_pc}
use Rattle.prof_machine.specs.declared.summary.End.TheVariants.{Trap}
use Rattle.prof_machine.specs.declared.flight.Flight.{Flight}
use Rattle.prof_machine.specs.Executions.{with_execution}
use Rattle.prof_machine.specs.declared.notes.Ran.{Ran}
use Rattle.prof_machine.specs.declared.stages.Begin.{Begin}
use Rattle.prof_machine.specs.Notes.{ran_from}
use Rattle.prof_machine.specs.Plan.{most_turns}
use Rattle.prof_machine.specs.Prints.{ArePrinted, BreaksOff, PrintFailed}
use Rattle.prof_machine.specs.Turn.{return_target, with_answer}
use Rattle.prof_machine.specs.Value.{IsLive, RunValue, StandsFor, calls_met, looks_at_most, work_left}
use Rattle.prof_machine.specs.World.{World, hart_of}

-- whether a hart holds the walk in flight
abbrev pub holds : Option Flight → ℕ → Bool
holds None h = false
holds (Some f) h = f.hart == h

-- ---- what a stage begins with

-- it is the turn of hart h: meanwhile the run takes no other
pub record InTurn (h : ℕ) (r : RunValue) : Type 0 where
  pub hart : h < r.machine.setup.harts
  pub dead : r.live ≡ false

-- hart h can execute an instruction: the run goes on, and one is left of the budget and up to the next sample
pub record CanExecute (h : ℕ) (r : RunValue) : Type 0 where
  pub turn : InTurn h r
  pub going : r.ending ≡ None
  pub left : r.retired < r.machine.setup.budget
  pub due : 1 ≤ r.due

-- hart h can take a look: the run goes on, and the walk in flight is its own
pub record CanLook (h : ℕ) (r : RunValue) : Type 0 where
  pub turn : InTurn h r
  pub going : r.ending ≡ None
  pub holder : holds r.flight h ≡ true

-- ---- one step of the run's parts

-- the instruction at a pc retires
abbrev pub retires : ℕ → RunValue → RunValue
retires pc r = record r { retired = r.retired + 1; due = r.due - 1; counts = with_execution r.machine.sizes.low pc r.counts }

abbrev pub answers : ℕ → ℕ → RunValue → RunValue
answers h n r = retires (hart_of r.harts h).pc (record r { harts = slice_set r.harts h (with_answer (hart_of r.harts h) n) })

abbrev pub returns_by : ℕ → Registers → RunValue → RunValue
returns_by h s r =
    if return_target s % 4 == 0 then record r { harts = slice_set r.harts h (record s { pc = return_target s }) } else record r { ending = Some (Trap JumpMisaligned s.pc) }

abbrev pub returns : ℕ → RunValue → RunValue
returns h r = returns_by h (hart_of r.harts h) r

-- ---- what a stage leaves

-- the run that a stage leaves stands for the world that the stage leaves
abbrev pub StandsAfter : (World → World) → RunValue → RunValue → Type 0
StandsAfter stage old new = (w : World) → StandsFor w old → StandsFor (stage w) new

-- A stage of a run printed what the world that it leaves has printed more, or, where a print failed, all of that but
-- a rest of its last piece. Nothing else was done on the outside.
pub record PrintsAs {T E : Type 0} (stage : World → World) (run : RunValue) (old new : Outside) (result : Result T E) : Type 0 where
  pub prints : OnOk result ((w : World) → StandsFor w run → ArePrinted w (stage w) old new)
  pub fails : OnErr result ((w : World) → StandsFor w run → BreaksOff w (stage w) old new)
  pub counts : MatchResult result (λ _. KeepsCounts old new) (λ _. PrintFailed old new)
  pub writing : new.is_writing ≡ old.is_writing
  pub input : KeepsInput old new

-- what no stage changes
pub record Steps (old new : RunValue) : Type 0 where
  pub machine : new.machine ≡ old.machine
  pub live : new.live ≡ old.live
  pub note : new.note ≡ old.note

-- an instruction was executed; where the run goes on it has retired
pub record Executes (old new : RunValue) : Type 0 where
  pub same : Steps old new
  pub flight : new.flight ≡ old.flight
  pub retired : new.ending ≡ None → new.retired ≡ old.retired + 1
  pub due : new.ending ≡ None → new.due < new.machine.setup.every
  pub samples : new.ending ≡ None → new.samples < new.retired
  pub calls : new.ending ≡ None → calls_met new < new.retired

-- an instruction was executed, with its tick and its hook; where the run goes on another can follow, and less is left
pub record Instructs (old new : RunValue) : Type 0 where
  pub same : Steps old new
  pub left : new.ending ≡ None → new.retired < new.machine.setup.budget
  pub due : new.ending ≡ None → 1 ≤ new.due
  pub less : new.ending ≡ None → work_left new < work_left old

-- a look was taken: nothing retires, and fewer looks are left
pub record TakesLook (old new : RunValue) : Type 0 where
  pub same : Steps old new
  pub retired : new.retired ≡ old.retired
  pub due : new.due ≡ old.due
  pub less : work_left new < work_left old

-- the clock has ticked, if it was to tick
pub record Ticks (old new : RunValue) : Type 0 where
  pub same : Steps old new
  pub ending : new.ending ≡ old.ending
  pub retired : new.retired ≡ old.retired
  pub flight : new.flight ≡ old.flight
  pub calls : calls_met new ≡ calls_met old
  pub due : old.ending ≡ None → 1 ≤ new.due

-- a hook was served, if the hart was at one
pub record Serves (old new : RunValue) : Type 0 where
  pub same : Steps old new
  pub retired : new.retired ≡ old.retired
  pub due : new.due ≡ old.due
  pub samples : new.samples ≡ old.samples
  pub looks : looks_at_most new.flight ≤ looks_at_most old.flight + 65534
  pub ended : IsSome old.ending → new.ending ≡ old.ending

-- ---- a turn whose note isn't put down

-- a turn was made, and can follow another where the run goes on; or a print failed in it
pub record Advances {T E : Type 0} (old new : RunValue) (result : Result T E) : Type 0 where
  pub machine : new.machine ≡ old.machine
  pub note : new.note ≡ old.note
  pub live : OnOk result (IsLive new ↔ (new.ending ≡ None))
  pub failed : OnErr result (new ≡ record old { live = false })

-- a run has only so many turns left, and one that has ended has none
pub record LeavesFewerTurns (old new : RunValue) : Type 0 where
  pub going : old.ending ≡ None
  pub left : 0 < work_left old
  pub few : work_left old ≤ most_turns old.machine.setup
  pub less : IsLive new → work_left new < work_left old

-- ---- what a turn notes

-- where a turn of hart h begins, and the instruction whose word stood there, if it has retired since then
abbrev pub begin_of : ℕ → RunValue → Begin
begin_of h r = record {
  pc = (hart_of r.harts h).pc;
  word = word_at_pc (hart_of r.harts h) r.memory;
  retired = r.retired;
}

abbrev pub ran_since : ℕ → Begin → RunValue → Option Ran
ran_since h b r = if r.retired == b.retired then None else ran_from b.pc (hart_of r.harts h).pc (option_and_then instr_of b.word)
