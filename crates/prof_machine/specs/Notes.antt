-- What a turn does besides the world that it leaves: the instruction that retired, the sample that counts, and the
-- return from a hook.
use Rattle.std.specs.Prelude.{ℕ, zero, suc, ◌%◌, ◌==◌, List, Option, Some, None, is_some, if◌then◌else◌}
use Rattle.rv_decode.specs.declared.instruction.Instr.{Instr}
use Rattle.rv_step.specs.Registers.{Registers}
use Rattle.rv_step.specs.Step.{instruction_at}
use Rattle.mcount_arcs.specs.declared.walk.Entered.{Entered}
use Rattle.mcount_arcs.specs.declared.walk.Entered.TheVariants.{Ignored, Lost, Walking}
use Rattle.mcount_arcs.specs.Log.{LogEntry, Sample, state_of}
use Rattle.mcount_arcs.specs.Samples.{counted_in}
use Rattle.mcount_arcs.specs.Value.{meets}
use Rattle.prof_machine.specs.declared.machine.Machine.{Machine}
use Rattle.prof_machine.specs.declared.notes.Ran.{Ran}
use Rattle.prof_machine.specs.declared.notes.TurnNote.{TurnNote}
use Rattle.prof_machine.specs.Registers.{a0, ra}
use Rattle.prof_machine.specs.Turn.{after_execution, is_at, after_sample, return_target, while_going}
use Rattle.prof_machine.specs.World.{World, hart_of, looks_of_hart}

-- ---- the instruction

abbrev pub ran_from : ℕ → ℕ → Option Instr → Option Ran
ran_from pc next None = None
ran_from pc next (Some i) = Some (record { pc = pc; instr = i; next = next })

-- that of hart h in world w, if it has retired in world v, which it left
abbrev pub ran_of : ℕ → World → World → Option Ran
ran_of h w v =
    if v.retired == w.retired then None
    else ran_from (hart_of w.harts h).pc (hart_of v.harts h).pc (instruction_at w.memory (hart_of w.harts h).pc)

-- ---- the sample and the return

-- what there is only while the run goes on
abbrev pub if_going : (World → Option ℕ) → World → Option ℕ
if_going part w = if is_some w.ending then None else part w

-- where the clock ticks, the pc that now stands, if the sample counts
unfoldable pub sample_in : Machine → ℕ → World → Option ℕ
sample_in m h w = if w.retired % m.setup.every == 0 then counted_in m.sizes w.log (Sample (hart_of w.harts h).pc) else None

-- where a hart goes on after a hook; a return that traps is none
abbrev pub return_of : Registers → Option ℕ
return_of s = if return_target s % 4 == 0 then Some (return_target s) else None

-- at once, unless its call is entered
abbrev pub return_after : Registers → Entered → Option ℕ
return_after s (Walking walk) = None
return_after s Lost = return_of s
return_after s Ignored = return_of s

-- at `_mcount`
abbrev pub return_from_call : Machine → List LogEntry → Registers → Option ℕ
return_from_call m log s = return_after s (meets m.sizes (state_of m.sizes log) (a0 s) (ra s))

-- by the pc that the instruction left
abbrev pub return_by : Machine → List LogEntry → Registers → Option ℕ
return_by m log s =
    if is_at m.mcount s.pc then return_from_call m log s else (if is_at m.moncontrol s.pc then return_of s else None)

unfoldable pub return_in : Machine → ℕ → World → Option ℕ
return_in m h w = return_by m w.log (hart_of w.harts h)

-- ---- a turn

-- of a hart that holds no walk: from world w its instruction leads to world v
abbrev pub instruction_note_by : Machine → ℕ → World → World → TurnNote
instruction_note_by m h w v = record {
  ran = ran_of h w v;
  sample = if_going (sample_in m h) v;
  returned = if_going (return_in m h) (while_going (after_sample m h) v);
}

unfoldable pub instruction_note : Machine → ℕ → World → TurnNote
instruction_note m h w = instruction_note_by m h w (after_execution m h w)

-- a look of a walk: after the last one the hart returns
abbrev pub look_note : Option ℕ → TurnNote
look_note returned = record { ran = None; sample = None; returned = returned }

-- by the looks that its walk still takes
abbrev pub note_by : Machine → ℕ → ℕ → World → TurnNote
note_by m h zero w = instruction_note m h w
note_by m h (suc zero) w = look_note (return_of (hart_of w.harts h))
note_by m h (suc (suc more)) w = look_note None

-- of hart h in world w. A run that has ended has none
unfoldable pub note_of : Machine → World → ℕ → TurnNote
note_of m w h = if is_some w.ending then look_note None else note_by m h (looks_of_hart w.left h) w
