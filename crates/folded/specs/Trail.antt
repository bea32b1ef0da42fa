-- The shadows and the samples of a run, turn by turn.
use Rattle.std.specs.Prelude.{ℕ, List, [], ◌∷◌, ◌++◌, replicate, slice_index_or, slice_set, Option, Some, None}
use Rattle.prof_machine.specs.declared.machine.Machine.{Machine}
use Rattle.prof_machine.specs.declared.notes.TurnNote.{TurnNote}
use Rattle.prof_machine.specs.Notes.{note_of}
use Rattle.prof_machine.specs.Plan.{most_turns, plan_of}
use Rattle.prof_machine.specs.Turn.{turn_of}
use Rattle.prof_machine.specs.World.{World}
use Rattle.folded.specs.Shadow.{Shadow, after_hook, after_ran, empty_shadow}

-- a sample that counts: where its hart's calls were to return to, and its address
pub record StackSample : Type 0 where
  pub frames : List ℕ
  pub pc : ℕ

pub record Trail : Type 0 where
  -- by the number of the hart
  pub shadows : List Shadow
  pub samples : List StackSample

abbrev pub shadow_of : List Shadow → ℕ → Shadow
shadow_of shadows h = slice_index_or shadows h empty_shadow

abbrev pub stack_samples : Option ℕ → List ℕ → List StackSample
stack_samples None frames = []
stack_samples (Some pc) frames = record { frames = frames; pc = pc } ∷ []

-- one more turn, of hart h: the instruction comes first, then the sample, then the return from a hook
abbrev pub followed_by : ℕ → TurnNote → Shadow → Trail → Trail
followed_by h note s t = record {
  shadows = slice_set t.shadows h (after_hook note.returned s);
  samples = t.samples ++ stack_samples note.sample s.frames;
}

unfoldable pub trail_with : ℕ → TurnNote → Trail → Trail
trail_with h note t = followed_by h note (after_ran note.ran (shadow_of t.shadows h)) t

-- before the first turn
abbrev pub first_trail : ℕ → Trail
first_trail harts = record { shadows = replicate harts empty_shadow; samples = [] }

-- after more turns from world w on
abbrev pub trail_from : Machine → World → Trail → List ℕ → Trail
trail_from m w t [] = t
trail_from m w t (h ∷ turns) = trail_from m (turn_of m w h) (trail_with h (note_of m w h) t) turns

abbrev pub trail_after : Machine → World → List ℕ → Trail
trail_after m w turns = trail_from m w (first_trail m.setup.harts) turns

-- the samples that count, each with its hart's calls
abbrev pub samples_after : Machine → World → List ℕ → List StackSample
samples_after m w turns = (trail_after m w turns).samples

-- those of a whole run by its plan
unfoldable pub run_samples : Machine → World → List StackSample
run_samples m w = samples_after m w (plan_of m.setup (most_turns m.setup))
