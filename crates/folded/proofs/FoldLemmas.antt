-- The loop that makes the turns of a plan and follows them.
use Rattle.std.proofs.Common.{◌+◌, ◌≡◌, ◌≤◌, ◌∙◌, Some, arith, refl, replicate, subst, sym, ℕ, List, length, ap}
use Rattle.std.proofs.lemmas.List.{get_or-replicate, length-replicate}
use Rattle.prof_machine.proofs.ActLemmas.{nothing_printed}
use Rattle.prof_machine.proofs.DriveLemmas.{in_first}
use Rattle.folded.specs.declared.refusal.FoldRefusal.TheVariants.{OutOfMemory}
use Rattle.std.specs.Prelude.{◌⊎◌}
use Rattle.elf32_syms.specs.declared.image.Symbol.{Symbol}
use Rattle.host_port.specs.Outside.{KeepsCounts, KeepsInput, Outside}
use Rattle.prof_machine.specs.Notes.{note_of}
use Rattle.prof_machine.specs.declared.notes.TurnNote.{TurnNote}
use Rattle.prof_machine.specs.Plan.{most_turns, plan_of, world_at, taker_of}
use Rattle.prof_machine.specs.Prints.{ArePrinted}
use Rattle.prof_machine.specs.Schedule.{Draws, PlanPlace}
use Rattle.prof_machine.specs.Value.{IsLive, RunValue, StandsFor, work_left}
use Rattle.prof_machine.specs.World.{World}
use Rattle.prof_machine.specs.declared.summary.End.{End}
use Rattle.prof_machine.specs.declared.machine.Machine.{Machine}
use Rattle.folded.specs.Folding.{Follows, HasRoom, IsTracked, StopsShort}
use Rattle.folded.specs.Nodes.{IsTreeOf}
use Rattle.folded.specs.Shadow.{Shadow, empty_shadow}
use Rattle.folded.specs.Stacks.{stacks_of}
use Rattle.folded.specs.Trail.{first_trail, trail_with, run_samples, trail_after}
use Rattle.folded.specs.declared.tracker.Tracker.{Tracker}
use Rattle.folded.proofs.TrailLemmas.{run_samples_at, trail_next}

-- so many turns of the plan are made and followed, and the run goes on
pub record Goes (symbols : List Symbol) (old new : RunValue) (before now : Outside) (next : PlanPlace) (v : Tracker) : Type 0 where
  pub live : IsLive new
  pub machine : new.machine ≡ old.machine
  pub turns : ℕ
  pub draws : Draws old.machine.setup turns next
  pub few : (turns ≡ 0) ⊎ (turns + work_left new ≤ most_turns old.machine.setup)
  pub stands : (w : World) → StandsFor w old → StandsFor (world_at old.machine w turns) new
  pub follows : (w : World) → StandsFor w old → Follows symbols (trail_after old.machine w (plan_of old.machine.setup turns)) v
  pub prints : (w : World) → StandsFor w old → ArePrinted w (world_at old.machine w turns) before now
  pub counts : KeepsCounts before now
  pub writing : now.is_writing ≡ before.is_writing
  pub input : KeepsInput before now
  pub harts : length v.shadows.items ≡ old.machine.setup.harts
  pub tracked : IsTracked symbols v
  pub room : HasRoom turns v.shadows.items
  pub total : v.tree.total ≤ turns

-- what is left of a run before its next turn
pub few_at : (turns work most : ℕ) → ((turns ≡ 0) ⊎ (turns + work ≤ most)) → work ≤ most → turns + work ≤ most
few_at turns work most is few = grind arith

-- the turn in which the run ends is the last
pub folds_last : (symbols : List Symbol) (m : Machine) (w : World) (n : ℕ) (v : Tracker) (end : End) → n ≤ most_turns m.setup → (world_at m w n).ending ≡ Some end → Follows symbols (trail_after m w (plan_of m.setup n)) v
    → IsTreeOf (stacks_of symbols (run_samples m w)) v.tree
folds_last symbols m w n v end enough is follows = grind (arith, run_samples_at)

-- what holds of the trail is said of the plan's trail before its first turn, and behind one more turn
pub first_follows : (symbols : List Symbol) (m : Machine) (w : World) (v : Tracker) → Follows symbols (first_trail m.setup.harts) v → Follows symbols (trail_after m w (plan_of m.setup 0)) v
unfolding plan_of
first_follows symbols m w v is = is

pub next_follows : (symbols : List Symbol) (m v : Machine) (w : World) (n h : ℕ) (note : TurnNote) (t : Tracker) → v ≡ m → h ≡ taker_of m.setup.plan m.setup.harts n → note ≡ note_of v (world_at m w n) h
    → Follows symbols (trail_with h note (trail_after m w (plan_of m.setup n))) t → Follows symbols (trail_after m w (plan_of m.setup (n + 1))) t
next_follows symbols m v w n h note t same taker is follows = grind (arith, trail_next)

pub first_harts : (v : List Shadow) (n : ℕ) → v ≡ replicate n empty_shadow → length v ≡ n
first_harts v n is = ap (λ (x : List Shadow). length x) is ∙ length-replicate n empty_shadow

room_replicate : (n : ℕ) → HasRoom 0 (replicate n empty_shadow)
room_replicate n = grind (arith, get_or-replicate, length-replicate)

pub first_room : (v : List Shadow) (n : ℕ) → v ≡ replicate n empty_shadow → HasRoom 0 v
first_room v n is = subst (λ (x : List Shadow). HasRoom 0 x) (sym is) (room_replicate n)

-- how a run that is folded stops
pub stops_at_first : (m : Machine) (w : World) (o : Outside) → StopsShort m w o o OutOfMemory
stops_at_first m w o = (0, omega arith, in_first (λ v. ArePrinted w v o o) m w (nothing_printed w w o refl))
