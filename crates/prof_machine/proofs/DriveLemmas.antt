-- The loop that makes the turns of a plan.
use Rattle.std.proofs.Common.{◌*◌, ◌+◌, ◌-◌, None, Option, Some, ap, arith, refl, subst, sym, ℕ, ◌∙◌, ◌≡◌, ◌<◌, ◌≤◌, ◌↔◌}
use Rattle.std.specs.Prelude.{IfSome}
use Rattle.host_port.specs.Outside.{KeepsCounts, KeepsInput, Outside}
use Rattle.prof_machine.proofs.PlanLemmas.{driven_at, next_turn}
use Rattle.prof_machine.specs.Plan.{after_drive, most_turns, plan_of, world_at, taker_of}
use Rattle.prof_machine.specs.Prints.{ArePrinted}
use Rattle.prof_machine.specs.Schedule.{Draws, PlanPlace}
use Rattle.prof_machine.specs.Stages.{LeavesFewerTurns}
use Rattle.prof_machine.specs.Turn.{turn_of}
use Rattle.prof_machine.specs.Value.{IsHeld, IsLive, RunValue, StandsFor, looks_at_most, turned_of, value_of, work_left}
use Rattle.prof_machine.specs.World.{World}
use Rattle.prof_machine.specs.declared.summary.End.{End}
use Rattle.prof_machine.specs.declared.summary.Turned.TheVariants.{Ended}
use Rattle.prof_machine.specs.declared.flight.Flight.{Flight}
use Rattle.prof_machine.specs.declared.machine.Machine.{Machine}
use Rattle.prof_machine.specs.declared.runs.Run.TheInside.{Inside}

-- so many turns of the plan are made, and the run goes on
pub record Drives (old new : RunValue) (before now : Outside) (next : PlanPlace) : Type 0 where
  pub live : IsLive new
  pub going : new.ending ≡ None
  pub machine : new.machine ≡ old.machine
  pub note : new.note ≡ old.note
  pub turns : ℕ
  pub draws : Draws old.machine.setup turns next
  pub few : turns + work_left new ≤ most_turns old.machine.setup
  pub stands : (w : World) → StandsFor w old → StandsFor (world_at old.machine w turns) new
  pub prints : (w : World) → StandsFor w old → ArePrinted w (world_at old.machine w turns) before now
  pub counts : KeepsCounts before now
  pub writing : now.is_writing ≡ before.is_writing
  pub input : KeepsInput before now

-- what holds of the world is said of the plan's world before its first turn ..
pub in_first : (P : World → Type 0) (m : Machine) (w : World) → P w → P (world_at m w 0)
unfolding plan_of
in_first P m w p = p

-- .. behind one more turn ..
pub in_next : (P : World → Type 0) (m v : Machine) (w : World) (n h : ℕ) → v ≡ m → h ≡ taker_of m.setup.plan m.setup.harts n → P (turn_of v (world_at m w n) h) → P (world_at m w (n + 1))
in_next P m v w n h same taker p = subst P (next_turn m v w n h same taker) p

-- .. and behind its last one
pub in_last : (P : World → Type 0) (m : Machine) (w : World) (r : RunValue) (n : ℕ) (end : End) → n ≤ most_turns m.setup → r.ending ≡ Some end → StandsFor (world_at m w n) r → P (world_at m w n) → P (after_drive m w)
in_last P m w r n end enough is stands p = subst P (driven_at m w n end enough (sym stands.ending ∙ is)) p

work_by : (a : Inside) (f : Option Flight) → IsHeld a → a.flight ≡ f → IfSome f (λ x. 1 ≤ x.walk.place) → 65535 * (a.machine.setup.budget - a.retired) + looks_at_most f ≤ most_turns a.machine.setup
work_by a f held is place = grind arith

first_place : (o : Option Flight) → IfSome o (λ f. (1 ≤ f.walk.place) × (f.walk.place ≤ 65534)) → IfSome o (λ f. 1 ≤ f.walk.place)
first_place o p = grind arith

-- a run has not more work left than all turns that it may have
pub work_bound : (a : Inside) → IsHeld a → work_left (value_of a) ≤ most_turns a.machine.setup
work_bound a held = work_by a a.flight held refl (first_place a.flight held.place)

pub fewer_turns : (a : Inside) (old new : RunValue) → value_of a ≡ old → IsHeld a → IsLive old → (IsLive new → work_left new < work_left old) → LeavesFewerTurns old new
fewer_turns a old new is held live less = grind arith

-- what a turn answers where the run has ended
ended_answer : (o : Option End) (end : End) → turned_of o ≡ Ended end → o ≡ Some end
ended_answer o end is = grind arith

pub ended_exactly : (o : Option End) (end : End) → (turned_of o ≡ Ended end) ↔ (o ≡ Some end)
ended_exactly o end = (ended_answer o end, λ is. ap turned_of is)
