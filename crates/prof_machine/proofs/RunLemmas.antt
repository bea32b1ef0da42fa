-- Runs from their start: that they end, and how their clock stands.
use Rattle.std.proofs.Common.{◌+◌, ◌-◌, ◌/◌, ◌<◌, List, None, Option, Some, arith, inl, inr, length, refl, subst, sym, ℕ, ◌≡◌, ◌≤◌}
use Rattle.std.specs.Option.{IsSome}
use Rattle.std.proofs.lemmas.Bool.{cases_lt}
use Rattle.std.specs.List.{count_by}
use Rattle.std.specs.Prelude.{is_some}
use Rattle.std.proofs.lemmas.List.FromFn.{length-map-range_with_len}
use Rattle.std.proofs.Math.Nat.{zero-div}
use Rattle.elf32_syms.specs.declared.image.Image.{Image}
use Rattle.settings.specs.declared.setup.Setup.{Setup}
use Rattle.mcount_arcs.proofs.ChainLengths.{chain_short}
use Rattle.mcount_arcs.proofs.KeptCallLemmas.{kept_calls-places}
use Rattle.mcount_arcs.proofs.LogLemmas.{looks_of-chain}
use Rattle.rv_step.specs.declared.stepped.TrapKind.{TrapKind}
use Rattle.prof_machine.proofs.ClockLemmas.{Timed, at_none, timed_after}
use Rattle.prof_machine.proofs.PlanLemmas.{planned_ended}
use Rattle.prof_machine.proofs.TurnCountLemmas.{Short, room_after, room_of, total_zeros}
use Rattle.prof_machine.proofs.WorldLemmas.{the_end}
use Rattle.prof_machine.specs.Plan.{after_drive, most_turns, plan_of, world_at, taker_of}
use Rattle.prof_machine.specs.Start.{final_world, machine_of, start_of}
use Rattle.prof_machine.specs.Turn.{world_after}
use Rattle.prof_machine.specs.Value.{is_sample}
use Rattle.prof_machine.specs.World.{World}
use Rattle.prof_machine.specs.declared.summary.End.{End}
use Rattle.prof_machine.specs.declared.summary.End.TheVariants.{Budget, Exit, Trap}
use Rattle.prof_machine.specs.declared.machine.Machine.{Machine}

looks_short : (image : Image) (setup : Setup) → Short (machine_of image setup)
unfolding machine_of
looks_short image setup log slot to = grind (arith, looks_of-chain, chain_short, kept_calls-places)

timed_start : (image : Image) (bytes : List ℕ) (setup : Setup) → 1 ≤ setup.budget → Timed (machine_of image setup) (start_of image bytes setup) (start_of image bytes setup).ending
unfolding start_of machine_of
timed_start image bytes setup some = (sym (zero-div setup.every), omega (arith, some))

room_start : (image : Image) (bytes : List ℕ) (setup : Setup) → room_of (machine_of image setup) (start_of image bytes setup) ≡ most_turns setup
unfolding start_of machine_of room_of
room_start image bytes setup = omega (arith, total_zeros setup.harts)

pub given_setup : (image : Image) (setup : Setup) → (machine_of image setup).setup ≡ setup
unfolding machine_of
given_setup image setup = refl

pub timed_run : (image : Image) (bytes : List ℕ) (setup : Setup) (turns : List ℕ) → 1 ≤ setup.every → 1 ≤ setup.budget → (let w = world_after (machine_of image setup) (start_of image bytes setup) turns in Timed (machine_of image setup) w w.ending)
timed_run image bytes setup turns every budget = search (timed_after, given_setup, timed_start)

length-plan_of : (setup : Setup) (n : ℕ) → length (plan_of setup n) ≡ n
unfolding plan_of
length-plan_of setup n = length-map-range_with_len (taker_of setup.plan setup.harts) 0 n

no_room : (m : Machine) (w v : World) (turns : List ℕ) → length turns + room_of m w ≤ room_of m v → w.retired < m.setup.budget → most_turns m.setup ≤ length turns → room_of m v ≡ most_turns m.setup → ⊥
unfolding room_of
no_room m w v turns fits few enough start = omega (arith, fits, few, enough, start)

-- whichever harts take the turns
pub turns_end : (image : Image) (bytes : List ℕ) (setup : Setup) (turns : List ℕ) → 1 ≤ setup.every → 1 ≤ setup.budget → most_turns setup ≤ length turns → IsSome (world_after (machine_of image setup) (start_of image bytes setup) turns).ending
turns_end image bytes setup turns every budget enough = by_end w.ending refl
  where
    m : Machine
    m = machine_of image setup

    w : World
    w = world_after m (start_of image bytes setup) turns

    some : 1 ≤ m.setup.every
    some = subst (λ (s : Setup). 1 ≤ s.every) (sym (given_setup image setup)) every

    many : most_turns m.setup ≤ length turns
    many = subst (λ (s : Setup). most_turns s ≤ length turns) (sym (given_setup image setup)) enough

    by_end : (o : Option End) → w.ending ≡ o → IsSome o
    by_end (Some end) is = refl
    by_end None is =
        let fits = room_after m (start_of image bytes setup) turns some (looks_short image setup) (timed_start image bytes setup budget) is in
        grind (arith, at_none, m, w, timed_run, room_of, room_start, given_setup, no_room, many)

pub plan_ends : (image : Image) (bytes : List ℕ) (setup : Setup) → 1 ≤ setup.every → 1 ≤ setup.budget → IsSome (final_world image bytes setup).ending
unfolding after_drive
plan_ends image bytes setup every budget = grind (arith, length-plan_of, given_setup, turns_end)

pub plan_shortest : (image : Image) (bytes : List ℕ) (setup : Setup) (n : ℕ) → 1 ≤ setup.every → 1 ≤ setup.budget → IsSome (world_at (machine_of image setup) (start_of image bytes setup) n).ending
    → world_at (machine_of image setup) (start_of image bytes setup) n ≡ final_world image bytes setup
unfolding after_drive
plan_shortest image bytes setup n every budget is_some =
    let m = machine_of image setup in
    let w = start_of image bytes setup in
    let (end, is) = the_end (world_at m w n).ending is_some in
    let (last, is_last) = the_end (final_world image bytes setup).ending (plan_ends image bytes setup every budget) in
    elim (cases_lt n (most_turns m.setup)) [
      | inl few ↦ sym (planned_ended m w n (most_turns m.setup) end (omega arith) is)
      | inr many ↦ planned_ended m w (most_turns m.setup) n last many is_last
    ]

pub timed_going : (image : Image) (bytes : List ℕ) (setup : Setup) (turns : List ℕ) → 1 ≤ setup.every → 1 ≤ setup.budget → (let w = world_after (machine_of image setup) (start_of image bytes setup) turns in w.ending ≡ None → (count_by is_sample w.log ≡ w.retired / setup.every) × (w.retired < setup.budget))
unfolding machine_of
timed_going image bytes setup turns every budget is = grind (arith, timed_run)

pub timed_budget : (image : Image) (bytes : List ℕ) (setup : Setup) (turns : List ℕ) → 1 ≤ setup.every → 1 ≤ setup.budget → (let w = world_after (machine_of image setup) (start_of image bytes setup) turns in w.ending ≡ Some Budget → (count_by is_sample w.log ≡ w.retired / setup.every) × (w.retired ≡ setup.budget))
unfolding machine_of
timed_budget image bytes setup turns every budget is = grind (arith, timed_run)

pub timed_exit : (image : Image) (bytes : List ℕ) (setup : Setup) (turns : List ℕ) (status : ℕ) → 1 ≤ setup.every → 1 ≤ setup.budget → (let w = world_after (machine_of image setup) (start_of image bytes setup) turns in w.ending ≡ Some (Exit status) → (count_by is_sample w.log ≡ (w.retired - 1) / setup.every) × (w.retired ≤ setup.budget))
unfolding machine_of
timed_exit image bytes setup turns status every budget is = grind (arith, timed_run)

pub timed_trap : (image : Image) (bytes : List ℕ) (setup : Setup) (turns : List ℕ) (kind : TrapKind) (pc : ℕ) → 1 ≤ setup.every → 1 ≤ setup.budget → (let w = world_after (machine_of image setup) (start_of image bytes setup) turns in w.ending ≡ Some (Trap kind pc) → (count_by is_sample w.log ≡ w.retired / setup.every) × (w.retired ≤ setup.budget))
unfolding machine_of
timed_trap image bytes setup turns kind pc every budget is = grind (arith, timed_run)
