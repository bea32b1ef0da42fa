-- How many turns a run takes at most.
use Rattle.std.proofs.Common.{◌&&◌, ◌*◌, ◌+◌, ◌-◌, ◌<◌, Bool, List, None, Option, Some, [], arith, eqb, length, map, refl, replicate, set, suc, zero, ℕ, ◌∷◌, ◌≡◌, ◌≤◌, if◌then◌else◌}
use Rattle.std.specs.Prelude.{is_some, nat_lt}
use Rattle.std.specs.List.{list_any}
use Rattle.mcount_arcs.specs.Arcs.{looks_of}
use Rattle.mcount_arcs.specs.Log.{LogEntry, WalkDone}
use Rattle.prof_machine.proofs.ClockLemmas.{Timed, timed_turn}
use Rattle.prof_machine.proofs.WorldLemmas.{by_arrived, by_executed, by_going, by_returned, closed_going, ended_stays, ended_turn, going_stage}
use Rattle.prof_machine.specs.Turn.{after_arrival, after_close, after_execution, after_ordinary_turn, after_sample, after_budget, after_look, turn_of, while_going, with_entry, world_after}
use Rattle.prof_machine.specs.World.{World, looks_of_hart}
use Rattle.prof_machine.specs.declared.summary.End.{End}
use Rattle.prof_machine.specs.declared.summary.End.TheVariants.{Budget}
use Rattle.prof_machine.specs.declared.machine.Machine.{Machine}

pub total : List ℕ → ℕ
total [] = 0
total (x ∷ xs) = x + total xs

total_set : (xs : List ℕ) (h k : ℕ) → total (set xs h k) + looks_of_hart xs h ≤ total xs + k
unfolding total
total_set [] h k = omega arith
total_set (x ∷ xs) zero k = omega arith
total_set (x ∷ xs) (suc h) k = let rest = total_set xs h k in omega (arith, rest)

pub total_zeros : (n : ℕ) → total (replicate n 0) ≡ 0
unfolding total
total_zeros zero = refl
total_zeros (suc n) = let rest = total_zeros n in omega (arith, rest)

-- no call takes more looks
abbrev pub Short : Machine → Type 0
Short m = (log : List LogEntry) (slot to : ℕ) → looks_of m.sizes log slot to ≤ 65533

-- after an instruction, if the run goes on
abbrev Untouched : World → World → Type 0
Untouched w v = v.ending ≡ None → (v.retired ≡ w.retired + 1) × (v.left ≡ w.left)

abbrev Longer : World → World → Type 0
Longer w v = v.ending ≡ None → (v.retired ≡ w.retired + 1) × (total v.left ≤ total w.left + 65533)

never : {A : Type 0} (o : Option End) (end : End) → o ≡ Some end → o ≡ None → A
never o end is none = absurd cc

untouched_executed : (m : Machine) (h : ℕ) (w : World) → Untouched w (after_execution m h w)
untouched_executed m h w = grind (arith, by_executed)

untouched_sampled : (m : Machine) (h : ℕ) (w v : World) → v.ending ≡ None → Untouched w v → Untouched w (after_sample m h v)
unfolding after_sample
untouched_sampled m h w v on so_far = grind arith

longer_arrived : (m : Machine) (h : ℕ) (w v : World) → Short m → v.ending ≡ None → Untouched w v → Longer w (after_arrival m h v)
longer_arrived m h w v short on so_far = grind (arith, by_arrived, total_set)

longer_spent : (m : Machine) (w v : World) → v.ending ≡ None → Longer w v → Longer w (after_budget m v)
unfolding after_budget
longer_spent m w v on so_far = by_test (eqb v.retired m.setup.budget)
  where
    by_test : (b : Bool) → Longer w (if b then record v { ending = Some Budget } else v)
    by_test b = grind arith

longer_instructed : (m : Machine) (h : ℕ) (w : World) → Short m → Longer w (after_ordinary_turn m h w)
unfolding after_ordinary_turn
longer_instructed m h w short =
    let a = after_execution m h w in
    let b = while_going (after_sample m h) a in
    let c = while_going (after_arrival m h) b in
    let first : Untouched w b = by_going (after_sample m h) a (λ v. Untouched w v) (λ on. untouched_sampled m h w a on (untouched_executed m h w)) (λ end off. λ going. never a.ending end off going) in
    let second : Longer w c = by_going (after_arrival m h) b (λ v. Longer w v) (λ on. longer_arrived m h w b short on first) (λ end off. λ going. never b.ending end off going) in
    by_going (after_budget m) c (λ v. Longer w v) (λ on. longer_spent m w c on second) (λ end off. λ going. never c.ending end off going)

-- what is left of the budget, in turns
unfoldable pub room_of : Machine → World → ℕ
room_of m w = 65535 * (m.setup.budget - w.retired) + total w.left

less_taken : (m : Machine) (h n : ℕ) (w : World) → Short m → w.retired < m.setup.budget → looks_of_hart w.left h ≡ n → (after_look m h n w).ending ≡ None → room_of m (after_look m h n w) < room_of m w
unfolding room_of
less_taken m h n w short few is going = grind (arith, longer_instructed, by_returned, total_set)

closed_ending : (w : World) → (after_close w).ending ≡ w.ending
unfolding after_close
closed_ending w = by_test (is_some w.ending && list_any (λ n. nat_lt 0 n) w.left)
  where
    by_test : (b : Bool) → (if b then record (with_entry WalkDone w) { left = map (λ n. 0) w.left } else w).ending ≡ w.ending
    by_test b = grind arith

-- a turn after which the run goes on leaves fewer
pub less_turn : (m : Machine) (w : World) (h : ℕ) → Short m → w.retired < m.setup.budget → w.ending ≡ None → (turn_of m w h).ending ≡ None → room_of m (turn_of m w h) < room_of m w
unfolding turn_of
less_turn m w h short few live going = grind (arith, going_stage, closed_ending, closed_going, less_taken)

-- turns after which the run goes on are not more than there was room for
abbrev Fits : Machine → World → List ℕ → Type 0
Fits m w turns = length turns + room_of m (world_after m w turns) ≤ room_of m w

fits_next : (m : Machine) (w : World) (h : ℕ) (turns : List ℕ) → Short m → Timed m w w.ending → Fits m (turn_of m w h) turns → (world_after m w (h ∷ turns)).ending ≡ None → (o : Option End) → (turn_of m w h).ending ≡ o → Fits m w (h ∷ turns)
fits_next m w h turns short timed rest going o is = grind (arith, ended_stays, ended_turn, less_turn)

pub room_after : (m : Machine) (w : World) (turns : List ℕ) → 1 ≤ m.setup.every → Short m → Timed m w w.ending → (world_after m w turns).ending ≡ None → length turns + room_of m (world_after m w turns) ≤ room_of m w
room_after m w [] some short timed going = omega arith
room_after m w (h ∷ turns) some short timed going =
    fits_next m w h turns short timed (room_after m (turn_of m w h) turns some short (timed_turn m w h some timed) going) going (turn_of m w h).ending refl
