-- The turns of a plan.
use Rattle.std.proofs.Common.{◌+◌, ◌++◌, List, Some, [], ap, arith, drop, map, sym, ℕ, ◌∙◌, ◌∷◌, ◌≡◌, ◌≤◌}
use Rattle.std.proofs.lemmas.List.FromFn.{map-range_with_len_more, take-map-range_with_len}
use Rattle.std.specs.List.{range_with_len}
use Rattle.std.proofs.lemmas.List.{take-append-drop}
use Rattle.settings.specs.declared.setup.Setup.{Setup}
use Rattle.prof_machine.proofs.WorldLemmas.{ended_stays, world_after-append}
use Rattle.prof_machine.specs.Plan.{after_drive, most_turns, plan_of, world_at, taker_of}
use Rattle.prof_machine.specs.Turn.{turn_of, world_after}
use Rattle.prof_machine.specs.World.{World}
use Rattle.prof_machine.specs.declared.summary.End.{End}
use Rattle.prof_machine.specs.declared.machine.Machine.{Machine}

pub plan_more : (setup : Setup) (n : ℕ) → plan_of setup (n + 1) ≡ plan_of setup n ++ taker_of setup.plan setup.harts n ∷ []
unfolding plan_of
plan_more setup n = map-range_with_len_more (taker_of setup.plan setup.harts) 0 n n (omega arith)

-- one more turn of the plan
pub planned_more : (m : Machine) (w : World) (n : ℕ) → turn_of m (world_at m w n) (taker_of m.setup.plan m.setup.harts n) ≡ world_at m w (n + 1)
planned_more m w n = search (plan_more, world_after-append)

pub plan_front : (setup : Setup) (k n : ℕ) → k ≤ n → plan_of setup k ++ drop k (plan_of setup n) ≡ plan_of setup n
unfolding plan_of
plan_front setup k n le =
    ap (λ (front : List ℕ). front ++ drop k (map (taker_of setup.plan setup.harts) (range_with_len 0 n))) (sym (take-map-range_with_len (taker_of setup.plan setup.harts) 0 n k le))
    ∙ take-append-drop k (map (taker_of setup.plan setup.harts) (range_with_len 0 n))

-- the first turns of a plan, and the others
pub planned_split : (m : Machine) (w : World) (k n : ℕ) → k ≤ n → world_at m w n ≡ world_after m (world_at m w k) (drop k (plan_of m.setup n))
planned_split m w k n le = ap (λ (turns : List ℕ). world_after m w turns) (sym (plan_front m.setup k n le)) ∙ world_after-append m w (plan_of m.setup k) (drop k (plan_of m.setup n))

-- a run that has ended after k turns has so after more
pub planned_ended : (m : Machine) (w : World) (k n : ℕ) (end : End) → k ≤ n → (world_at m w k).ending ≡ Some end → world_at m w n ≡ world_at m w k
planned_ended m w k n end le is =
    ap (λ (turns : List ℕ). world_after m w turns) (sym (plan_front m.setup k n le))
    ∙ world_after-append m w (plan_of m.setup k) (drop k (plan_of m.setup n))
    ∙ ended_stays m (world_at m w k) (drop k (plan_of m.setup n)) end is

-- the turn in which it ends is the last
pub driven_at : (m : Machine) (w : World) (n : ℕ) (end : End) → n ≤ most_turns m.setup → (world_at m w n).ending ≡ Some end → world_at m w n ≡ after_drive m w
unfolding after_drive
driven_at m w n end enough is = sym (planned_ended m w n (most_turns m.setup) end enough is)

pub next_turn : (m v : Machine) (w : World) (n h : ℕ) → v ≡ m → h ≡ taker_of m.setup.plan m.setup.harts n → turn_of v (world_at m w n) h ≡ world_at m w (n + 1)
next_turn m v w n h same taker = ap (λ (x : Machine). turn_of x (world_at m w n) h) same ∙ ap (λ (k : ℕ). turn_of m (world_at m w n) k) taker ∙ planned_more m w n
