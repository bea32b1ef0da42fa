-- How far a walk through a plan has come.
use Rattle.std.specs.Prelude.{◌≡◌, ◌≢◌, ℕ, ◌-◌, ◌/◌, ◌%◌, ◌<◌, ◌≤◌}
use Rattle.settings.specs.declared.setup.Plan.{Plan}
use Rattle.settings.specs.declared.setup.Plan.TheVariants.{RoundRobin, Seeded}
use Rattle.settings.specs.declared.setup.Setup.{Setup}
use Rattle.settings.specs.Setup.{plan_number}
use Rattle.prof_machine.specs.declared.schedule.PlanWalk.TheInside.{Inside}
use Rattle.prof_machine.specs.Plan.{state_after}

-- what contracts see of a walk
pub record PlanPlace : Type 0 where
  pub plan : Plan
  pub harts : ℕ
  -- in a round: the hart whose quantum it is, and how many turns of it are left
  pub hart : ℕ
  pub left : ℕ
  -- by a seed: the state that it has come to
  pub state : ℕ

abbrev pub place_of : Inside → PlanPlace
place_of a = record { plan = a.plan; harts = a.harts; hart = a.hart; left = a.left; state = a.state }

-- in a round it has the hart whose quantum it is, and how many turns of it are left
abbrev pub IsRound : ℕ → ℕ → PlanPlace → Type 0
IsRound quantum n p = (p.hart ≡ n / quantum % p.harts) × (p.left ≡ quantum - n % quantum)

-- by a seed it has the state that this has come to
abbrev pub IsDrawn : Plan → ℕ → PlanPlace → Type 0
IsDrawn (RoundRobin quantum) n p = IsRound quantum n p
IsDrawn (Seeded seed) n p = p.state ≡ state_after seed n

-- it has passed the first n turns of the plan: turn n is next. One hart has every turn, so its walk keeps no count
pub record Draws (setup : Setup) (n : ℕ) (p : PlanPlace) : Type 0 where
  pub plan : p.plan ≡ setup.plan
  pub harts : p.harts ≡ setup.harts
  pub drawn : p.harts ≢ 1 → IsDrawn setup.plan n p

-- what keeps its counters within their ranges
pub record IsWithin (a : Inside) : Type 0 where
  pub number : 1 ≤ plan_number a.plan
  pub hart : a.hart < a.harts
  pub left : 1 ≤ a.left
