-- A turn, stage by stage, in the world that a run stands for.
use Rattle.std.proofs.Common.{None, ap, false, refl, subst, sym, zero, ℕ, ◌∙◌, ◌≡◌}
use Rattle.prof_machine.proofs.PrintLemmas.{prints_closed}
use Rattle.prof_machine.proofs.StandingLemmas.{stands_going}
use Rattle.prof_machine.proofs.WalkLemmas.{left_none, taken_by}
use Rattle.prof_machine.proofs.WorldLemmas.{going_stage}
use Rattle.prof_machine.specs.Stages.{holds}
use Rattle.prof_machine.specs.Turn.{after_arrival, after_close, after_execution, after_ordinary_turn, after_sample, after_budget, after_look, turn_of, while_going}
use Rattle.prof_machine.specs.Value.{RunValue, StandsFor}
use Rattle.prof_machine.specs.World.{World, looks_of_hart}
use Rattle.prof_machine.specs.declared.machine.Machine.{Machine}

-- ---- the stages one after the other

pub instructed_stands : (m m1 m2 m3 : Machine) (h : ℕ) (w : World) (r : RunValue) → m1 ≡ m → m2 ≡ m → m3 ≡ m → StandsFor (while_going (after_budget m3) (while_going (after_arrival m2 h) (while_going (after_sample m1 h) (after_execution m h w)))) r → StandsFor (after_ordinary_turn m h w) r
unfolding after_ordinary_turn
instructed_stands m m1 m2 m3 h w r p q s stands =
    let P : Machine → Type 0 = λ x. StandsFor (while_going (after_budget x) (while_going (after_arrival m2 h) (while_going (after_sample m1 h) (after_execution m h w)))) r in
    let Q : Machine → Type 0 = λ x. StandsFor (while_going (after_budget m) (while_going (after_arrival x h) (while_going (after_sample m1 h) (after_execution m h w)))) r in
    let R : Machine → Type 0 = λ x. StandsFor (while_going (after_budget m) (while_going (after_arrival m h) (while_going (after_sample x h) (after_execution m h w)))) r in
    subst R p (subst Q q (subst P s stands))

-- ---- the whole turn

pub turn_stands : (m : Machine) (h : ℕ) (w : World) (old new : RunValue) → old.ending ≡ None → StandsFor w old → StandsFor (after_close (after_look m h (looks_of_hart w.left h) w)) new → StandsFor (turn_of m w h) new
unfolding turn_of
turn_stands m h w old new going stands after = stands_going (λ v. after_close (after_look m h (looks_of_hart v.left h) v)) w old new stands going after

pub turn_prints : (m : Machine) (h : ℕ) (w : World) (old : RunValue) → old.ending ≡ None → StandsFor w old → (turn_of m w h).prints ≡ (after_look m h (looks_of_hart w.left h) w).prints
unfolding turn_of
turn_prints m h w old going stands =
    ap (λ (v : World). v.prints) (going_stage (λ v. after_close (after_look m h (looks_of_hart v.left h) v)) w (sym stands.ending ∙ going)) ∙ prints_closed (after_look m h (looks_of_hart w.left h) w)

-- of a hart that holds no walk
pub taken_instructed : (m : Machine) (h : ℕ) (w : World) (r : RunValue) → holds r.flight h ≡ false → StandsFor w r → after_look m h (looks_of_hart w.left h) w ≡ after_ordinary_turn m h w
taken_instructed m h w r none stands = taken_by m h zero w (left_none w r h r.flight refl none stands)
