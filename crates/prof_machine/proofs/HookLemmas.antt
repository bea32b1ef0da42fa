-- A hook, in the world that a run stands for.
use Rattle.std.proofs.Common.{◌+◌, ◌++◌, Bool, List, Some, [], ap, arith, eqb, refl, subst, sym, ℕ, ◌∙◌, ◌∷◌, ◌≡◌, if◌then◌else◌}
use Rattle.std.specs.Prelude.{not, option_map}
use Rattle.std.specs.Option.{option_eq}
use Rattle.mcount_arcs.specs.Log.{CallIgnored, CallLost, Enter, Mode}
use Rattle.mcount_arcs.specs.Sizes.{slot_of}
use Rattle.mcount_arcs.specs.Value.{GmonValue, StandsFor as RuntimeStandsFor, meets, walk_from}
use Rattle.mcount_arcs.specs.declared.sizes.Sizes.{Sizes}
use Rattle.mcount_arcs.specs.declared.state.State.{State}
use Rattle.mcount_arcs.specs.declared.state.State.TheVariants.{On}
use Rattle.mcount_arcs.specs.declared.walk.Entered.{Entered}
use Rattle.mcount_arcs.specs.declared.walk.Entered.TheVariants.{Ignored, Lost, Walking}
use Rattle.mcount_arcs.specs.declared.walk.Walk.{Walk}
use Rattle.rv_step.specs.Registers.{Registers, register}
use Rattle.prof_machine.proofs.StandingLemmas.{quiet_stands, returns_stands}
use Rattle.prof_machine.proofs.WalkLemmas.{enter_stands}
use Rattle.prof_machine.specs.Stages.{returns}
use Rattle.prof_machine.specs.Turn.{after_entering, after_arrival, after_mcount, after_return, after_moncontrol, with_entry}
use Rattle.prof_machine.specs.Value.{RunValue, StandsFor}
use Rattle.prof_machine.specs.World.{World, hart_of}

pub walk_is : (z : Sizes) (state : State) (from to : ℕ) (walk : Walk) → Walking walk ≡ meets z state from to → (state ≡ On) × (walk ≡ walk_from (slot_of z from) to)
walk_is z state from to walk is = grind arith

pub called_as : (w : World) (r : RunValue) (h from to : ℕ) (s : Registers) (e : Entered) → hart_of r.harts h ≡ s → from ≡ register s 10 → to ≡ register s 1 → e ≡ meets r.gmon.sizes r.gmon.state from to → r.gmon.sizes ≡ r.machine.sizes → StandsFor w r
    → after_mcount r.machine h (hart_of w.harts h) w ≡ after_entering r.machine h from to e w
called_as w r h from to s e read f t met sizes stands = grind arith

pub walking_stands : (w : World) (r : RunValue) (g : GmonValue) (h from to : ℕ) (walk : Walk) → Walking walk ≡ meets r.gmon.sizes r.gmon.state from to → r.gmon.sizes ≡ r.machine.sizes → r.gmon.walk ≡ option_map (λ f. f.walk) r.flight
    → RuntimeStandsFor (w.log ++ Enter from to ∷ []) g → StandsFor w r → StandsFor (after_entering r.machine h from to (Walking walk) w) (record r { flight = Some (record { hart = h; walk = walk }); gmon = g })
walking_stands w r g h from to walk met sizes held gmon stands =
    let is = walk_is r.gmon.sizes r.gmon.state from to walk met in
    let same : walk ≡ walk_from (slot_of r.machine.sizes from) to = is.1 ∙ ap (λ (z : Sizes). walk_from (slot_of z from) to) sizes in
    let P : Walk → Type 0 = λ x. StandsFor (after_entering r.machine h from to (Walking x) w) (record r { flight = Some (record { hart = h; walk = x }); gmon = g }) in
    subst P (sym same) (enter_stands w r g h from to is.0 sizes held gmon stands)

pub lost_stands : (w : World) (r : RunValue) (g : GmonValue) (h from to : ℕ) → RuntimeStandsFor (w.log ++ CallLost from to ∷ []) g → StandsFor w r → StandsFor (after_entering r.machine h from to Lost w) (returns h (record r { gmon = g; lost = r.lost + 1 }))
lost_stands w r g h from to gmon stands = search (returns_stands, quiet_stands)

pub ignored_stands : (w : World) (r : RunValue) (g : GmonValue) (h from to : ℕ) → RuntimeStandsFor (w.log ++ CallIgnored from to ∷ []) g → StandsFor w r → StandsFor (after_entering r.machine h from to Ignored w) (returns h (record r { gmon = g }))
ignored_stands w r g h from to gmon stands =
    returns_stands (with_entry (CallIgnored from to) w) (record r { gmon = g }) h (quiet_stands w r g r.lost (CallIgnored from to) (record { walk = refl; pair = refl }) (λ before. refl) (omega arith) gmon stands)

pub switched_stands : (w : World) (r : RunValue) (g : GmonValue) (h : ℕ) (on : Bool) (s : Registers) → hart_of r.harts h ≡ s → on ≡ not (eqb (register s 10) 0) → RuntimeStandsFor (w.log ++ Mode on ∷ []) g → StandsFor w r
    → StandsFor (after_moncontrol h (hart_of w.harts h) w) (returns h (record r { gmon = g }))
switched_stands w r g h on s read is gmon stands =
    let hart : s ≡ hart_of w.harts h = sym read ∙ ap (λ (x : List Registers). hart_of x h) stands.harts in
    let same : on ≡ not (eqb (register (hart_of w.harts h) 10) 0) = is ∙ ap (λ (x : Registers). not (eqb (register x 10) 0)) hart in
    let P : Bool → Type 0 = λ b. StandsFor (after_return h (with_entry (Mode b) w)) (returns h (record r { gmon = g })) in
    subst P same (returns_stands (with_entry (Mode on) w) (record r { gmon = g }) h (quiet_stands w r g r.lost (Mode on) (record { walk = refl; pair = refl }) (λ before. refl) (omega arith) gmon stands))

pub arrived_as : (w : World) (r : RunValue) (h pc : ℕ) (s : Registers) (b c : Bool) → hart_of r.harts h ≡ s → pc ≡ s.pc → b ≡ option_eq eqb r.machine.mcount (Some pc) → c ≡ option_eq eqb r.machine.moncontrol (Some pc) → StandsFor w r
    → after_arrival r.machine h w ≡ (if b then after_mcount r.machine h (hart_of w.harts h) w else (if c then after_moncontrol h (hart_of w.harts h) w else w))
unfolding after_arrival
arrived_as w r h pc s b c read pc_is b_is c_is stands = grind arith
