-- What only an instruction changes: how many have retired, where they stood, and what was printed.
use Rattle.std.proofs.Common.{◌%◌, ◌&&◌, Bool, List, Option, None, Some, eqb, false, refl, set, true, ℕ, ◌≡◌, if◌then◌else◌}
use Rattle.std.specs.Prelude.{is_some, nat_lt}
use Rattle.std.specs.List.{list_any}
use Rattle.host_port.specs.Act.{Act}
use Rattle.mcount_arcs.specs.Log.{WalkDone}
use Rattle.mcount_arcs.specs.declared.walk.Entered.{Entered}
use Rattle.mcount_arcs.specs.declared.walk.Entered.TheVariants.{Ignored, Lost, Walking}
use Rattle.prof_machine.specs.Turn.{after_entering, after_arrival, after_close, after_execution, after_ordinary_turn, after_return, after_sample, after_budget, return_target, while_going, with_entry}
use Rattle.prof_machine.specs.World.{World, hart_of}
use Rattle.prof_machine.specs.declared.summary.End.{End}
use Rattle.prof_machine.specs.declared.machine.Machine.{Machine}

pub record Lasting : Type 0 where
  pub retired : ℕ
  pub ran : List ℕ
  pub prints : List Act

abbrev pub lasting : World → Lasting
lasting w = record { retired = w.retired; ran = w.ran; prints = w.prints }

lasts_if : (b : Bool) (v w : World) → lasting v ≡ lasting w → lasting (if b then v else w) ≡ lasting w
lasts_if true v w same = same
lasts_if false v w same = refl

lasts_ended : (f : World → World) (w : World) (o : Option End) → lasting (f w) ≡ lasting w → lasting (if is_some o then w else f w) ≡ lasting w
lasts_ended f w None same = same
lasts_ended f w (Some end) same = refl

pub lasts_stage : (f : World → World) (w : World) → lasting (f w) ≡ lasting w → lasting (while_going f w) ≡ lasting w
unfolding while_going
lasts_stage f w same = lasts_ended f w w.ending same

pub lasts_sampled : (m : Machine) (h : ℕ) (w : World) → lasting (after_sample m h w) ≡ lasting w
unfolding after_sample
lasts_sampled m h w = lasts_if (eqb (w.retired % m.setup.every) 0) _ w refl

pub lasts_spent : (m : Machine) (w : World) → lasting (after_budget m w) ≡ lasting w
unfolding after_budget
lasts_spent m w = lasts_if (eqb w.retired m.setup.budget) _ w refl

lasts_either : (b : Bool) (u v w : World) → lasting u ≡ lasting w → lasting v ≡ lasting w → lasting (if b then u else v) ≡ lasting w
lasts_either true u v w p q = p
lasts_either false u v w p q = q

pub lasts_returned : (h : ℕ) (w : World) → lasting (after_return h w) ≡ lasting w
unfolding after_return
lasts_returned h w = lasts_either (eqb (return_target (hart_of w.harts h) % 4) 0) _ _ w refl refl

lasts_entering : (m : Machine) (h from to : ℕ) (e : Entered) (w : World) → lasting (after_entering m h from to e w) ≡ lasting w
lasts_entering m h from to (Walking walk) w = refl
lasts_entering m h from to Lost w = lasts_returned h _
lasts_entering m h from to Ignored w = lasts_returned h _

pub lasts_arrived : (m : Machine) (h : ℕ) (w : World) → lasting (after_arrival m h w) ≡ lasting w
unfolding after_arrival
lasts_arrived m h w = search (lasts_either, lasts_entering, lasts_if, lasts_returned)

pub lasts_closed : (w : World) → lasting (after_close w) ≡ lasting w
unfolding after_close
lasts_closed w = lasts_if (is_some w.ending && list_any (λ n. nat_lt 0 n) w.left) _ w refl

pub lasts_instructed : (m : Machine) (h : ℕ) (w : World) → lasting (after_ordinary_turn m h w) ≡ lasting (after_execution m h w)
unfolding after_ordinary_turn
lasts_instructed m h w = search (lasts_stage, lasts_spent, lasts_arrived, lasts_sampled)

-- the last look of a walk, after which the hart returns
pub lasts_over : (h : ℕ) (w : World) → lasting (after_return h (record (with_entry WalkDone w) { left = set w.left h 0 })) ≡ lasting w
lasts_over h w = lasts_returned h (record (with_entry WalkDone w) { left = set w.left h 0 })
