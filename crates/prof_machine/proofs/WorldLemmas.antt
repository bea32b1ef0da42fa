-- The stages of a turn, on worlds alone: what each leaves, by cases.
use Rattle.std.proofs.Common.{◌%◌, ◌&&◌, ◌+◌, ◌++◌, Bool, List, None, Option, Some, [], ap, arith, cond, eqb, false, inl, inr, map, refl, set, ℕ, ◌∙◌, ◌∷◌, ◌≡◌, if◌then◌else◌}
use Rattle.std.specs.Option.{IsSome}
use Rattle.std.specs.List.{count_by, list_any}
use Rattle.std.specs.Prelude.{is_some, nat_lt, ◌⊎◌}
use Rattle.std.proofs.lemmas.List.Sums.{sum_by_push}
use Rattle.mcount_arcs.specs.Arcs.{looks_of}
use Rattle.mcount_arcs.specs.Log.{CallIgnored, CallLost, Enter, LogEntry, WalkDone}
use Rattle.mcount_arcs.specs.declared.walk.Entered.{Entered}
use Rattle.mcount_arcs.specs.declared.walk.Entered.TheVariants.{Ignored, Lost, Walking}
use Rattle.rv_step.specs.Memory.{Memory}
use Rattle.rv_step.specs.Registers.{Registers}
use Rattle.rv_step.specs.Step.{step_of}
use Rattle.rv_step.specs.declared.stepped.Stepped.{Stepped}
use Rattle.rv_step.specs.declared.stepped.TrapKind.{TrapKind}
use Rattle.rv_step.specs.declared.stepped.TrapKind.TheVariants.{JumpMisaligned}
use Rattle.prof_machine.specs.Ecalls.{ecall_of}
use Rattle.prof_machine.specs.Turn.{after_call, after_ecall, after_entering, after_step, after_arrival, after_close, after_execution, after_return, return_target, turn_of, while_going, with_entry, world_after}
use Rattle.prof_machine.specs.Value.{is_sample}
use Rattle.prof_machine.specs.World.{World, hart_of}
use Rattle.prof_machine.specs.declared.ecalls.Call.{Call}
use Rattle.prof_machine.specs.declared.summary.End.{End}
use Rattle.prof_machine.specs.declared.summary.End.TheVariants.{Exit, Trap}
use Rattle.prof_machine.specs.declared.machine.Machine.{Machine}

-- how a run ended, where it has
pub the_end : (o : Option End) → IsSome o → (end : End) × (o ≡ Some end)
the_end o is = grind arith

pub going_stage : (f : World → World) (w : World) → w.ending ≡ None → while_going f w ≡ f w
unfolding while_going
going_stage f w is = ap (λ (o : Option End). if is_some o then w else f w) is

pub ended_stage : (f : World → World) (w : World) → IsSome w.ending → while_going f w ≡ w
unfolding while_going
ended_stage f w is = ap (λ (o : Option End). if is_some o then w else f w) (the_end w.ending is).1

-- it hasn't ended
pub closed_going : (w : World) → w.ending ≡ None → after_close w ≡ w
unfolding after_close
closed_going w is = ap (λ (o : Option End). if is_some o && list_any (λ k. nat_lt 0 k) w.left then record (with_entry WalkDone w) { left = map (λ n. 0) w.left } else w) is

going_by : (f : World → World) (w : World) (Q : World → Type 0) (o : Option End) → w.ending ≡ o → (w.ending ≡ None → Q (f w)) → ((end : End) → w.ending ≡ Some end → Q w) → Q (if is_some o then w else f w)
going_by f w Q o is on off = grind arith

-- a stage, by whether the run goes on
pub by_going : (f : World → World) (w : World) (Q : World → Type 0) → (w.ending ≡ None → Q (f w)) → ((end : End) → w.ending ≡ Some end → Q w) → Q (while_going f w)
unfolding while_going
by_going f w Q on off = going_by f w Q w.ending refl on off

-- an instruction retires, traps or exits
abbrev WentOn : World → World → Type 0
WentOn w v = (v.retired ≡ w.retired + 1) × (v.ending ≡ w.ending) × (v.log ≡ w.log) × (v.left ≡ w.left)

abbrev Exited : World → World → Type 0
Exited w v = (v.retired ≡ w.retired + 1) × ((status : ℕ) × (v.ending ≡ Some (Exit status))) × (v.log ≡ w.log) × (v.left ≡ w.left)

abbrev HasTrapped : World → World → Type 0
HasTrapped w v = (v.retired ≡ w.retired) × ((kind : TrapKind) × (pc : ℕ) × (v.ending ≡ Some (Trap kind pc))) × (v.log ≡ w.log) × (v.left ≡ w.left)

by_call : (h : ℕ) (w : World) (call : Call) → WentOn w (after_call h call w) ⊎ Exited w (after_call h call w)
by_call h w call = grind arith

by_ecall : (m : Machine) (h : ℕ) (w : World) → WentOn w (after_ecall m h w) ⊎ Exited w (after_ecall m h w)
unfolding after_ecall
by_ecall m h w = by_call h w (ecall_of m (hart_of w.harts h) w.break_at)

by_step : (m : Machine) (h : ℕ) (w : World) (answer : Stepped) (s : Registers) (memory : Memory)
    → WentOn w (after_step m h answer s memory w) ⊎ (Exited w (after_step m h answer s memory w) ⊎ HasTrapped w (after_step m h answer s memory w))
by_step m h w answer s memory = grind (arith, by_ecall)

pub by_executed : (m : Machine) (h : ℕ) (w : World) → WentOn w (after_execution m h w) ⊎ (Exited w (after_execution m h w) ⊎ HasTrapped w (after_execution m h w))
unfolding after_execution
by_executed m h w = let o = step_of (hart_of w.harts h) w.memory in by_step m h w o.answer o.registers o.memory

-- a hart is at no hook, or returns from one, or begins to enter a call
abbrev Returned : World → World → Type 0
Returned w v = (v.retired ≡ w.retired) × ((v.ending ≡ w.ending) ⊎ ((kind : TrapKind) × (pc : ℕ) × (v.ending ≡ Some (Trap kind pc)))) × (v.log ≡ w.log) × (v.left ≡ w.left)

returned_test : (h : ℕ) (w : World) (harts : List Registers) (pc : ℕ) (b : Bool) → Returned w (if b then record w { harts = harts } else record w { ending = Some (Trap JumpMisaligned pc) })
returned_test h w harts pc b = grind arith

pub by_returned : (h : ℕ) (w : World) → Returned w (after_return h w)
unfolding after_return
by_returned h w = let s = hart_of w.harts h in returned_test h w (set w.harts h (record s { pc = return_target s })) s.pc (eqb (return_target s % 4) 0)

-- what is served adds at most one entry, which is no sample
abbrev Served : Machine → ℕ → World → World → Type 0
Served m h w v =
    (v.retired ≡ w.retired) × ((v.ending ≡ w.ending) ⊎ ((kind : TrapKind) × (pc : ℕ) × (v.ending ≡ Some (Trap kind pc)))) × (count_by is_sample v.log ≡ count_by is_sample w.log)
    × ((v.left ≡ w.left) ⊎ ((slot : ℕ) × (to : ℕ) × (v.left ≡ set w.left h (looks_of m.sizes w.log slot to))))

pub no_sample : (log : List LogEntry) (e : LogEntry) → is_sample e ≡ false → count_by is_sample (log ++ e ∷ []) ≡ count_by is_sample log
no_sample log e is = sum_by_push (λ x. cond (is_sample x) 1 0) log e ∙ ap (λ (b : Bool). count_by is_sample log + cond b 1 0) is ∙ omega arith

back_from : (m : Machine) (h : ℕ) (w : World) (e : LogEntry) → is_sample e ≡ false → Served m h w (after_return h (with_entry e w))
back_from m h w e is = grind (arith, by_returned, no_sample)

by_entering : (m : Machine) (h from to : ℕ) (w : World) (e : Entered) → Served m h w (after_entering m h from to e w)
by_entering m h from to w (Walking walk) = (refl, inl refl, no_sample w.log (Enter from to) refl, inr (walk.slot, to, refl))
by_entering m h from to w Lost = back_from m h w (CallLost from to) refl
by_entering m h from to w Ignored = back_from m h w (CallIgnored from to) refl

by_hooks : (m : Machine) (h : ℕ) (w u v : World) (b c : Bool) → Served m h w u → Served m h w v → Served m h w (if b then u else (if c then v else w))
by_hooks m h w u v b c p q = grind arith

pub by_arrived : (m : Machine) (h : ℕ) (w : World) → Served m h w (after_arrival m h w)
unfolding after_arrival
by_arrived m h w = search (by_hooks, by_entering, back_from)

-- ---- turns one after the other

pub world_after-append : (m : Machine) (w : World) (front back : List ℕ) → world_after m w (front ++ back) ≡ world_after m (world_after m w front) back
world_after-append m w [] back = refl
world_after-append m w (h ∷ front) back = world_after-append m (turn_of m w h) front back

-- a world in which the run has ended stays
pub ended_turn : (m : Machine) (w : World) (h : ℕ) (end : End) → w.ending ≡ Some end → turn_of m w h ≡ w
unfolding turn_of
ended_turn m w h end is = ended_stage _ w cc

pub ended_stays : (m : Machine) (w : World) (turns : List ℕ) (end : End) → w.ending ≡ Some end → world_after m w turns ≡ w
ended_stays m w [] end is = refl
ended_stays m w (h ∷ turns) end is = ap (λ (v : World). world_after m v turns) (ended_turn m w h end is) ∙ ended_stays m w turns end is
