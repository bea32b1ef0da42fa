-- That the log of a run is legal, turn by turn: a call is lost exactly where it meets another one.
use Rattle.std.proofs.Common.{All, ◌%◌, ◌&&◌, ◌++◌, ◌-◌, ◌<◌, ◌≤◌, Bool, List, None, Option, Some, [], append-nil, append_assoc, arith, eqb, false, inl, inr, map, refl, set, subst, suc, sym, true, zero, ℕ, ◌∷◌, ◌≡◌, if◌then◌else◌}
use Rattle.std.specs.List.{list_any}
use Rattle.std.specs.Prelude.{is_some, nat_lt, not, ◌⊎◌, ◌==◌}
use Rattle.elf32_syms.specs.declared.image.Image.{Image}
use Rattle.settings.specs.declared.setup.Setup.{Setup}
use Rattle.mcount_arcs.proofs.EmptyLogLemmas.{IsLegal-nil}
use Rattle.mcount_arcs.proofs.LogLemmas.{IsLegal-push}
use Rattle.mcount_arcs.specs.Log.{CallIgnored, CallLost, Enter, IsLegal, IsLegalAfter, IsSite, LogEntry, MayFollow, Mode, Sample, WalkDone, state_of}
use Rattle.mcount_arcs.specs.Sizes.{offset_of, slot_of}
use Rattle.mcount_arcs.specs.Value.{meets, walk_from}
use Rattle.mcount_arcs.specs.declared.sizes.Sizes.{Sizes}
use Rattle.mcount_arcs.specs.declared.state.State.{State}
use Rattle.mcount_arcs.specs.declared.state.State.TheVariants.{Busy, Error, Off, On}
use Rattle.mcount_arcs.specs.declared.walk.Entered.{Entered}
use Rattle.mcount_arcs.specs.declared.walk.Entered.TheVariants.{Ignored, Lost, Walking}
use Rattle.mcount_arcs.specs.declared.walk.Walk.{Walk}
use Rattle.rv_step.specs.Registers.{register}
use Rattle.prof_machine.proofs.BusyLemmas.{IsOver, IsTold, none_left, over_first, over_turn, takers_below, told_taken}
use Rattle.prof_machine.proofs.HookLemmas.{walk_is}
use Rattle.prof_machine.proofs.RunLemmas.{given_setup}
use Rattle.prof_machine.proofs.WalkLemmas.{all_zero}
use Rattle.prof_machine.proofs.WorldLemmas.{by_executed, by_going, by_returned}
use Rattle.prof_machine.specs.Plan.{after_drive}
use Rattle.prof_machine.specs.Start.{final_world, machine_of, start_of}
use Rattle.prof_machine.specs.Turn.{after_entering, after_arrival, after_close, after_ordinary_turn, is_at, after_return, after_sample, after_budget, after_look, turn_of, while_going, with_entry, world_after}
use Rattle.prof_machine.specs.World.{World, hart_of, looks_of_hart}
use Rattle.prof_machine.specs.declared.summary.End.{End}
use Rattle.prof_machine.specs.declared.summary.End.TheVariants.{Budget}
use Rattle.prof_machine.specs.declared.machine.Machine.{Machine}

-- ---- what a call meets

-- one that is entered has its call site in the text
walk_site : (z : Sizes) (state : State) (from to : ℕ) (walk : Walk) → Walking walk ≡ meets z state from to → IsSite z from
walk_site z On from to walk is = by (nat_lt (offset_of z from) (z.high - z.low)) refl is
  where
    by : (b : Bool) → nat_lt (offset_of z from) (z.high - z.low) ≡ b → Walking walk ≡ (if b then Walking (walk_from (slot_of z from) to) else Ignored) → offset_of z from < z.high - z.low
    by b test is = grind arith
walk_site z Busy from to walk is = absurd cc
walk_site z Error from to walk is = absurd cc
walk_site z Off from to walk is = absurd cc

-- one that is lost meets another one
lost_busy : (z : Sizes) (state : State) (from to : ℕ) → Lost ≡ meets z state from to → state ≡ Busy
lost_busy z On from to is = by (nat_lt (offset_of z from) (z.high - z.low)) is
  where
    by : (b : Bool) → Lost ≡ (if b then Walking (walk_from (slot_of z from) to) else Ignored) → On ≡ Busy
    by b is = grind arith
lost_busy z Busy from to is = refl
lost_busy z Error from to is = absurd cc
lost_busy z Off from to is = absurd cc

abbrev TurnsAway : Sizes → State → ℕ → Type 0
TurnsAway z state from = (state ≡ Off) ⊎ (state ≡ Error) ⊎ ((state ≡ On) × (z.high - z.low ≤ offset_of z from))

ignored_why : (z : Sizes) (state : State) (from to : ℕ) → Ignored ≡ meets z state from to → TurnsAway z state from
ignored_why z On from to is = by (nat_lt (offset_of z from) (z.high - z.low)) refl is
  where
    by : (b : Bool) → nat_lt (offset_of z from) (z.high - z.low) ≡ b → Ignored ≡ (if b then Walking (walk_from (slot_of z from) to) else Ignored) → TurnsAway z On from
    by b test is = grind arith
ignored_why z Busy from to is = absurd cc
ignored_why z Error from to is = inr (inl refl)
ignored_why z Off from to is = inl refl

-- ---- where an entry may stand

at_front : (z : Sizes) (before front : List LogEntry) (e : LogEntry) (back : List LogEntry) → IsLegalAfter z before (front ++ e ∷ back) → MayFollow z (before ++ front) e
at_front z before [] e back legal = subst (λ (log : List LogEntry). MayFollow z log e) (sym (append-nil before)) legal.0
at_front z before (x ∷ front) e back legal = grind (arith, append_assoc, at_front z (before ++ x ∷ []) front e back legal.1)

-- each entry of a legal log may stand behind those in front of it
may_stand : (z : Sizes) (log front : List LogEntry) (e : LogEntry) (back : List LogEntry) → IsLegal z log → log ≡ front ++ e ∷ back → MayFollow z front e
unfolding IsLegal
may_stand z log front e back legal is = at_front z [] front e back (subst (IsLegalAfter z []) is legal)

-- ---- stage by stage

module _ (m : Machine) where
  abbrev IsLegalIn : World → Type 0
  IsLegalIn w = IsLegal m.sizes w.log

  legal_as : (w v : World) → v.log ≡ w.log → IsLegalIn w → IsLegalIn v
  legal_as w v same legal = subst (IsLegal m.sizes) (sym same) legal

  legal_returned : (h : ℕ) (w : World) → IsLegalIn w → IsLegalIn (after_return h w)
  legal_returned h w legal = legal_as w (after_return h w) (by_returned h w).2 legal

  legal_sampled : (h : ℕ) (w : World) → IsLegalIn w → IsLegalIn (after_sample m h w)
  unfolding after_sample
  legal_sampled h w legal = by_test (eqb (w.retired % m.setup.every) 0)
    where
      by_test : (b : Bool) → IsLegalIn (if b then with_entry (Sample (hart_of w.harts h).pc) w else w)
      by_test true = IsLegal-push m.sizes w.log (Sample (hart_of w.harts h).pc) legal tt
      by_test false = legal

  legal_spent : (w : World) → IsLegalIn w → IsLegalIn (after_budget m w)
  unfolding after_budget
  legal_spent w legal = by_test (eqb w.retired m.setup.budget)
    where
      by_test : (b : Bool) → IsLegalIn (if b then record w { ending = Some Budget } else w)
      by_test b = grind arith

  legal_back : (h : ℕ) (w : World) (e : LogEntry) → MayFollow m.sizes w.log e → IsLegalIn w → IsLegalIn (after_return h (with_entry e w))
  legal_back h w e may legal = legal_returned h (with_entry e w) (IsLegal-push m.sizes w.log e legal may)

  legal_entering : (h from to : ℕ) (e : Entered) (w : World) → e ≡ meets m.sizes (state_of m.sizes w.log) from to → IsLegalIn w → IsLegalIn (after_entering m h from to e w)
  legal_entering h from to (Walking walk) w met legal =
      let on = (walk_is m.sizes (state_of m.sizes w.log) from to walk met).0 in
      let site = walk_site m.sizes (state_of m.sizes w.log) from to walk met in
      IsLegal-push m.sizes w.log (Enter from to) legal (on, site)
  legal_entering h from to Lost w met legal = legal_back h w (CallLost from to) (lost_busy m.sizes (state_of m.sizes w.log) from to met) legal
  legal_entering h from to Ignored w met legal = legal_back h w (CallIgnored from to) (ignored_why m.sizes (state_of m.sizes w.log) from to met) legal

  legal_arrived : (h : ℕ) (w : World) → IsLegalIn w → IsLegalIn (after_arrival m h w)
  unfolding after_arrival
  legal_arrived h w legal =
      let s = hart_of w.harts h in
      let from = register s 10 in
      let to = register s 1 in
      by_hook (is_at m.mcount s.pc) (is_at m.moncontrol s.pc) _ _ (legal_entering h from to (meets m.sizes (state_of m.sizes w.log) from to) w refl legal)
      (legal_back h w (Mode (not (from == 0))) tt legal)
    where
      by_hook : (b c : Bool) (u v : World) → IsLegalIn u → IsLegalIn v → IsLegalIn (if b then u else (if c then v else w))
      by_hook b c u v p q = grind arith

  legal_stage : (f : World → World) (w : World) → IsLegalIn (f w) → IsLegalIn w → IsLegalIn (while_going f w)
  legal_stage f w after before = by_going f w IsLegalIn (λ on. after) (λ end off. before)

  legal_instructed : (h : ℕ) (w : World) → IsLegalIn w → IsLegalIn (after_ordinary_turn m h w)
  unfolding after_ordinary_turn
  legal_instructed h w legal = grind (arith, legal_stage, legal_sampled, legal_arrived, legal_spent, by_executed)

  legal_taken : (n h k : ℕ) (w : World) → h < n → looks_of_hart w.left h ≡ k → IsTold n w.log w.left → IsLegalIn w → IsLegalIn (after_look m h k w)
  legal_taken n h zero w inside is told legal = legal_instructed h w legal
  legal_taken n h (suc zero) w inside is (inl (idle, none)) legal = absurd (none_left n h 0 w.left none is)
  legal_taken n h (suc zero) w inside is (inr (busy, held)) legal =
      let v : World = record (with_entry WalkDone w) { left = set w.left h 0 } in
      legal_returned h v (IsLegal-push m.sizes w.log WalkDone legal busy)
  legal_taken n h (suc (suc k)) w inside is told legal = legal

  -- ---- the end

  legal_over : (n : ℕ) (w : World) (o : Option End) → IsTold n w.log w.left → IsLegalIn w
      → IsLegalIn (if is_some o && list_any (λ x. nat_lt 0 x) w.left then record (with_entry WalkDone w) { left = map (λ x. 0) w.left } else w)
  legal_over n w None told legal = legal
  legal_over n w (Some end) (inl (idle, none)) legal = grind (arith, all_zero)
  legal_over n w (Some end) (inr (busy, held)) legal = by_test (list_any (λ x. nat_lt 0 x) w.left)
    where
      by_test : (b : Bool) → IsLegalIn (if b then record (with_entry WalkDone w) { left = map (λ x. 0) w.left } else w)
      by_test true = IsLegal-push m.sizes w.log WalkDone legal busy
      by_test false = legal

  legal_closed : (n : ℕ) (w : World) → IsTold n w.log w.left → IsLegalIn w → IsLegalIn (after_close w)
  unfolding after_close
  legal_closed n w told legal = legal_over n w w.ending told legal

  legal_turn : (n : ℕ) (w : World) (h : ℕ) → h < n → IsOver n w → IsLegalIn w → IsLegalIn (turn_of m w h)
  unfolding turn_of
  legal_turn n w h inside over legal =
      let k = looks_of_hart w.left h in
      by_going (λ v. after_close (after_look m h (looks_of_hart v.left h) v)) w IsLegalIn
      (λ on. legal_closed n (after_look m h k w) (told_taken n m h k w inside refl over.0) (legal_taken n h k w inside refl over.0 legal)) (λ end off. legal)

  legal_after : (n : ℕ) (w : World) (turns : List ℕ) → All (λ h. h < n) turns → IsOver n w → IsLegalIn w → IsLegalIn (world_after m w turns)
  legal_after n w [] below over legal = legal
  legal_after n w (h ∷ turns) below over legal =
      let inside = below 0 0 (omega arith) in
      legal_after n (turn_of m w h) turns (λ k d inside. below (suc k) d (omega (arith, inside))) (over_turn n m w h inside over) (legal_turn n w h inside over legal)

legal_first : (image : Image) (bytes : List ℕ) (setup : Setup) → IsLegal (machine_of image setup).sizes (start_of image bytes setup).log
unfolding start_of
legal_first image bytes setup = IsLegal-nil (machine_of image setup).sizes

pub logs_are_legal : (image : Image) (bytes : List ℕ) (setup : Setup) (turns : List ℕ) → All (λ h. h < setup.harts) turns
    → IsLegal (machine_of image setup).sizes (world_after (machine_of image setup) (start_of image bytes setup) turns).log
logs_are_legal image bytes setup turns below =
    legal_after (machine_of image setup) setup.harts (start_of image bytes setup) turns below (over_first image bytes setup) (legal_first image bytes setup)

pub planned_logs_are_legal : (image : Image) (bytes : List ℕ) (setup : Setup) → 1 ≤ setup.harts → IsLegal (machine_of image setup).sizes (final_world image bytes setup).log
unfolding after_drive
planned_logs_are_legal image bytes setup some = search (given_setup, takers_below, logs_are_legal)

pub entries_may_stand : (image : Image) (bytes : List ℕ) (setup : Setup) (turns : List ℕ) → All (λ h. h < setup.harts) turns
    → (front : List LogEntry) (e : LogEntry) (back : List LogEntry) → (world_after (machine_of image setup) (start_of image bytes setup) turns).log ≡ front ++ e ∷ back → MayFollow (machine_of image setup).sizes front e
entries_may_stand image bytes setup turns below front e back is = search (may_stand, logs_are_legal)
