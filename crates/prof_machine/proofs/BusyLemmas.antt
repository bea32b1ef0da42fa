-- That no call is being entered once a run has ended: the looks that are left say whether one is.
use Rattle.std.proofs.Common.{All, ◌%◌, ◌&&◌, ◌<◌, ◌≤◌, Bool, List, Option, Some, [], ap, arith, eqb, false, get_or, inl, inr, length, map, refl, replicate, set, suc, sym, true, zero, ℕ, ◌∙◌, ◌∷◌, ◌≡◌, ◌≢◌, if◌then◌else◌}
use Rattle.std.proofs.lemmas.Bool.Decides.{nat_tests}
use Rattle.std.proofs.lemmas.List.{get_or-set_same, length-replicate, length-set, set-set}
use Rattle.std.proofs.lemmas.List.Folds.{list_any_at}
use Rattle.std.proofs.lemmas.List.FromFn.{get_or-map-range_with_len, length-map-range_with_len}
use Rattle.std.specs.List.{filter_map, list_any}
use Rattle.std.specs.Option.{IsSome}
use Rattle.std.specs.Prelude.{is_some, nat_lt, not, ◌⊎◌, ◌==◌}
use Rattle.elf32_syms.specs.declared.image.Image.{Image}
use Rattle.settings.specs.declared.setup.Setup.{Setup}
use Rattle.mcount_arcs.proofs.LogLemmas.{IsQuiet, is_busy-quiet, last_of-push, looks_of-chain, more, one_more, state_of-by}
use Rattle.mcount_arcs.proofs.LookLemmas.{looks_bounds}
use Rattle.mcount_arcs.specs.Arcs.{looks_of}
use Rattle.mcount_arcs.specs.Lists.{last_of}
use Rattle.mcount_arcs.specs.Log.{CallIgnored, CallLost, Enter, LogEntry, Mode, Sample, WalkDone, is_busy, kept_calls, state_of, walk_in}
use Rattle.mcount_arcs.specs.Value.{meets}
use Rattle.mcount_arcs.specs.declared.state.State.TheVariants.{Busy}
use Rattle.mcount_arcs.specs.declared.sizes.Sizes.{Sizes}
use Rattle.mcount_arcs.specs.declared.walk.Entered.{Entered}
use Rattle.mcount_arcs.specs.declared.walk.Entered.TheVariants.{Ignored, Lost, Walking}
use Rattle.rv_step.specs.Registers.{register}
use Rattle.prof_machine.proofs.RunLemmas.{given_setup}
use Rattle.prof_machine.proofs.WalkLemmas.{all_zero, none_at, none_here, on_idle, zero_again, zeros_set}
use Rattle.prof_machine.proofs.WorldLemmas.{by_executed, by_going, by_returned}
use Rattle.prof_machine.specs.Plan.{after_drive, plan_of}
use Rattle.prof_machine.specs.Start.{final_world, machine_of, start_of}
use Rattle.prof_machine.specs.Turn.{after_entering, after_arrival, after_close, after_execution, after_ordinary_turn, is_at, after_return, after_sample, after_budget, after_look, turn_of, while_going, with_entry, world_after}
use Rattle.prof_machine.specs.World.{World, hart_of, looks_of_hart}
use Rattle.prof_machine.specs.declared.summary.End.{End}
use Rattle.prof_machine.specs.declared.summary.End.TheVariants.{Budget}
use Rattle.prof_machine.specs.declared.machine.Machine.{Machine}

-- no call is being entered, and no looks are left
abbrev pub IsIdle : ℕ → List LogEntry → List ℕ → Type 0
IsIdle n log left = (is_busy log ≡ false) × (left ≡ replicate n 0)

-- one is, and its hart alone has looks left
abbrev pub IsBusy : ℕ → List LogEntry → List ℕ → Type 0
IsBusy n log left = (is_busy log ≡ true) × ((h : ℕ) × (k : ℕ) × (h < n) × (left ≡ set (replicate n 0) h (suc k)))

abbrev pub IsTold : ℕ → List LogEntry → List ℕ → Type 0
IsTold n log left = IsIdle n log left ⊎ IsBusy n log left

-- ---- what a log says behind one more entry

busy-quiet : (z : Sizes) (log : List LogEntry) (e : LogEntry) (n : ℕ) (left : List ℕ) → IsQuiet z e → IsTold n log left → IsTold n (more log e) left
busy-quiet z log e n left quiet is = grind (arith, is_busy-quiet)

busy-entered : (log : List LogEntry) (from to : ℕ) → is_busy (more log (Enter from to)) ≡ true
busy-entered log from to = ap (last_of false) (one_more walk_in log (Enter from to) true refl) ∙ last_of-push false (filter_map walk_in log) true

busy-done : (log : List LogEntry) → is_busy (more log WalkDone) ≡ false
busy-done log = ap (last_of false) (one_more walk_in log WalkDone false refl) ∙ last_of-push false (filter_map walk_in log) false

-- ---- stage by stage

told_returned : (n h : ℕ) (w : World) → IsTold n w.log w.left → IsTold n (after_return h w).log (after_return h w).left
told_returned n h w told = grind (arith, by_returned)

told_executed : (n : ℕ) (m : Machine) (h : ℕ) (w : World) → IsTold n w.log w.left → IsTold n (after_execution m h w).log (after_execution m h w).left
told_executed n m h w told = grind (arith, by_executed)

told_sampled : (n : ℕ) (m : Machine) (h : ℕ) (w : World) → IsTold n w.log w.left → IsTold n (after_sample m h w).log (after_sample m h w).left
unfolding after_sample
told_sampled n m h w told = by_test (eqb (w.retired % m.setup.every) 0)
  where
    by_test : (b : Bool) → (let v = if b then with_entry (Sample (hart_of w.harts h).pc) w else w in IsTold n v.log v.left)
    by_test true = busy-quiet m.sizes w.log (Sample (hart_of w.harts h).pc) n w.left (record { walk = refl; pair = refl }) told
    by_test false = told

told_spent : (n : ℕ) (m : Machine) (w : World) → IsTold n w.log w.left → IsTold n (after_budget m w).log (after_budget m w).left
unfolding after_budget
told_spent n m w told = by_test (eqb w.retired m.setup.budget)
  where
    by_test : (b : Bool) → (let v = if b then record w { ending = Some Budget } else w in IsTold n v.log v.left)
    by_test b = grind arith

told_back : (n : ℕ) (m : Machine) (h : ℕ) (w : World) (e : LogEntry) → IsQuiet m.sizes e → IsTold n w.log w.left → (let v = after_return h (with_entry e w) in IsTold n v.log v.left)
told_back n m h w e quiet told = told_returned n h (with_entry e w) (busy-quiet m.sizes w.log e n w.left quiet told)

some_looks : (z : Sizes) (log : List LogEntry) (slot to : ℕ) → (k : ℕ) × (looks_of z log slot to ≡ suc k)
some_looks z log slot to = by_number (looks_of z log slot to) (omega (arith, looks_of-chain z log slot to, (looks_bounds (kept_calls z log) slot to).0))
  where
    by_number : (n : ℕ) → 1 ≤ n → (k : ℕ) × (n ≡ suc k)
    by_number zero some = absurd (omega (arith, some))
    by_number (suc k) some = (k, refl)

told_walking : (n : ℕ) (m : Machine) (h from to slot aim : ℕ) (w : World) → h < n → IsTold n w.log w.left → is_busy w.log ≡ false
    → IsTold n (more w.log (Enter from to)) (set w.left h (looks_of m.sizes w.log slot aim))
told_walking n m h from to slot aim w inside (inr (busy, held)) idle = absurd (let e : true ≡ false = sym busy ∙ idle in cc)
told_walking n m h from to slot aim w inside (inl (quiet, none)) idle =
    let looks = some_looks m.sizes w.log slot aim in
    inr (busy-entered w.log from to, (h, looks.0, inside, ap (λ (xs : List ℕ). set xs h (looks_of m.sizes w.log slot aim)) none ∙ ap (λ (k : ℕ). set (replicate n 0) h k) looks.1))

told_entering : (n : ℕ) (m : Machine) (h from to : ℕ) (e : Entered) (w : World) → h < n → e ≡ meets m.sizes (state_of m.sizes w.log) from to → IsTold n w.log w.left
    → (let v = after_entering m h from to e w in IsTold n v.log v.left)
told_entering n m h from to (Walking walk) w inside met told = grind (arith, told_walking, on_idle)
told_entering n m h from to Lost w inside met told = told_back n m h w (CallLost from to) (record { walk = refl; pair = refl }) told
told_entering n m h from to Ignored w inside met told = told_back n m h w (CallIgnored from to) (record { walk = refl; pair = refl }) told

told_arrived : (n : ℕ) (m : Machine) (h : ℕ) (w : World) → h < n → IsTold n w.log w.left → IsTold n (after_arrival m h w).log (after_arrival m h w).left
unfolding after_arrival
told_arrived n m h w inside told =
    let s = hart_of w.harts h in
    let from = register s 10 in
    let to = register s 1 in
    by_hook (is_at m.mcount s.pc) (is_at m.moncontrol s.pc) _ _ (told_entering n m h from to (meets m.sizes (state_of m.sizes w.log) from to) w inside refl told)
    (told_back n m h w (Mode (not (from == 0))) (record { walk = refl; pair = refl }) told)
  where
    by_hook : (b c : Bool) (u v : World) → IsTold n u.log u.left → IsTold n v.log v.left → (let x = if b then u else (if c then v else w) in IsTold n x.log x.left)
    by_hook b c u v p q = grind arith

told_stage : (n : ℕ) (f : World → World) (w : World) → IsTold n (f w).log (f w).left → IsTold n w.log w.left → IsTold n (while_going f w).log (while_going f w).left
told_stage n f w after before = by_going f w (λ v. IsTold n v.log v.left) (λ on. after) (λ end off. before)

told_instructed : (n : ℕ) (m : Machine) (h : ℕ) (w : World) → h < n → IsTold n w.log w.left → IsTold n (after_ordinary_turn m h w).log (after_ordinary_turn m h w).left
unfolding after_ordinary_turn
told_instructed n m h w inside told =
    let a = after_execution m h w in
    let b = while_going (after_sample m h) a in
    let c = while_going (after_arrival m h) b in
    let first : IsTold n a.log a.left = told_executed n m h w told in
    let second : IsTold n b.log b.left = told_stage n (after_sample m h) a (told_sampled n m h a first) first in
    search (told_stage, told_arrived, told_spent)

-- a hart that has looks left is the one
same_hart : (n h k x y : ℕ) (left : List ℕ) → h < n → left ≡ set (replicate n 0) h (suc k) → looks_of_hart left x ≡ suc y → x ≡ h
same_hart n h k x y left inside is some = by_test (eqb h x) refl
  where
    by_test : (b : Bool) → eqb h x ≡ b → x ≡ h
    by_test b same = grind (arith, none_here)

pub none_left : (n h k : ℕ) (left : List ℕ) → left ≡ replicate n 0 → looks_of_hart left h ≡ suc k → ⊥
none_left n h k left is some = let none : looks_of_hart left h ≡ 0 = ap (λ (xs : List ℕ). looks_of_hart xs h) is ∙ none_at n h in omega (arith, none, some)

pub told_taken : (n : ℕ) (m : Machine) (h k : ℕ) (w : World) → h < n → looks_of_hart w.left h ≡ k → IsTold n w.log w.left → IsTold n (after_look m h k w).log (after_look m h k w).left
told_taken n m h zero w inside is told = told_instructed n m h w inside told
told_taken n m h (suc zero) w inside is (inl (idle, none)) = absurd (none_left n h 0 w.left none is)
told_taken n m h (suc zero) w inside is (inr (busy, (x, y, below, left))) =
    let same = same_hart n x y h 0 w.left below left is in
    grind (arith, set, replicate, zero_again, told_returned, busy-done)
told_taken n m h (suc (suc k)) w inside is (inl (idle, none)) = absurd (none_left n h (suc k) w.left none is)
told_taken n m h (suc (suc k)) w inside is (inr (busy, (x, y, below, left))) =
    let same = same_hart n x y h (suc k) w.left below left is in
    inr (busy, (h, k, inside, ap (λ (xs : List ℕ). set xs h (suc k)) (left ∙ ap (λ (j : ℕ). set (replicate n 0) j (suc y)) (sym same)) ∙ set-set (replicate n 0) h (suc y) (suc k)))

-- ---- the end

-- once it has ended no call is being entered
abbrev pub IsOver : ℕ → World → Type 0
IsOver n w = IsTold n w.log w.left × (IsSome w.ending → is_busy w.log ≡ false)

held_any : (n h k : ℕ) (left : List ℕ) → h < n → left ≡ set (replicate n 0) h (suc k) → list_any (λ x. nat_lt 0 x) left ≡ true
held_any n h k left inside is =
    let xs = set (replicate n 0) h (suc k) in
    let short : h < length {A = ℕ} (replicate n 0) = omega (arith, length-replicate {A = ℕ} n 0) in
    let here : get_or xs h 0 ≡ suc k = get_or-set_same (replicate n 0) h (suc k) 0 short in
    grind (arith, length-set, replicate, nat_tests, list_any_at)

over_by : (n : ℕ) (w : World) (o : Option End) → w.ending ≡ o → IsTold n w.log w.left
    → IsOver n (if is_some o && list_any (λ x. nat_lt 0 x) w.left then record (with_entry WalkDone w) { left = map (λ x. 0) w.left } else w)
over_by n w o is told = grind (arith, all_zero, held_any, zeros_set, busy-done)

over_closed : (n : ℕ) (w : World) → IsTold n w.log w.left → IsOver n (after_close w)
unfolding after_close
over_closed n w told = over_by n w w.ending refl told

pub over_turn : (n : ℕ) (m : Machine) (w : World) (h : ℕ) → h < n → IsOver n w → IsOver n (turn_of m w h)
unfolding turn_of
over_turn n m w h inside over =
    by_going (λ v. after_close (after_look m h (looks_of_hart v.left h) v)) w (λ v. IsOver n v)
    (λ on. over_closed n (after_look m h (looks_of_hart w.left h) w) (told_taken n m h (looks_of_hart w.left h) w inside refl over.0)) (λ end off. over)

over_after : (n : ℕ) (m : Machine) (w : World) (turns : List ℕ) → All (λ h. h < n) turns → IsOver n w → IsOver n (world_after m w turns)
over_after n m w [] below over = over
over_after n m w (h ∷ turns) below over =
    over_after n m (turn_of m w h) turns (λ k d inside. below (suc k) d (omega (arith, inside))) (over_turn n m w h (below 0 0 (omega arith)) over)

pub over_first : (image : Image) (bytes : List ℕ) (setup : Setup) → IsOver setup.harts (start_of image bytes setup)
unfolding start_of
over_first image bytes setup = (inl (refl, refl), λ some. refl)

pub none_ends_busy : (image : Image) (bytes : List ℕ) (setup : Setup) (turns : List ℕ) → All (λ h. h < setup.harts) turns
    → (let w = world_after (machine_of image setup) (start_of image bytes setup) turns in IsSome w.ending → state_of (machine_of image setup).sizes w.log ≢ Busy)
none_ends_busy image bytes setup turns below ended = grind (arith, over_after, over_first, state_of-by)

pub takers_below : (setup : Setup) (n : ℕ) → 1 ≤ setup.harts → All (λ h. h < setup.harts) (plan_of setup n)
unfolding plan_of
takers_below setup n some = grind (arith, length-map-range_with_len, get_or-map-range_with_len)

pub no_plan_ends_busy : (image : Image) (bytes : List ℕ) (setup : Setup) → 1 ≤ setup.harts → (let w = final_world image bytes setup in IsSome w.ending → state_of (machine_of image setup).sizes w.log ≢ Busy)
unfolding after_drive
no_plan_ends_busy image bytes setup some = grind (arith, given_setup, takers_below, none_ends_busy)
