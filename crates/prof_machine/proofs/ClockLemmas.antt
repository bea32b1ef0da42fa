-- When a sample is due, and how many samples a log has by the instructions that retired.
use Rattle.std.proofs.Common.{◌%◌, ◌&&◌, ◌+◌, ◌/◌, ◌<◌, Bool, List, None, Option, Some, [], ap, arith, eqb, false, map, refl, subst, sym, true, ℕ, ◌∙◌, ◌∷◌, ◌≡◌, ◌≤◌, if◌then◌else◌}
use Rattle.std.proofs.Math.Nat.{mod_self}
use Rattle.std.proofs.lemmas.Bool.{eq-eqb}
use Rattle.std.specs.List.{count_by, list_any}
use Rattle.std.specs.Prelude.{is_some, nat_lt}
use Rattle.std.proofs.lemmas.List.Sums.{sum_by_push}
use Rattle.mcount_arcs.specs.Log.{Sample, WalkDone}
use Rattle.prof_machine.proofs.WorldLemmas.{by_arrived, by_executed, by_going, by_returned, no_sample}
use Rattle.prof_machine.specs.Turn.{after_arrival, after_close, after_execution, after_ordinary_turn, after_sample, after_budget, after_look, turn_of, while_going, with_entry, world_after}
use Rattle.prof_machine.specs.Value.{is_sample}
use Rattle.prof_machine.specs.World.{World, looks_of_hart}
use Rattle.prof_machine.specs.declared.summary.End.{End}
use Rattle.prof_machine.specs.declared.summary.End.TheVariants.{Budget, Exit, Trap}
use Rattle.prof_machine.specs.declared.machine.Machine.{Machine}

-- ---- what is left up to the next sample

-- none is left
pub due_now : (r d e : ℕ) → (r + d) % e ≡ 0 → d ≡ 0 → eqb (r % e) 0 ≡ true
due_now r d e is none = grind arith

-- some are left
pub not_due : (r d e : ℕ) → (r + d) % e ≡ 0 → 1 ≤ d → d < e → eqb (r % e) 0 ≡ false
not_due r d e is some most = grind arith

-- after the last one as many are left as before the first
pub again : (r d e : ℕ) → (r + d) % e ≡ 0 → d ≡ 0 → (r + e) % e ≡ 0
again r d e is none = grind arith

-- before the first instruction
pub first : (e : ℕ) → (0 + e) % e ≡ 0
first e = let same : 0 + e ≡ e = omega arith in ap (λ (n : ℕ). n % e) same ∙ mod_self e

-- ---- the clock

quotient_stays : (n e : ℕ) → 1 ≤ e → ((n + 1) % e ≡ 0 → ⊥) → n / e ≡ (n + 1) / e
quotient_stays n e some off = grind arith

quotient_rises : (n e : ℕ) → 1 ≤ e → (n + 1) % e ≡ 0 → (n + 1) / e ≡ n / e + 1
quotient_rises n e some on = grind arith

-- one sample is still to be taken; and none is
abbrev Early : Machine → World → Type 0
Early m w = (n : ℕ) × (w.retired ≡ n + 1) × (n < m.setup.budget) × (count_by is_sample w.log ≡ n / m.setup.every)

abbrev OnTime : Machine → World → Type 0
OnTime m w = (count_by is_sample w.log ≡ w.retired / m.setup.every) × (w.retired ≤ m.setup.budget)

-- how the clock stands between two turns: an exit is the one instruction that is no tick
abbrev pub Timed : Machine → World → Option End → Type 0
Timed m w None = (count_by is_sample w.log ≡ w.retired / m.setup.every) × (w.retired < m.setup.budget)
Timed m w (Some Budget) = (count_by is_sample w.log ≡ w.retired / m.setup.every) × (w.retired ≡ m.setup.budget)
Timed m w (Some (Exit status)) = Early m w
Timed m w (Some (Trap kind pc)) = OnTime m w

-- within a turn
abbrev Within : (Machine → World → Type 0) → Machine → World → Option End → Type 0
Within P m w None = P m w
Within P m w (Some end) = Timed m w (Some end)

timed_as : (P : Machine → World → Type 0) (m : Machine) (w : World) (end : End) → w.ending ≡ Some end → Within P m w w.ending → (Q : Machine → World → Type 0) → Within Q m w w.ending
timed_as P m w end is within Q = grind arith

timed_executed : (m : Machine) (h : ℕ) (w : World) → w.ending ≡ None → Timed m w None → Within Early m (after_execution m h w) (after_execution m h w).ending
timed_executed m h w going timed = grind (arith, by_executed)

sampled_test : (m : Machine) (w : World) (pc : ℕ) (b : Bool) → eqb (w.retired % m.setup.every) 0 ≡ b → 1 ≤ m.setup.every → Early m w → OnTime m (if b then with_entry (Sample pc) w else w)
sampled_test m w pc true is some (n, r, few, count) = grind (arith, sum_by_push, quotient_rises)
sampled_test m w pc false is some (n, r, few, count) =
    (count ∙ quotient_stays n m.setup.every some (λ on. absurd (cc (eq-eqb (w.retired % m.setup.every) 0 (ap (λ (k : ℕ). k % m.setup.every) r ∙ on), is))) ∙ ap (λ (k : ℕ). k / m.setup.every) (sym r), omega (arith, r, few))

timed_sampled : (m : Machine) (h : ℕ) (w : World) → 1 ≤ m.setup.every → w.ending ≡ None → Early m w → Within OnTime m (after_sample m h w) (after_sample m h w).ending
unfolding after_sample
timed_sampled m h w some going early = grind (arith, sampled_test)

timed_arrived : (m : Machine) (h : ℕ) (w : World) → w.ending ≡ None → OnTime m w → Within OnTime m (after_arrival m h w) (after_arrival m h w).ending
timed_arrived m h w going timed = grind (arith, by_arrived)

spent_test : (m : Machine) (w : World) (b : Bool) → eqb w.retired m.setup.budget ≡ b → w.ending ≡ None → OnTime m w → Timed m (if b then record w { ending = Some Budget } else w) (if b then record w { ending = Some Budget } else w).ending
spent_test m w b is going timed = grind arith

timed_spent : (m : Machine) (w : World) → w.ending ≡ None → OnTime m w → Timed m (after_budget m w) (after_budget m w).ending
unfolding after_budget
timed_spent m w going timed = spent_test m w (eqb w.retired m.setup.budget) refl going timed

on_none : (P : Machine → World → Type 0) (m : Machine) (w : World) → w.ending ≡ None → Within P m w w.ending → P m w
on_none P m w going within = let A : Option End → Type 0 = λ o. Within P m w o in subst A going within

to_timed : (P : Machine → World → Type 0) (m : Machine) (w : World) (end : End) → w.ending ≡ Some end → Within P m w w.ending → Timed m w w.ending
to_timed P m w end is within = grind arith

timed_instructed : (m : Machine) (h : ℕ) (w : World) → 1 ≤ m.setup.every → w.ending ≡ None → Timed m w None → Timed m (after_ordinary_turn m h w) (after_ordinary_turn m h w).ending
unfolding after_ordinary_turn
timed_instructed m h w some going timed =
    let a = after_execution m h w in
    let b = while_going (after_sample m h) a in
    let c = while_going (after_arrival m h) b in
    let first : Within Early m a a.ending = timed_executed m h w going timed in
    let second : Within OnTime m b b.ending = by_going (after_sample m h) a (λ v. Within OnTime m v v.ending) (λ on. timed_sampled m h a some on (on_none Early m a on first)) (λ end off. timed_as Early m a end off first OnTime) in
    let third : Within OnTime m c c.ending = by_going (after_arrival m h) b (λ v. Within OnTime m v v.ending) (λ on. timed_arrived m h b on (on_none OnTime m b on second)) (λ end off. second) in
    by_going (after_budget m) c (λ v. Timed m v v.ending) (λ on. timed_spent m c on (on_none OnTime m c on third)) (λ end off. to_timed OnTime m c end off third)

timed_taken : (m : Machine) (h n : ℕ) (w : World) → 1 ≤ m.setup.every → w.ending ≡ None → Timed m w None → Timed m (after_look m h n w) (after_look m h n w).ending
timed_taken m h n w some going timed = grind (arith, timed_instructed, by_returned, no_sample)

closed_test : (m : Machine) (w : World) (b : Bool) → Timed m w w.ending → Timed m (if b then record (with_entry WalkDone w) { left = map (λ n. 0) w.left } else w) (if b then record (with_entry WalkDone w) { left = map (λ n. 0) w.left } else w).ending
closed_test m w b timed = grind (arith, no_sample)

timed_closed : (m : Machine) (w : World) → Timed m w w.ending → Timed m (after_close w) (after_close w).ending
unfolding after_close
timed_closed m w timed = closed_test m w (is_some w.ending && list_any (λ n. nat_lt 0 n) w.left) timed

pub at_none : (m : Machine) (w : World) → w.ending ≡ None → Timed m w w.ending → Timed m w None
at_none m w going timed = let A : Option End → Type 0 = λ o. Timed m w o in subst A going timed

pub timed_turn : (m : Machine) (w : World) (h : ℕ) → 1 ≤ m.setup.every → Timed m w w.ending → Timed m (turn_of m w h) (turn_of m w h).ending
unfolding turn_of
timed_turn m w h some timed =
    by_going (λ v. after_close (after_look m h (looks_of_hart v.left h) v)) w (λ v. Timed m v v.ending)
    (λ on. timed_closed m (after_look m h (looks_of_hart w.left h) w) (timed_taken m h (looks_of_hart w.left h) w some on (at_none m w on timed))) (λ end off. timed)

pub timed_after : (m : Machine) (w : World) (turns : List ℕ) → 1 ≤ m.setup.every → Timed m w w.ending → Timed m (world_after m w turns) (world_after m w turns).ending
timed_after m w [] some timed = timed
timed_after m w (h ∷ turns) some timed = timed_after m (turn_of m w h) turns some (timed_turn m w h some timed)
