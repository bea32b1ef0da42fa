-- What the notes of turns tell of returns from hooks.
use Rattle.std.proofs.Common.{◌%◌, ◌&&◌, ◌+◌, ◌++◌, ◌<◌, Bool, List, None, Option, Some, [], ap, arith, cond, eqb, inl, inr, length, map, refl, set, suc, zero, ℕ, ◌∙◌, ◌∷◌, ◌≡◌, ◌≢◌, if◌then◌else◌}
use Rattle.std.proofs.Math.ListN.{length-set}
use Rattle.std.proofs.lemmas.List.{get_or-set_same}
use Rattle.std.proofs.lemmas.List.Sums.{sum_by_push}
use Rattle.std.specs.List.{count_by, list_any}
use Rattle.std.specs.Prelude.{is_some, nat_lt, ◌⊎◌, ◌↔◌}
use Rattle.rv_step.specs.Registers.{Registers}
use Rattle.rv_step.specs.declared.stepped.TrapKind.{TrapKind}
use Rattle.rv_step.specs.declared.stepped.TrapKind.TheVariants.{JumpMisaligned}
use Rattle.mcount_arcs.specs.Log.{LogEntry, Sample, WalkDone}
use Rattle.prof_machine.proofs.WorldLemmas.{by_executed, by_going}
use Rattle.prof_machine.specs.Laws.{HasServed, ReturnsAreNoted, hooks_left, leaves_hook}
use Rattle.prof_machine.specs.Notes.{if_going, instruction_note, look_note, note_by, note_of, return_in, return_of}
use Rattle.prof_machine.specs.Ecalls.{ecall_of}
use Rattle.prof_machine.specs.declared.ecalls.Call.{Call}
use Rattle.rv_step.specs.Memory.{Memory}
use Rattle.rv_step.specs.Step.{step_of}
use Rattle.rv_step.specs.declared.stepped.Stepped.{Stepped}
use Rattle.prof_machine.specs.Turn.{after_call, after_ecall, after_step, after_arrival, after_close, after_execution, after_ordinary_turn, after_return, after_sample, after_budget, after_look, return_target, turn_of, while_going, with_entry}
use Rattle.prof_machine.specs.World.{World, hart_of, looks_of_hart}
use Rattle.prof_machine.specs.declared.summary.End.{End}
use Rattle.prof_machine.specs.declared.summary.End.TheVariants.{Trap}
use Rattle.prof_machine.specs.declared.machine.Machine.{Machine}

-- no trap has ended the run
abbrev Untrapped : World → Type 0
Untrapped v = (kind : TrapKind) (pc : ℕ) → v.ending ≢ Some (Trap kind pc)

-- ---- a return, from a world in which the run goes on

abbrev Returns : ℕ → World → World → Option ℕ → Type 0
Returns h w v o = ((o ≡ Some (hart_of v.harts h).pc) × (v.ending ≡ w.ending)) ⊎ ((o ≡ None) × ((kind : TrapKind) × (pc : ℕ) × (v.ending ≡ Some (Trap kind pc))))

-- and what it leaves of the log and the harts
abbrev Keeps : World → World → Type 0
Keeps w v = (v.log ≡ w.log) × (length v.harts ≡ length w.harts)

return_test : (h : ℕ) (w : World) (s : Registers) (target : ℕ) (b : Bool) → h < length w.harts
    → Returns h w (if b then record w { harts = set w.harts h (record s { pc = target }) } else record w { ending = Some (Trap JumpMisaligned s.pc) }) (if b then Some target else None)
return_test h w s target b inside = grind (arith, get_or-set_same)

returns : (h : ℕ) (w : World) → h < length w.harts → Returns h w (after_return h w) (return_of (hart_of w.harts h))
unfolding after_return
returns h w inside = let s = hart_of w.harts h in return_test h w s (return_target s) (eqb (return_target s % 4) 0) inside

keeps_test : (h : ℕ) (w : World) (s : Registers) (target : ℕ) (b : Bool)
    → Keeps w (if b then record w { harts = set w.harts h (record s { pc = target }) } else record w { ending = Some (Trap JumpMisaligned s.pc) })
keeps_test h w s target b = grind (arith, length-set)

keeps_returned : (h : ℕ) (w : World) → Keeps w (after_return h w)
unfolding after_return
keeps_returned h w = let s = hart_of w.harts h in keeps_test h w s (return_target s) (eqb (return_target s % 4) 0)

-- ---- a hook that is served

-- the hart has left one and goes on, or has left one by a trap, or has left none
abbrev Serves : ℕ → World → World → Option ℕ → Type 0
Serves h w v o = ((hooks_left v ≡ hooks_left w + 1) × Returns h w v o) ⊎ ((hooks_left v ≡ hooks_left w) × (o ≡ None))

abbrev weight : LogEntry → ℕ
weight e = cond (leaves_hook e) 1 0

one_more : (log : List LogEntry) (e : LogEntry) (n : ℕ) → weight e ≡ n → count_by leaves_hook (log ++ e ∷ []) ≡ count_by leaves_hook log + n
one_more log e n is = sum_by_push (λ x. cond (leaves_hook x) 1 0) log e ∙ ap (λ (k : ℕ). count_by leaves_hook log + k) is

serves_back : (h : ℕ) (w : World) (e : LogEntry) → weight e ≡ 1 → h < length w.harts → Serves h w (after_return h (with_entry e w)) (return_of (hart_of w.harts h))
serves_back h w e is inside =
    let v = with_entry e w in
    let kept = keeps_returned h v in
    inl (ap (count_by leaves_hook) kept.0 ∙ one_more w.log e 1 is, returns h v inside)

serves_arrived : (m : Machine) (h : ℕ) (w : World) → h < length w.harts → Serves h w (after_arrival m h w) (return_in m h w)
unfolding after_arrival return_in
serves_arrived m h w inside = grind (arith, serves_back, eqb, one_more)

-- ---- the stages of an instruction, counted from world w on

abbrev HasTrapped : World → Type 0
HasTrapped v = (kind : TrapKind) × (pc : ℕ) × (v.ending ≡ Some (Trap kind pc))

-- behind the hook
abbrev Arrives : ℕ → World → World → Option ℕ → Type 0
Arrives h w v o =
    ((hooks_left v ≡ hooks_left w + 1) × (o ≡ Some (hart_of v.harts h).pc) × (v.ending ≡ None))
    ⊎ ((HasTrapped v × (o ≡ None)) ⊎ ((hooks_left v ≡ hooks_left w) × (o ≡ None)))

arrives_by : (m : Machine) (h : ℕ) (w b : World) (o : Option End) → b.ending ≡ o → hooks_left b ≡ hooks_left w → Serves h b (after_arrival m h b) (return_in m h b)
    → Arrives h w (if is_some o then b else after_arrival m h b) (if is_some o then None else return_in m h b)
arrives_by m h w b o on same serves = grind arith

arrives : (m : Machine) (h : ℕ) (w b : World) → hooks_left b ≡ hooks_left w → h < length b.harts → Arrives h w (while_going (after_arrival m h) b) (if_going (return_in m h) b)
unfolding while_going
arrives m h w b same inside = arrives_by m h w b b.ending refl same (serves_arrived m h b inside)

-- behind the budget, and behind the end of the run
abbrev Leaves : ℕ → World → World → Option ℕ → Type 0
Leaves h w v o =
    ((hooks_left v ≡ hooks_left w + 1) × (o ≡ Some (hart_of v.harts h).pc) × Untrapped v)
    ⊎ ((HasTrapped v × (o ≡ None)) ⊎ ((hooks_left v ≡ hooks_left w) × (o ≡ None)))

leaves_by : (m : Machine) (h : ℕ) (w c : World) (o : Option ℕ) (e : Option End) → c.ending ≡ e → Arrives h w c o → Leaves h w (if is_some e then c else after_budget m c) o
unfolding after_budget
leaves_by m h w c o e on at = grind arith

leaves : (m : Machine) (h : ℕ) (w c : World) (o : Option ℕ) → Arrives h w c o → Leaves h w (while_going (after_budget m) c) o
unfolding while_going
leaves m h w c o at = leaves_by m h w c o c.ending refl at

closed_by : (h : ℕ) (w d : World) (o : Option ℕ) (b : Bool) → Leaves h w d o → Leaves h w (if b then record (with_entry WalkDone d) { left = map (λ n. 0) d.left } else d) o
closed_by h w d o b at = grind (arith, one_more)

leaves_closed : (h : ℕ) (w d : World) (o : Option ℕ) → Leaves h w d o → Leaves h w (after_close d) o
unfolding after_close
leaves_closed h w d o at = closed_by h w d o (is_some d.ending && list_any (λ n. nat_lt 0 n) d.left) at

-- ---- what an instruction and a sample keep

harts_call : (h : ℕ) (w : World) (call : Call) → length (after_call h call w).harts ≡ length w.harts
harts_call h w call = grind (arith, length-set)

harts_ecall : (m : Machine) (h : ℕ) (w : World) → length (after_ecall m h w).harts ≡ length w.harts
unfolding after_ecall
harts_ecall m h w = harts_call h w (ecall_of m (hart_of w.harts h) w.break_at)

harts_step : (m : Machine) (h : ℕ) (w : World) (answer : Stepped) (s : Registers) (memory : Memory) → length (after_step m h answer s memory w).harts ≡ length w.harts
harts_step m h w answer s memory = grind (arith, length-set, harts_ecall)

harts_executed : (m : Machine) (h : ℕ) (w : World) → length (after_execution m h w).harts ≡ length w.harts
unfolding after_execution
harts_executed m h w = let o = step_of (hart_of w.harts h) w.memory in harts_step m h w o.answer o.registers o.memory

hooks_executed : (m : Machine) (h : ℕ) (w : World) → hooks_left (after_execution m h w) ≡ hooks_left w
hooks_executed m h w = grind (arith, by_executed)

-- hooks left, and harts
abbrev Alike : World → World → Type 0
Alike w v = (hooks_left v ≡ hooks_left w) × (length v.harts ≡ length w.harts)

sampled_by : (w : World) (pc : ℕ) (b : Bool) → Alike w (if b then with_entry (Sample pc) w else w)
sampled_by w pc b = grind (arith, one_more)

alike_sampled : (m : Machine) (h : ℕ) (w : World) → Alike w (while_going (after_sample m h) w)
unfolding after_sample
alike_sampled m h w = by_going (after_sample m h) w (Alike w) (λ on. sampled_by w (hart_of w.harts h).pc (eqb (w.retired % m.setup.every) 0)) (λ end off. (refl, refl))

leaves_instructed : (m : Machine) (h : ℕ) (w : World) → h < length w.harts → Leaves h w (after_close (after_ordinary_turn m h w)) (instruction_note m h w).returned
unfolding after_ordinary_turn instruction_note
leaves_instructed m h w inside =
    let a = after_execution m h w in
    let b = while_going (after_sample m h) a in
    let ticked = alike_sampled m h a in
    let long : h < length b.harts = omega (arith, inside, ticked.1, harts_executed m h w) in
    let c = while_going (after_arrival m h) b in
    let o = if_going (return_in m h) b in
    leaves_closed h w (while_going (after_budget m) c) o (leaves m h w c o (arrives m h w b (ticked.0 ∙ hooks_executed m h w) long))

-- ---- a turn

abbrev Tells : ℕ → World → World → Option ℕ → Type 0
Tells h w v o =
    (HasServed w v h × (o ≡ Some (hart_of v.harts h).pc) × Untrapped v) ⊎ ((HasTrapped v × (o ≡ None)) ⊎ ((HasServed w v h → ⊥) × (o ≡ None)))

not_served : (w v : World) (h n : ℕ) → hooks_left v ≡ hooks_left w → looks_of_hart w.left h ≡ n → n ≢ 1 → HasServed w v h → ⊥
not_served w v h n same left other is = grind arith

tells_of : (h : ℕ) (w v : World) (o : Option ℕ) → looks_of_hart w.left h ≡ 0 → Leaves h w v o → Tells h w v o
tells_of h w v o is also = grind arith

-- behind the last look of a walk
over_by : (h : ℕ) (w u : World) (o : Option ℕ) → w.ending ≡ None → looks_of_hart w.left h ≡ 1 → u.ending ≡ None → Returns h u (after_return h u) o → Tells h w (after_close (after_return h u)) o
unfolding after_close
over_by h w u o on one going at = by_test (after_return h u) at (is_some (after_return h u).ending && list_any (λ n. nat_lt 0 n) (after_return h u).left)
  where
    by_test : (v : World) → Returns h u v o → (b : Bool) → Tells h w (if b then record (with_entry WalkDone v) { left = map (λ n. 0) v.left } else v) o
    by_test v is b = grind arith

tells_taken : (m : Machine) (h : ℕ) (w : World) (n : ℕ) → w.ending ≡ None → looks_of_hart w.left h ≡ n → h < length w.harts → Tells h w (after_close (after_look m h n w)) (note_by m h n w).returned
tells_taken m h w zero on left inside = tells_of h w (after_close (after_ordinary_turn m h w)) (instruction_note m h w).returned left (leaves_instructed m h w inside)
tells_taken m h w (suc zero) on left inside = search (set, over_by, returns)
tells_taken m h w (suc (suc n)) on left inside =
    let v = record w { left = set w.left h (suc n) } in
    let at : Leaves h w (after_close v) None = leaves_closed h w v None (inr (inr (refl, refl))) in
    elim at [
      | inl p ↦ (let e : None ≡ Some (hart_of (after_close v).harts h).pc = p.1 in absurd cc)
      | inr q ↦ elim q [
        | inl p ↦ inr (inl p)
        | inr p ↦ inr (inr (not_served w (after_close v) h (suc (suc n)) p.0 left (λ e. omega (arith, e)), p.1))
      ]
    ]

whole : (m : Machine) (h : ℕ) (w : World) (o : Option End) → w.ending ≡ o → h < length w.harts
    → Tells h w (if is_some o then w else after_close (after_look m h (looks_of_hart w.left h) w)) (if is_some o then look_note None else note_by m h (looks_of_hart w.left h) w).returned
whole m h w None on inside = tells_taken m h w (looks_of_hart w.left h) on refl inside
whole m h w (Some end) off inside = inr (inr (over, refl))
  where
    over : HasServed w w h → ⊥
    over is = grind arith

tells_turn : (m : Machine) (w : World) (h : ℕ) → h < length w.harts → Tells h w (turn_of m w h) (note_of m w h).returned
unfolding turn_of note_of while_going
tells_turn m w h inside = whole m h w w.ending refl inside

noted_by : (h r : ℕ) (w v : World) (o : Option ℕ) → Tells h w v o → (o ≡ Some r) ↔ (HasServed w v h × Untrapped v × ((hart_of v.harts h).pc ≡ r))
noted_by h r w v o is = grind arith

pub returns_noted : ReturnsAreNoted
returns_noted m w h r inside = noted_by h r w (turn_of m w h) (note_of m w h).returned (tells_turn m w h inside)
