-- A call that is being entered, in the world that a run stands for.
use Rattle.std.proofs.Common.{◌++◌, ◌-◌, ◌<◌, Bool, List, None, Option, Some, [], ap, arith, false, get_or, inl, inr, map, refl, replicate, set, subst, suc, sym, true, zero, ℕ, ◌∙◌, ◌∷◌, ◌≡◌, ◌≤◌, if◌then◌else◌}
use Rattle.std.specs.Prelude.{is_some, nat_lt, option_map}
use Rattle.std.proofs.lemmas.Bool.{cases_lt, eqb-true}
use Rattle.std.proofs.lemmas.List.{get_or-replicate, get_or-set_other, get_or-set_same, length-replicate, length-set, set-get_or, set-set}
use Rattle.std.specs.List.{list_any}
use Rattle.std.proofs.lemmas.List.Folds.{list_any_at}
use Rattle.mcount_arcs.proofs.CallLemmas.{entered_calls-enter, pending_call-idle}
use Rattle.mcount_arcs.proofs.LogLemmas.{counted_samples-same, kept_calls-entered_calls, looks_of-kept_calls, state_of-by}
use Rattle.mcount_arcs.specs.Arcs.{looks_of}
use Rattle.mcount_arcs.specs.Log.{Enter, LogEntry, WalkDone, is_busy, pending_call, state_of}
use Rattle.mcount_arcs.specs.Sizes.{slot_of}
use Rattle.mcount_arcs.specs.Value.{GmonValue, Looks, StandsFor as RuntimeStandsFor, call_of, is_full, next_of, walk_from}
use Rattle.mcount_arcs.specs.declared.sizes.Sizes.{Sizes}
use Rattle.mcount_arcs.specs.declared.state.State.TheVariants.{On}
use Rattle.mcount_arcs.specs.declared.walk.Looked.{Looked}
use Rattle.mcount_arcs.specs.declared.walk.Looked.TheVariants.{Counted, More, Overflowed}
use Rattle.mcount_arcs.specs.declared.walk.Walk.{Walk}
use Rattle.prof_machine.proofs.PrintLemmas.{prints_returned}
use Rattle.prof_machine.proofs.StandingLemmas.{lost_more, returns_stands}
use Rattle.prof_machine.specs.Stages.{holds, returns}
use Rattle.prof_machine.specs.Turn.{after_close, after_look, with_entry}
use Rattle.prof_machine.specs.Value.{IsHeld, RunValue, StandsFor, looks_left, value_of}
use Rattle.prof_machine.specs.World.{World, looks_of_hart}
use Rattle.prof_machine.specs.declared.flight.Flight.{Flight}
use Rattle.prof_machine.specs.declared.machine.Machine.{Machine}
use Rattle.prof_machine.specs.declared.runs.Run.TheInside.{Inside}

-- no call, no walk
pub no_walk : (o : Option Walk) → option_map call_of o ≡ None → o ≡ None
no_walk o is = grind arith

-- where the table is on no call is being entered
pub on_idle : (z : Sizes) (log : List LogEntry) (busy : Bool) → is_busy log ≡ busy → state_of z log ≡ On → is_busy log ≡ false
on_idle z log busy is on = grind (arith, state_of-by)

no_flight_by : (f : Option Flight) → option_map (λ (x : Flight). x.walk) f ≡ None → f ≡ None
no_flight_by f is = grind arith

-- a call begins to be entered
pub enter_stands : (w : World) (r : RunValue) (g : GmonValue) (h from to : ℕ) → r.gmon.state ≡ On → r.gmon.sizes ≡ r.machine.sizes → r.gmon.walk ≡ option_map (λ f. f.walk) r.flight → RuntimeStandsFor (w.log ++ Enter from to ∷ []) g → StandsFor w r
    → StandsFor (record (with_entry (Enter from to) w) { left = set w.left h (looks_of r.machine.sizes w.log (slot_of r.machine.sizes from) to) })
    (record r { flight = Some (record { hart = h; walk = walk_from (slot_of r.machine.sizes from) to }); gmon = g })
enter_stands w r g h from to on sizes walk gmon stands =
    let z = r.machine.sizes in
    let log' = w.log ++ Enter from to ∷ [] in
    let state : state_of z w.log ≡ On = ap (λ (v : Sizes). state_of v w.log) (sym sizes) ∙ sym stands.gmon.state ∙ on in
    let idle : is_busy w.log ≡ false = on_idle z w.log (is_busy w.log) refl state in
    let none : pending_call r.gmon.sizes w.log ≡ None = pending_call-idle r.gmon.sizes w.log idle in
    grind (arith, no_flight_by, no_walk, replicate, looks_of-kept_calls, kept_calls-entered_calls, entered_calls-enter, set, counted_samples-same, lost_more)

-- the looks that the hart's walk still takes
pub left_here : (w : World) (r : RunValue) (f : Flight) → f.hart < r.machine.setup.harts → r.flight ≡ Some f → StandsFor w r → looks_of_hart w.left f.hart ≡ looks_left r.machine.sizes w.log f.walk
left_here w r f inside is stands = grind (arith, get_or-set_same, length-replicate)

pub none_at : (n h : ℕ) → get_or {A = ℕ} (replicate n 0) h 0 ≡ 0
none_at zero h = refl
none_at (suc n) zero = refl
none_at (suc n) (suc h) = none_at n h

-- a hart that holds no walk
pub none_here : (n h k x : ℕ) → (k ≡ h → ⊥) → get_or {A = ℕ} (set (replicate n 0) k x) h 0 ≡ 0
none_here n h k x other = get_or-set_other (replicate n 0) k h x 0 (λ same. other (sym same)) ∙ none_at n h

pub left_none : (w : World) (r : RunValue) (h : ℕ) (f : Option Flight) → r.flight ≡ f → holds f h ≡ false → StandsFor w r → looks_of_hart w.left h ≡ 0
left_none w r h f is also stands = grind (arith, none_at, none_here)

-- the walk is over
pub zero_again : (n h k : ℕ) → h < n → set (set (replicate n 0) h k) h 0 ≡ replicate n 0
zero_again n h k inside =
    set-set (replicate n 0) h k 0 ∙ ap (λ (x : ℕ). set (replicate n 0) h x) (sym (get_or-replicate n h 0 0 inside)) ∙ set-get_or (replicate n 0) h 0

over : (w : World) (r : RunValue) (g : GmonValue) (left : List ℕ) → RuntimeStandsFor (w.log ++ WalkDone ∷ []) g → replicate r.machine.setup.harts 0 ≡ left → StandsFor w r
    → StandsFor (record (with_entry WalkDone w) { left = left }) (record r { flight = None; gmon = g })
over w r g left gmon zeros stands = grind (arith, counted_samples-same, lost_more)

pub over_here : (w : World) (r : RunValue) (g : GmonValue) (f : Flight) → f.hart < r.machine.setup.harts → r.flight ≡ Some f → RuntimeStandsFor (w.log ++ WalkDone ∷ []) g → StandsFor w r
    → StandsFor (record (with_entry WalkDone w) { left = set w.left f.hart 0 }) (record r { flight = None; gmon = g })
over_here w r g f inside is gmon stands = grind (arith, over, zero_again)

-- it goes on at the next place
pub moved_here : (w : World) (r : RunValue) (g : GmonValue) (f : Flight) (n : ℕ) → r.flight ≡ Some f → RuntimeStandsFor w.log g → suc n ≡ looks_left r.machine.sizes w.log f.walk → StandsFor w r
    → StandsFor (record w { left = set w.left f.hart n }) (record r { flight = Some (record { hart = f.hart; walk = next_of f.walk }); gmon = g })
moved_here w r g f n is gmon fewer stands = grind (arith, set-set)

-- ---- the end of the run

pub all_zero : (n : ℕ) → list_any (λ k. nat_lt 0 k) (replicate n 0) ≡ false
all_zero zero = refl
all_zero (suc n) = all_zero n

pub zeros_all : (n : ℕ) → map {A = ℕ} {B = ℕ} (λ x. 0) (replicate n 0) ≡ replicate n 0
zeros_all zero = refl
zeros_all (suc n) = ap (λ (xs : List ℕ). 0 ∷ xs) (zeros_all n)

pub zeros_set : (n h k : ℕ) → map {A = ℕ} {B = ℕ} (λ x. 0) (set (replicate n 0) h k) ≡ replicate n 0
zeros_set zero h k = refl
zeros_set (suc n) zero k = ap (λ (xs : List ℕ). 0 ∷ xs) (zeros_all n)
zeros_set (suc n) (suc h) k = ap (λ (xs : List ℕ). 0 ∷ xs) (zeros_set n h k)

-- no hart holds a walk
pub closed_idle : (w : World) (r : RunValue) → r.flight ≡ None → StandsFor w r → StandsFor (after_close w) r
unfolding after_close
closed_idle w r is stands = grind (arith, all_zero)

-- a hart holds one
pub closed_here : (w : World) (r : RunValue) (g : GmonValue) (f : Flight) → f.hart < r.machine.setup.harts → r.flight ≡ Some f → is_some r.ending ≡ true → 1 ≤ looks_left r.machine.sizes w.log f.walk
    → RuntimeStandsFor (w.log ++ WalkDone ∷ []) g → StandsFor w r → StandsFor (after_close w) (record r { flight = None; gmon = g })
unfolding after_close
closed_here w r g f inside is ended some gmon stands = grind (arith, left_here, length-set, length-replicate, list_any_at, zeros_set, over)

-- ---- what a run's invariant says of the walk in flight

pub held_inside : (a : Inside) (f : Flight) → IsHeld a → a.flight ≡ Some f → f.hart < a.machine.setup.harts
held_inside a f held is = grind arith

-- the walk's place is among the looks that its call takes
pub place_held : (w : World) (a : Inside) (f : Flight) → IsHeld a → a.flight ≡ Some f → StandsFor w (value_of a) → (1 ≤ f.walk.place) × (f.walk.place ≤ looks_of a.machine.sizes w.log f.walk.slot f.walk.to)
place_held w a f held is stands = grind arith

pub looks_some : (w : World) (a : Inside) (f : Flight) → IsHeld a → a.flight ≡ Some f → StandsFor w (value_of a) → 1 ≤ looks_left a.machine.sizes w.log f.walk
looks_some w a f held is stands = let p = place_held w a f held is stands in omega (arith, p.0, p.1)

-- ---- a look

-- the walk goes on, or is over, by the looks that are left
pub more_left : (w : World) (a : Inside) (f : Flight) (g : GmonValue) (result : Looked) → IsHeld a → a.flight ≡ Some f → StandsFor w (value_of a) → Looks w.log f.walk a.gmon g result → ((x : Walk) → result ≡ More x → ⊥)
    → (looks_left a.machine.sizes w.log f.walk ≡ suc zero) × RuntimeStandsFor (w.log ++ WalkDone ∷ []) g
more_left w a f g result held is stands looks over = grind arith

pub goes_on_left : (w : World) (a : Inside) (f : Flight) (g : GmonValue) (next : Walk) → IsHeld a → a.flight ≡ Some f → StandsFor w (value_of a) → Looks w.log f.walk a.gmon g (More next)
    → (n : ℕ) × (looks_left a.machine.sizes w.log f.walk ≡ suc (suc n)) × RuntimeStandsFor w.log g × (next ≡ next_of f.walk)
goes_on_left w a f g next held is stands looks =
    let p = place_held w a f held is stands in
    let same : looks_of a.gmon.sizes w.log f.walk.slot f.walk.to ≡ looks_of a.machine.sizes w.log f.walk.slot f.walk.to = ap (λ (z : Sizes). looks_of z w.log f.walk.slot f.walk.to) held.sizes in
    elim (cases_lt f.walk.place (looks_of a.gmon.sizes w.log f.walk.slot f.walk.to)) [
      | inl less ↦
          let on = looks.on less in
          let next_is : next ≡ next_of f.walk = (let e : More next ≡ More (next_of f.walk) = on.answer in cc) in
          (looks_left a.machine.sizes w.log f.walk - 2, omega (arith, less, same, p.0), on.stands, next_is)
      | inr most ↦
          let equal : f.walk.place ≡ looks_of a.gmon.sizes w.log f.walk.slot f.walk.to = omega (arith, most, p.1, same) in
          absurd (never_more next (is_full a.gmon.sizes w.log f.walk) (looks.last equal).answer)
    ]
  where
    never_more : (next : Walk) (b : Bool) → More next ≡ (if b then Overflowed else Counted) → ⊥
    never_more next b is = grind arith

-- the looks that are left, as a turn reads them
pub taken_by : (m : Machine) (h n : ℕ) (w : World) → looks_of_hart w.left h ≡ n → after_look m h (looks_of_hart w.left h) w ≡ after_look m h n w
taken_by m h n w is = ap (λ (k : ℕ). after_look m h k w) is

pub moved_stands : (w : World) (a : Inside) (f : Flight) (g : GmonValue) (h : ℕ) (next : Walk) → IsHeld a → a.flight ≡ Some f → holds a.flight h ≡ true → Looks w.log f.walk a.gmon g (More next) → StandsFor w (value_of a)
    → StandsFor (after_look a.machine h (looks_of_hart w.left h) w) (record (value_of a) { flight = Some (record { hart = h; walk = next }); gmon = g }) × ((after_look a.machine h (looks_of_hart w.left h) w).prints ≡ w.prints)
moved_stands w a f g h next held is mine looks stands =
    let here : f.hart ≡ h = eqb-true f.hart h (sym (ap (λ (o : Option Flight). holds o h) is) ∙ mine) in
    let (n, two, gmon, next_is) = goes_on_left w a f g next held is stands looks in
    let left : looks_of_hart w.left f.hart ≡ suc (suc n) = left_here w (value_of a) f (held_inside a f held is) is stands ∙ two in
    let moved = moved_here w (value_of a) g f (suc n) is gmon (sym two) stands in
    let P : Walk → Type 0 = λ x. StandsFor (record w { left = set w.left f.hart (suc n) }) (record (value_of a) { flight = Some (record { hart = f.hart; walk = x }); gmon = g }) in
    let Q : World → Type 0 = λ v. StandsFor v (record (value_of a) { flight = Some (record { hart = f.hart; walk = next }); gmon = g }) × (v.prints ≡ w.prints) in
    let R : ℕ → Type 0 = λ k. StandsFor (after_look a.machine k (looks_of_hart w.left k) w) (record (value_of a) { flight = Some (record { hart = k; walk = next }); gmon = g }) × ((after_look a.machine k (looks_of_hart w.left k) w).prints ≡ w.prints) in
    subst R here (subst Q (sym (taken_by a.machine f.hart (suc (suc n)) w left)) (subst P (sym next_is) moved, refl))

pub over_stands : (w : World) (a : Inside) (f : Flight) (g : GmonValue) (h : ℕ) (result : Looked) → IsHeld a → a.flight ≡ Some f → holds a.flight h ≡ true → Looks w.log f.walk a.gmon g result → ((x : Walk) → result ≡ More x → ⊥) → StandsFor w (value_of a)
    → StandsFor (after_look a.machine h (looks_of_hart w.left h) w) (returns h (record (value_of a) { flight = None; gmon = g })) × ((after_look a.machine h (looks_of_hart w.left h) w).prints ≡ w.prints)
over_stands w a f g h result held is mine looks over stands =
    let here : f.hart ≡ h = eqb-true f.hart h (sym (ap (λ (o : Option Flight). holds o h) is) ∙ mine) in
    let last = more_left w a f g result held is stands looks over in
    let left : looks_of_hart w.left f.hart ≡ suc zero = left_here w (value_of a) f (held_inside a f held is) is stands ∙ last.0 in
    let done = over_here w (value_of a) g f (held_inside a f held is) is last.1 stands in
    let Q : World → Type 0 = λ v. StandsFor v (returns f.hart (record (value_of a) { flight = None; gmon = g })) × (v.prints ≡ w.prints) in
    let R : ℕ → Type 0 = λ k. StandsFor (after_look a.machine k (looks_of_hart w.left k) w) (returns k (record (value_of a) { flight = None; gmon = g })) × ((after_look a.machine k (looks_of_hart w.left k) w).prints ≡ w.prints) in
    subst R here (subst Q (sym (taken_by a.machine f.hart (suc zero) w left)) (returns_stands _ _ f.hart done, prints_returned f.hart _))
