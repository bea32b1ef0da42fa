-- What the begin and the end of a call do to what a log holds.
use Rattle.std.proofs.Common.{◌≡◌, ℕ, suc, ◌<◌, ◌≤◌, Bool, true, false, List, [], ◌∷◌, ◌++◌, length, Some, None, inl, inr, refl, sym, ap, ◌∙◌, arith, ◌+◌, ◌-◌, length-append, if◌then◌else◌, ◌⊎◌, take}
use Rattle.std.proofs.lemmas.Option.{none-some, same_Some}
use Rattle.std.proofs.lemmas.Bool.{cases_Bool, false≢true, cases_lt, lt-leb, le-leb}
use Rattle.mcount_arcs.specs.Log.{Pair, distinct_count, LogEntry, Sample, is_on, is_busy, walk_in, pair_in, begun_calls, entered_calls, kept_calls, state_of, pending_call, Mode, Enter, WalkDone, CallLost, CallIgnored}
use Rattle.std.specs.List.{filter_map}
use Rattle.mcount_arcs.specs.declared.sizes.Sizes.{Sizes}
use Rattle.mcount_arcs.specs.declared.state.State.TheVariants.{On, Busy, Error, Off}
use Rattle.mcount_arcs.specs.Lists.{last_of, without_last}
use Rattle.std.proofs.lemmas.List.{take_at, take_all}
use Rattle.mcount_arcs.specs.Sizes.{slot_of}
use Rattle.mcount_arcs.proofs.LogLemmas.{entered_of, state_by, more, one_more, last_of-push, without_last-push, begun_calls-quiet, is_on-same, state_of-by, pending_by, pending_call-by}
use Rattle.mcount_arcs.proofs.KeptCallLemmas.{kept_calls-front, kept_calls-places, kept_calls-longest}

pub is_busy-enter : (log : List LogEntry) (from to : ℕ) → is_busy (more log (Enter from to)) ≡ true
is_busy-enter log from to = ap (last_of false) (one_more walk_in log (Enter from to) true refl) ∙ last_of-push false (filter_map walk_in log) true

abbrev pub pair_of : Sizes → ℕ → ℕ → Pair
pair_of z from to = record { slot = slot_of z from; to = to }

pub begun_calls-enter : (z : Sizes) (log : List LogEntry) (from to : ℕ) → begun_calls z (more log (Enter from to)) ≡ begun_calls z log ++ pair_of z from to ∷ []
begun_calls-enter z log from to = one_more (pair_in z) log (Enter from to) (pair_of z from to) refl

pub entered_calls-idle : (z : Sizes) (log : List LogEntry) → is_busy log ≡ false → entered_calls z log ≡ begun_calls z log
unfolding entered_calls
entered_calls-idle z log idle = ap (λ (b : Bool). entered_of b (begun_calls z log)) idle

pub entered_calls-enter : (z : Sizes) (log : List LogEntry) (from to : ℕ) → is_busy log ≡ false → entered_calls z (more log (Enter from to)) ≡ entered_calls z log
unfolding entered_calls
entered_calls-enter z log from to idle = search (entered_of, more, is_busy-enter, begun_calls-enter, without_last-push, entered_calls-idle)

pub is_busy-done : (log : List LogEntry) → is_busy (more log WalkDone) ≡ false
is_busy-done log = ap (last_of false) (one_more walk_in log WalkDone false refl) ∙ last_of-push false (filter_map walk_in log) false

-- a log of which a call is being entered has a begin
some_begun : (z : Sizes) (b : Bool) (log : List LogEntry) → last_of b (filter_map walk_in log) ≡ true → (b ≡ true) ⊎ (0 < length (begun_calls z log))
some_begun z b [] busy = inl busy
some_begun z b (Sample pc ∷ log) busy = some_begun z b log busy
some_begun z b (Mode on ∷ log) busy = some_begun z b log busy
some_begun z b (Enter from to ∷ log) busy = inr (omega arith)
some_begun z b (WalkDone ∷ log) busy = elim (some_begun z false log busy) [ inl e ↦ absurd (false≢true e) | inr some ↦ inr some ]
some_begun z b (CallLost from to ∷ log) busy = some_begun z b log busy
some_begun z b (CallIgnored from to ∷ log) busy = some_begun z b log busy

last_splits : {X : Type 0} (d : X) (xs : List X) → 0 < length xs → xs ≡ without_last xs ++ last_of d xs ∷ []
last_splits d [] some = absurd (omega arith)
last_splits d (x ∷ []) some = refl
last_splits {X} d (x ∷ y ∷ xs) some =
    let n = length xs in
    let e : suc (suc n) - 1 ≡ suc (suc n - 1) = omega arith in
    ap (λ (zs : List X). x ∷ zs) (last_splits x (y ∷ xs) (omega arith))
    ∙ ap (λ (k : ℕ). take k (x ∷ y ∷ xs) ++ last_of y xs ∷ []) (sym e)

-- the calls that began are those that were entered, and the one that is being entered
pub begun_calls-busy : (z : Sizes) (log : List LogEntry) (d : Pair) → is_busy log ≡ true → begun_calls z log ≡ entered_calls z log ++ last_of d (begun_calls z log) ∷ []
unfolding entered_calls
begun_calls-busy z log d busy =
    elim (some_begun z false log busy) [
      | inl e ↦ absurd (false≢true e)
      | inr some ↦ last_splits d (begun_calls z log) some ∙ ap (λ (b : Bool). entered_of b (begun_calls z log) ++ last_of d (begun_calls z log) ∷ []) (sym busy)
    ]

pub entered_calls-done : (z : Sizes) (log : List LogEntry) (d : Pair) → is_busy log ≡ true → entered_calls z (more log WalkDone) ≡ entered_calls z log ++ last_of d (begun_calls z log) ∷ []
entered_calls-done z log d busy = search (entered_calls-idle, more, is_busy-done, begun_calls-quiet, begun_calls-busy)

-- the calls that are kept, where one entered last has no place
pub kept_calls-full : (z : Sizes) (log : List LogEntry) (ps : List Pair) (p : Pair) → entered_calls z log ≡ ps ++ p ∷ [] → distinct_count ps < z.tolimit → z.tolimit ≤ distinct_count (ps ++ p ∷ []) → 0 < z.tolimit → kept_calls z log ≡ ps
kept_calls-full z log ps p all places full some =
    let k = length (kept_calls z log) in
    let n = length ps in
    let long : length (entered_calls z log) ≡ n + 1 = ap length all ∙ omega (arith, length-append ps (p ∷ [])) in
    let front : take n (entered_calls z log) ≡ ps = ap (take n) all ∙ take_at ps (p ∷ []) n refl in
    grind (arith, kept_calls-longest, cases_lt, kept_calls-front, take_all, kept_calls-places)

pub pending_call-enter : (z : Sizes) (log : List LogEntry) (from to : ℕ) → pending_call z (more log (Enter from to)) ≡ Some (pair_of z from to)
pending_call-enter z log from to = search (pending_call-by, more, pending_by, is_busy-enter, begun_calls-enter, last_of-push)

pub pending_call-idle : (z : Sizes) (log : List LogEntry) → is_busy log ≡ false → pending_call z log ≡ None
pending_call-idle z log idle = pending_call-by z log ∙ ap (λ (b : Bool). pending_by b (begun_calls z log)) idle

-- where a call is pending, it is the last that began, and its end adds it
pub done-pending_call : (z : Sizes) (log : List LogEntry) (p : Pair) → pending_call z log ≡ Some p → (is_busy log ≡ true) × (entered_calls z (more log WalkDone) ≡ entered_calls z log ++ p ∷ [])
done-pending_call z log p is = elim (cases_Bool (is_busy log)) [
  | inl busy ↦
      let none : Pair = record { slot = 0; to = 0 } in
      let last : Some (last_of none (begun_calls z log)) ≡ Some p = ap (λ (b : Bool). pending_by b (begun_calls z log)) (sym busy) ∙ sym (pending_call-by z log) ∙ is in
      (busy, entered_calls-done z log none busy ∙ ap (λ (q : Pair). entered_calls z log ++ q ∷ []) (same_Some (last_of none (begun_calls z log)) p last))
  | inr idle ↦ absurd (none-some p (sym (pending_call-idle z log idle) ∙ is))
]

pub state_of-idle : (z : Sizes) (log : List LogEntry) → is_busy log ≡ false → state_of z log ≡ state_by z.tolimit false (entered_calls z log) (is_on log)
state_of-idle z log idle = state_of-by z log ∙ ap (λ (b : Bool). state_by z.tolimit b (entered_calls z log) (is_on log)) idle

pub state_of-busy : (z : Sizes) (log : List LogEntry) → is_busy log ≡ true → state_of z log ≡ Busy
state_of-busy z log busy = state_of-by z log ∙ ap (λ (b : Bool). state_by z.tolimit b (entered_calls z log) (is_on log)) busy

pub is_busy-other : (z : Sizes) (log : List LogEntry) → (state_of z log ≡ Busy → ⊥) → is_busy log ≡ false
is_busy-other z log other = grind (arith, state_of-busy)

-- after the end of a call
pub state_of-done : (z : Sizes) (log : List LogEntry) → distinct_count (entered_calls z (more log WalkDone)) < z.tolimit → state_of z (more log WalkDone) ≡ (if is_on log then On else Off)
state_of-done z log places = search (state_of-idle, more, is_busy-done, lt-leb, is_on-same)

pub state_of-full : (z : Sizes) (log : List LogEntry) → z.tolimit ≤ distinct_count (entered_calls z (more log WalkDone)) → state_of z (more log WalkDone) ≡ Error
state_of-full z log full = search (state_of-idle, more, is_busy-done, le-leb)
