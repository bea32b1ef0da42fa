-- A runtime after a mode was set.
use Rattle.std.proofs.Common.{◌≡◌, Bool, true, false, List, refl, sym, ap, ◌∙◌, Option, subst, leb, if◌then◌else◌}
use Rattle.mcount_arcs.specs.Log.{Pair, distinct_count, LogEntry, is_on, is_busy, mode_in, entered_calls, state_of, Mode}
use Rattle.std.specs.List.{filter_map}
use Rattle.mcount_arcs.specs.declared.sizes.Sizes.{Sizes}
use Rattle.mcount_arcs.specs.declared.state.State.{State}
use Rattle.mcount_arcs.specs.declared.state.State.TheVariants.{On, Busy, Error, Off}
use Rattle.mcount_arcs.specs.Lists.{last_of}
use Rattle.mcount_arcs.specs.declared.gmon.Cursor.{Cursor}
use Rattle.mcount_arcs.specs.declared.gmon.Gmon.TheInside.{Inside}
use Rattle.mcount_arcs.specs.declared.walk.Walk.{Walk}
use Rattle.mcount_arcs.specs.Held.{flight, view_of, IsHeld}
use Rattle.mcount_arcs.specs.Value.{idle_state, StandsFor, GmonValue, switched_state, with_switch}
use Rattle.mcount_arcs.proofs.LogLemmas.{state_by, more, one_more, last_of-push, IsQuiet, is_busy-quiet, entered_calls-quiet, buckets_of-same, state_of-by}
use Rattle.mcount_arcs.proofs.WalkLemmas.{no_flight, not_busy}
use Rattle.mcount_arcs.proofs.HeldLemmas.{held_with}
use Rattle.mcount_arcs.proofs.QuietEntryLemmas.{StandsFor-quiet}

is_on-mode : (log : List LogEntry) (on : Bool) → is_on (more log (Mode on)) ≡ on
is_on-mode log on = ap (last_of true) (one_more mode_in log (Mode on) on refl) ∙ last_of-push true (filter_map mode_in log) on

quiet : (z : Sizes) (on : Bool) → IsQuiet z (Mode on)
quiet z on = record { walk = refl; pair = refl }

pub by_test : (busy full was on : Bool) → switched_state on (if busy then Busy else (if full then Error else idle_state was)) ≡ (if busy then Busy else (if full then Error else idle_state on))
by_test true full was on = refl
by_test false true was on = refl
by_test false false true on = refl
by_test false false false on = refl

state_of-mode : (z : Sizes) (log : List LogEntry) (on : Bool) → switched_state on (state_of z log) ≡ state_of z (more log (Mode on))
state_of-mode z log on =
    ap (switched_state on) (state_of-by z log)
    ∙ by_test (is_busy log) (leb z.tolimit (distinct_count (entered_calls z log))) (is_on log) on
    ∙ sym (state_of-by z (more log (Mode on))
    ∙ ap (λ (b : Bool). state_by z.tolimit b (entered_calls z (more log (Mode on))) (is_on (more log (Mode on)))) (is_busy-quiet z log (Mode on) (quiet z on))
    ∙ ap (λ (ps : List Pair). state_by z.tolimit (is_busy log) ps (is_on (more log (Mode on)))) (entered_calls-quiet z log (Mode on) (quiet z on))
    ∙ ap (state_by z.tolimit (is_busy log) (entered_calls z log)) (is_on-mode log on))

pub StandsFor-switched : (log : List LogEntry) (v : GmonValue) (on : Bool) → StandsFor log v → StandsFor (more log (Mode on)) (with_switch on v)
StandsFor-switched log v on stands =
    StandsFor-quiet log (Mode on) v v.counters (switched_state on v.state) on (quiet v.sizes on) tt stands
    (stands.counters ∙ sym (buckets_of-same v.sizes log (Mode on) (λ before. refl))) (ap (switched_state on) stands.state ∙ state_of-mode v.sizes log on) (sym (is_on-mode log on))

flight_stays : (on : Bool) (s : State) (c : Cursor) → flight (switched_state on s) c ≡ flight s c
flight_stays on On c = no_flight on c
flight_stays on Busy c = refl
flight_stays on Error c = refl
flight_stays on Off c = no_flight on c

was_busy : (on : Bool) (s : State) → switched_state on s ≡ Busy → s ≡ Busy
was_busy on On e = absurd (not_busy on e)
was_busy on Busy e = refl
was_busy on Error e = e
was_busy on Off e = absurd (not_busy on e)

is_error : (on : Bool) (s : State) → s ≡ Error → switched_state on s ≡ Error
is_error on s e = ap (switched_state on) e

abbrev pub switched_as : Bool → Inside → Inside
switched_as on a = record a { sampling = on; state = switched_state on a.state }

pub switched-value : (on : Bool) (a : Inside) → view_of (switched_as on a) ≡ with_switch on (view_of a)
switched-value on a = ap (λ (o : Option Walk). record (view_of (switched_as on a)) { walk = o }) (flight_stays on a.state a.cursor)

pub held_switched : (on : Bool) (a : Inside) → IsHeld a → IsHeld (switched_as on a)
held_switched on a held =
    let P : GmonValue → Type 0 = λ v. StandsFor (more held.log (Mode on)) v in
    let stands = subst P (sym (switched-value on a)) (StandsFor-switched held.log (view_of a) on held.stands) in
    held_with a (switched_state on a.state) on a.cursor (more held.log (Mode on)) held stands (is_error on a.state) (λ busy. held.at (was_busy on a.state busy)) (λ busy. held.room (was_busy on a.state busy))
