-- A runtime stands for its log and one entry more, where this is no begin or end of a call.
use Rattle.std.proofs.Common.{Bool, ℕ, ◌≡◌, ◌≤◌, List, length, sym, ap, ◌∙◌, arith, Option}
use Rattle.mcount_arcs.specs.declared.sizes.Sizes.{Sizes}
use Rattle.mcount_arcs.specs.declared.state.State.{State}
use Rattle.mcount_arcs.specs.Log.{is_on, state_of, LogEntry, kept_calls, MayFollow}
use Rattle.mcount_arcs.specs.Samples.{buckets_of}
use Rattle.mcount_arcs.specs.Arcs.{looks_of}
use Rattle.std.specs.Option.{IfSome}
use Rattle.mcount_arcs.specs.declared.walk.Walk.{Walk}
use Rattle.mcount_arcs.specs.Value.{StandsFor, GmonValue}
use Rattle.mcount_arcs.proofs.LogLemmas.{IsLegal-push, more, IsQuiet, entered_calls-quiet, kept_calls-quiet, looks_of-kept_calls, entries_of-entered_calls, fronts_of-entered_calls, arcs_of-entered_calls, pending_call-quiet}

-- the looks that a call takes depend on the calls that are kept
pub place-kept_calls : (z : Sizes) (log other : List LogEntry) (o : Option Walk) → kept_calls z other ≡ kept_calls z log → IfSome o (λ w. (1 ≤ w.place) × (w.place ≤ looks_of z log w.slot w.to)) → IfSome o (λ w. (1 ≤ w.place) × (w.place ≤ looks_of z other w.slot w.to))
place-kept_calls z log other o same placed = grind (arith, looks_of-kept_calls)

-- such an entry changes at most the counters, the state and the mode
pub StandsFor-quiet : (log : List LogEntry) (entry : LogEntry) (v : GmonValue) (counters : List ℕ) (state : State) (sampling : Bool) → IsQuiet v.sizes entry → MayFollow v.sizes log entry → StandsFor log v
    → counters ≡ buckets_of v.sizes (more log entry) → state ≡ state_of v.sizes (more log entry) → sampling ≡ is_on (more log entry)
    → StandsFor (more log entry) (record v { counters = counters; state = state; sampling = sampling })
StandsFor-quiet log entry v counters state sampling quiet may stands counters_are state_is mode_is =
    let z = v.sizes in
    let same_calls = entered_calls-quiet z log entry quiet in
    record {
      legal = IsLegal-push z log entry stands.legal may;
      tos = stands.tos ∙ sym (entries_of-entered_calls z (more log entry) log same_calls);
      counters = counters_are;
      froms = stands.froms ∙ sym (fronts_of-entered_calls z (more log entry) log same_calls);
      state = state_is;
      sampling = mode_is;
      calls = stands.calls ∙ ap length (sym (kept_calls-quiet z log entry quiet));
      arcs = stands.arcs ∙ sym (arcs_of-entered_calls z (more log entry) log same_calls);
      walk = stands.walk ∙ sym (pending_call-quiet z log entry quiet);
      place = place-kept_calls z log (more log entry) v.walk (kept_calls-quiet z log entry quiet) stands.place;
    }
