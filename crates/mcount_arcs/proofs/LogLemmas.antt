-- What one entry more does to a log, where it is no begin or end of a call.
use Rattle.std.proofs.Common.{◌≡◌, ℕ, Bool, true, false, ◌&&◌, List, [], ◌∷◌, ◌++◌, length, Some, None, refl, sym, ap, arith, Option, ◌-◌, length-append, leb, if◌then◌else◌}
use Rattle.std.proofs.lemmas.List.{append-nil, append_assoc, take_at}
use Rattle.std.specs.List.{filter_map, cons_option}
use Rattle.mcount_arcs.specs.Log.{Pair, distinct_count, LogEntry, Sample, is_on, is_busy, mode_in, walk_in, pair_in, begun_calls, entered_calls, kept_calls, kept_front, state_of, MayFollow, IsLegalAfter, IsLegal, pending_call}
use Rattle.mcount_arcs.specs.Arcs.{chain_in, arcs_of, arcs_in, looks_in, chain_of, looks_of}
use Rattle.mcount_arcs.specs.Image.{entries_in, fronts_in, entries_of, fronts_of}
use Rattle.std.proofs.lemmas.List.Elements.{filter_map-append}
use Rattle.mcount_arcs.specs.declared.sizes.Sizes.{Sizes}
use Rattle.mcount_arcs.specs.declared.state.State.{State}
use Rattle.mcount_arcs.specs.declared.state.State.TheVariants.{On, Busy, Error, Off}
use Rattle.mcount_arcs.specs.Lists.{gather, last_of, without_last}
use Rattle.gp_base.specs.Spans.{is_in}
use Rattle.mcount_arcs.specs.Sizes.{text_span}
use Rattle.mcount_arcs.specs.Samples.{counted_samples, counted_in, buckets_of}

-- a log with one entry more
abbrev pub more : List LogEntry → LogEntry → List LogEntry
more log entry = log ++ entry ∷ []

pub gather-append : {X Y : Type 0} (h : List X → X → Option Y) (before xs ys : List X) → gather h before (xs ++ ys) ≡ gather h before xs ++ gather h (before ++ xs) ys
gather-append h before [] ys = ap (λ (b : List _). gather h b ys) (sym (append-nil before))
gather-append {X} {Y} h before (x ∷ xs) ys = grind (arith, append_assoc, gather-append h (before ++ x ∷ []) xs ys)

pub IsLegalAfter-push : (z : Sizes) (before log : List LogEntry) (entry : LogEntry) → IsLegalAfter z before log → MayFollow z (before ++ log) entry → IsLegalAfter z before (log ++ entry ∷ [])
IsLegalAfter-push z before [] entry legal may = grind (arith, append-nil)
IsLegalAfter-push z before (x ∷ log) entry legal may = search (append_assoc, IsLegalAfter-push z (before ++ x ∷ []) log entry legal.1)

-- what may follow a legal log makes a legal log
pub IsLegal-push : (z : Sizes) (log : List LogEntry) (entry : LogEntry) → IsLegal z log → MayFollow z log entry → IsLegal z (log ++ entry ∷ [])
unfolding IsLegal
IsLegal-push z log entry legal may = IsLegalAfter-push z [] log entry legal may

abbrev pub entered_of : Bool → List Pair → List Pair
entered_of busy pairs = if busy then without_last pairs else pairs

abbrev pub state_by : ℕ → Bool → List Pair → Bool → State
state_by limit busy pairs on = if busy then Busy else (if leb limit (distinct_count pairs) then Error else (if on then On else Off))

-- the arcs are those of the calls that are kept
pub arcs_of-kept_calls : (z : Sizes) (log other : List LogEntry) → kept_calls z log ≡ kept_calls z other → arcs_of z log ≡ arcs_of z other
unfolding arcs_of
arcs_of-kept_calls z log other same = ap (arcs_in z) same

nothing_more : {X : Type 0} (h : LogEntry → Option X) (log : List LogEntry) (entry : LogEntry) → h entry ≡ None → filter_map h (more log entry) ≡ filter_map h log
nothing_more {X} h log entry none = grind (arith, filter_map-append, append-nil)

pub one_more : {X : Type 0} (h : LogEntry → Option X) (log : List LogEntry) (entry : LogEntry) (x : X) → h entry ≡ Some x → filter_map h (more log entry) ≡ filter_map h log ++ x ∷ []
one_more {X} h log entry x some = grind (arith, filter_map-append)

pub last_of-push : {X : Type 0} (d : X) (xs : List X) (x : X) → last_of d (xs ++ x ∷ []) ≡ x
last_of-push d [] x = refl
last_of-push d (y ∷ xs) x = last_of-push y xs x

pub without_last-push : {X : Type 0} (xs : List X) (x : X) → without_last (xs ++ x ∷ []) ≡ xs
without_last-push xs x = take_at xs (x ∷ []) (length (xs ++ x ∷ []) - 1) (omega (arith, length-append xs (x ∷ [])))

-- it leaves the calls as they are
pub record IsQuiet (z : Sizes) (entry : LogEntry) : Type 0 where
  pub walk : walk_in entry ≡ None
  pub pair : pair_in z entry ≡ None

pub sample-quiet : (z : Sizes) (pc : ℕ) → IsQuiet z (Sample pc)
sample-quiet z pc = record { walk = refl; pair = refl }

pub is_busy-quiet : (z : Sizes) (log : List LogEntry) (entry : LogEntry) → IsQuiet z entry → is_busy (more log entry) ≡ is_busy log
is_busy-quiet z log entry quiet = ap (last_of false) (nothing_more walk_in log entry quiet.walk)

pub begun_calls-quiet : (z : Sizes) (log : List LogEntry) (entry : LogEntry) → pair_in z entry ≡ None → begun_calls z (more log entry) ≡ begun_calls z log
begun_calls-quiet z log entry none = nothing_more (pair_in z) log entry none

pub entered_calls-quiet : (z : Sizes) (log : List LogEntry) (entry : LogEntry) → IsQuiet z entry → entered_calls z (more log entry) ≡ entered_calls z log
unfolding entered_calls
entered_calls-quiet z log entry quiet = grind (arith, is_busy-quiet, begun_calls-quiet)

pub kept_calls-entered_calls : (z : Sizes) (log other : List LogEntry) → entered_calls z log ≡ entered_calls z other → kept_calls z log ≡ kept_calls z other
unfolding kept_calls
kept_calls-entered_calls z log other same = ap (kept_front z) same

pub kept_calls-quiet : (z : Sizes) (log : List LogEntry) (entry : LogEntry) → IsQuiet z entry → kept_calls z (more log entry) ≡ kept_calls z log
kept_calls-quiet z log entry quiet = kept_calls-entered_calls z (more log entry) log (entered_calls-quiet z log entry quiet)

-- no mode
pub is_on-same : (log : List LogEntry) (entry : LogEntry) → mode_in entry ≡ None → is_on (more log entry) ≡ is_on log
is_on-same log entry none = ap (last_of true) (nothing_more mode_in log entry none)

-- no sample
pub counted_samples-same : (z : Sizes) (log : List LogEntry) (entry : LogEntry) → ((before : List LogEntry) → counted_in z before entry ≡ None) → counted_samples z (more log entry) ≡ counted_samples z log
unfolding counted_samples
counted_samples-same z log entry none = grind (arith, gather-append, append-nil)

pub buckets_of-same : (z : Sizes) (log : List LogEntry) (entry : LogEntry) → ((before : List LogEntry) → counted_in z before entry ≡ None) → buckets_of z (more log entry) ≡ buckets_of z log
unfolding buckets_of
buckets_of-same z log entry none = grind (arith, counted_samples-same)

pub state_of-by : (z : Sizes) (log : List LogEntry) → state_of z log ≡ state_by z.tolimit (is_busy log) (entered_calls z log) (is_on log)
unfolding state_of
state_of-by z log = refl

pub state_of-quiet : (z : Sizes) (log : List LogEntry) (entry : LogEntry) → IsQuiet z entry → mode_in entry ≡ None → state_of z (more log entry) ≡ state_of z log
state_of-quiet z log entry quiet none = grind (arith, state_of-by, is_busy-quiet, entered_calls-quiet, is_on-same)

pub looks_of-chain : (z : Sizes) (log : List LogEntry) (slot to : ℕ) → looks_of z log slot to ≡ looks_in (chain_in (kept_calls z log) slot) to
unfolding looks_of chain_of
looks_of-chain z log slot to = refl

pub looks_of-kept_calls : (z : Sizes) (log other : List LogEntry) (slot to : ℕ) → kept_calls z log ≡ kept_calls z other → looks_of z log slot to ≡ looks_of z other slot to
looks_of-kept_calls z log other slot to same = grind (arith, looks_of-chain)

pub entries_of-by : (z : Sizes) (log : List LogEntry) → entries_of z log ≡ entries_in z.tolimit (entered_calls z log) (kept_calls z log)
unfolding entries_of
entries_of-by z log = refl

pub fronts_of-by : (z : Sizes) (log : List LogEntry) → fronts_of z log ≡ fronts_in z.slots (kept_calls z log)
unfolding fronts_of
fronts_of-by z log = refl

pub arcs_of-by : (z : Sizes) (log : List LogEntry) → arcs_of z log ≡ arcs_in z (kept_calls z log)
unfolding arcs_of
arcs_of-by z log = refl

pub entries_of-entered_calls : (z : Sizes) (log other : List LogEntry) → entered_calls z log ≡ entered_calls z other → entries_of z log ≡ entries_of z other
entries_of-entered_calls z log other same = grind (arith, entries_of-by, kept_calls-entered_calls)

pub fronts_of-entered_calls : (z : Sizes) (log other : List LogEntry) → entered_calls z log ≡ entered_calls z other → fronts_of z log ≡ fronts_of z other
fronts_of-entered_calls z log other same = grind (arith, fronts_of-by, kept_calls-entered_calls)

pub arcs_of-entered_calls : (z : Sizes) (log other : List LogEntry) → entered_calls z log ≡ entered_calls z other → arcs_of z log ≡ arcs_of z other
arcs_of-entered_calls z log other same = grind (arith, arcs_of-by, kept_calls-entered_calls)

abbrev pub pending_by : Bool → List Pair → Option Pair
pending_by busy ps = if busy then Some (last_of (record { slot = 0; to = 0 }) ps) else None

pub pending_call-by : (z : Sizes) (log : List LogEntry) → pending_call z log ≡ pending_by (is_busy log) (begun_calls z log)
unfolding pending_call
pending_call-by z log = refl

pub pending_call-quiet : (z : Sizes) (log : List LogEntry) (entry : LogEntry) → IsQuiet z entry → pending_call z (more log entry) ≡ pending_call z log
pending_call-quiet z log entry quiet = grind (arith, pending_call-by, is_busy-quiet, begun_calls-quiet)

-- the sample itself counts where sampling is on, and in the text
abbrev pub counts : Sizes → List LogEntry → ℕ → List ℕ
counts z log pc = if is_on log && is_in (text_span z) pc then pc ∷ [] else []

one : (b : Bool) (pc : ℕ) → cons_option (if b then Some pc else None) [] ≡ (if b then pc ∷ [] else [])
one b pc = grind arith

pub counted_samples-sampled : (z : Sizes) (log : List LogEntry) (pc : ℕ) → counted_samples z (more log (Sample pc)) ≡ counted_samples z log ++ counts z log pc
unfolding counted_samples
counted_samples-sampled z log pc = grind (arith, gather-append)
