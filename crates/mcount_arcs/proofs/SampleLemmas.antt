-- Logs of samples alone.
use Rattle.std.proofs.Common.{◌≡◌, ℕ, ◌<◌, Bool, true, false, ◌&&◌, cond, List, [], ◌∷◌, ◌++◌, Some, None, refl, sym, ap, ◌∙◌, Option, map, if◌then◌else◌}
use Rattle.std.specs.List.{filter, filter_map, cons_option}
use Rattle.std.proofs.lemmas.List.{map-append}
use Rattle.mcount_arcs.specs.Log.{LogEntry, Sample, is_on, is_busy, mode_in, walk_in, entered_calls, kept_calls, kept_front, state_of, IsLegalAfter, IsLegal}
use Rattle.std.proofs.lemmas.Bool.{lt-leb}
use Rattle.mcount_arcs.specs.declared.sizes.Sizes.{Sizes}
use Rattle.mcount_arcs.specs.declared.state.State.TheVariants.{On}
use Rattle.mcount_arcs.specs.Lists.{gather, last_of}
use Rattle.gp_base.specs.Spans.{is_in}
use Rattle.mcount_arcs.specs.Sizes.{text_span}
use Rattle.mcount_arcs.specs.Samples.{counted_samples, counted_in}
use Rattle.mcount_arcs.specs.Arcs.{arcs_of}
use Rattle.mcount_arcs.proofs.LogLemmas.{entered_of, state_by, arcs_of-kept_calls}
use Rattle.mcount_arcs.proofs.EmptyLogLemmas.{arcs_of-nil, kept_calls-nil}

no_other_entry : {X : Type 0} (h : LogEntry → Option X) → ((pc : ℕ) → h (Sample pc) ≡ None) → (pcs : List ℕ) → filter_map h (map Sample pcs) ≡ []
no_other_entry h none [] = refl
no_other_entry {X} h none (pc ∷ pcs) =
    ap (λ (o : Option X). cons_option o (filter_map h (map Sample pcs))) (none pc) ∙ no_other_entry h none pcs

is_on-samples : (pcs : List ℕ) → is_on (map Sample pcs) ≡ true
is_on-samples pcs = ap (last_of true) (no_other_entry mode_in (λ pc. refl) pcs)

is_busy-samples : (pcs : List ℕ) → is_busy (map Sample pcs) ≡ false
is_busy-samples pcs = ap (last_of false) (no_other_entry walk_in (λ pc. refl) pcs)

pub entered_calls-samples : (z : Sizes) (pcs : List ℕ) → entered_calls z (map Sample pcs) ≡ []
unfolding entered_calls
entered_calls-samples z pcs = search (entered_of, is_busy-samples, no_other_entry)

pub kept_calls-samples : (z : Sizes) (pcs : List ℕ) → kept_calls z (map Sample pcs) ≡ []
unfolding kept_calls
kept_calls-samples z pcs = ap (kept_front z) (entered_calls-samples z pcs)

pub arcs_of-samples : (z : Sizes) (pcs : List ℕ) → arcs_of z (map Sample pcs) ≡ []
arcs_of-samples z pcs =
    arcs_of-kept_calls z (map Sample pcs) [] (kept_calls-samples z pcs ∙ sym (kept_calls-nil z)) ∙ arcs_of-nil z

pub state_of-samples : (z : Sizes) (pcs : List ℕ) → 0 < z.tolimit → state_of z (map Sample pcs) ≡ On
unfolding state_of
state_of-samples z pcs some = search (state_by, is_busy-samples, entered_calls-samples, is_on-samples, lt-leb)

IsLegalAfter-samples : (z : Sizes) (before : List LogEntry) (pcs : List ℕ) → IsLegalAfter z before (map Sample pcs)
IsLegalAfter-samples z before [] = tt
IsLegalAfter-samples z before (pc ∷ pcs) = (tt, IsLegalAfter-samples z (before ++ Sample pc ∷ []) pcs)

pub IsLegal-samples : (z : Sizes) (pcs : List ℕ) → IsLegal z (map Sample pcs)
unfolding IsLegal
IsLegal-samples z pcs = IsLegalAfter-samples z [] pcs

cons_if : (b : Bool) (pc : ℕ) (pcs : List ℕ) → cons_option (if b then Some pc else None) pcs ≡ cond b (pc ∷ pcs) pcs
cons_if true pc pcs = refl
cons_if false pc pcs = refl

gather-samples : (z : Sizes) (before pcs : List ℕ) → gather (counted_in z) (map Sample before) (map Sample pcs) ≡ filter (is_in (text_span z)) pcs
gather-samples z before [] = refl
gather-samples z before (pc ∷ pcs) =
    let test = is_in (text_span z) pc in
    let others : gather (counted_in z) (map Sample before ++ Sample pc ∷ []) (map Sample pcs) ≡ filter (is_in (text_span z)) pcs =
    ap (λ (log : List LogEntry). gather (counted_in z) log (map Sample pcs)) (sym (map-append Sample before (pc ∷ []))) ∙ gather-samples z (before ++ pc ∷ []) pcs in
    ap (λ (b : Bool). cons_option (if b && test then Some pc else None) (gather (counted_in z) (map Sample before ++ Sample pc ∷ []) (map Sample pcs))) (is_on-samples before)
    ∙ ap (cons_option (if test then Some pc else None)) others
    ∙ cons_if test pc (filter (is_in (text_span z)) pcs)

pub counted_samples-samples : (z : Sizes) (pcs : List ℕ) → counted_samples z (map Sample pcs) ≡ filter (is_in (text_span z)) pcs
unfolding counted_samples
counted_samples-samples z pcs = gather-samples z [] pcs
