-- A runtime after a tick.
use Rattle.std.proofs.Common.{◌≡◌, ℕ, Bool, true, false, ◌&&◌, ltb, List, [], ◌∷◌, length, Some, refl, sym, ap, ◌∙◌, arith, ◌+◌, set, leb, if◌then◌else◌, min, slice_index, slice_set}
use Rattle.std.specs.List.{slice_get}
use Rattle.std.proofs.lemmas.Bool.{and_parts, leb-true, ltb-true}
use Rattle.gmon_block.specs.Layout.{Parts}
use Rattle.mcount_arcs.specs.Log.{LogEntry, Sample}
use Rattle.gp_base.specs.Spans.{is_in}
use Rattle.mcount_arcs.specs.Sizes.{AreSizes, counter_of, text_span}
use Rattle.mcount_arcs.specs.Samples.{buckets_of}
use Rattle.std.proofs.lemmas.Option.{get_or_from_slice_get}
use Rattle.mcount_arcs.specs.declared.gmon.Gmon.TheInside.{Inside}
use Rattle.mcount_arcs.specs.Held.{view_of, IsHeld}
use Rattle.mcount_arcs.specs.Value.{StandsFor, GmonValue, with_sample, with_tick}
use Rattle.mcount_arcs.proofs.LogLemmas.{more, counts, sample-quiet, state_of-quiet, is_on-same}
use Rattle.mcount_arcs.proofs.BucketLemmas.{buckets_of-uncounted, buckets_of-counted_samples}
use Rattle.mcount_arcs.proofs.QuietEntryLemmas.{StandsFor-quiet}

abbrev raise : ℕ → List ℕ → List ℕ
raise i xs = slice_set xs i (min 65535 (slice_index xs i + 1))

-- a sample changes the counters alone
StandsFor-sample : (log : List LogEntry) (v : GmonValue) (pc : ℕ) (counters : List ℕ) → StandsFor log v → counters ≡ buckets_of v.sizes (more log (Sample pc)) → StandsFor (more log (Sample pc)) (record v { counters = counters })
StandsFor-sample log v pc counters stands counters_are =
    StandsFor-quiet log (Sample pc) v counters v.state v.sampling (sample-quiet v.sizes pc) tt stands counters_are
    (stands.state ∙ sym (state_of-quiet v.sizes log (Sample pc) (sample-quiet v.sizes pc) refl)) (stands.sampling ∙ sym (is_on-same log (Sample pc) refl))

pub by_test : (log : List LogEntry) (v : GmonValue) (pc : ℕ) (b : Bool) → AreSizes v.sizes → StandsFor log v → (v.sampling && is_in (text_span v.sizes) pc) ≡ b → StandsFor (more log (Sample pc)) (if b then with_sample (counter_of v.sizes pc) v else v)
by_test log v pc true are stands test =
    let parts = and_parts v.sampling (is_in (text_span v.sizes) pc) test in
    let ends = and_parts (leb v.sizes.low pc) (ltb pc v.sizes.high) parts.1 in
    let one : counts v.sizes log pc ≡ pc ∷ [] = ap (λ (b : Bool). if b && is_in (text_span v.sizes) pc then pc ∷ [] else []) (sym stands.sampling) ∙ ap (λ (b : Bool). if b then pc ∷ [] else []) test in
    let raised = buckets_of-counted_samples v.sizes log pc are one (leb-true v.sizes.low pc ends.0) (ltb-true pc v.sizes.high ends.1) in
    StandsFor-sample log v pc (with_sample (counter_of v.sizes pc) v).counters stands (ap (raise (counter_of v.sizes pc)) stands.counters ∙ raised)
by_test log v pc false are stands test =
    let none : counts v.sizes log pc ≡ [] = ap (λ (b : Bool). if b && is_in (text_span v.sizes) pc then pc ∷ [] else []) (sym stands.sampling) ∙ ap (λ (b : Bool). if b then pc ∷ [] else []) test in
    StandsFor-sample log v pc v.counters stands (stands.counters ∙ sym (buckets_of-uncounted v.sizes log pc none))

-- a tick adds its sample
pub StandsFor-ticked : (log : List LogEntry) (v : GmonValue) (pc : ℕ) → AreSizes v.sizes → StandsFor log v → StandsFor (more log (Sample pc)) (with_tick pc v)
StandsFor-ticked log v pc are stands = search by_test

-- a tick changes the counters alone
pub IsHeld-ticked : (a : Inside) (block : Parts) (counters : List ℕ) (log : List LogEntry) → IsHeld a → block ≡ record a.block { counters = counters } → length counters ≡ length a.block.counters → StandsFor log (view_of (record a { block = block })) → IsHeld (record a { block = block })
IsHeld-ticked a block counters log held same long stands = grind arith

-- the test of a tick, on the fields
pub tested : (a : Inside) (v : GmonValue) (pc : ℕ) (b : Bool) → view_of a ≡ v → b ≡ (v.sampling && is_in (text_span v.sizes) pc) → b ≡ true → (a.sampling && is_in (text_span a.sizes) pc) ≡ true
tested a v pc b same is yes_it = ap (λ (u : GmonValue). u.sampling && is_in (text_span u.sizes) pc) same ∙ sym is ∙ yes_it

-- the write that a tick makes
pub wrote : (a : Inside) (pc k n m : ℕ) (block : Parts) → k ≡ counter_of a.sizes pc → (a.sampling && is_in (text_span a.sizes) pc) ≡ true
    → slice_get a.block.counters k ≡ Some n → m ≡ min (n + 1) 65535
    → block ≡ record a.block { counters = slice_set a.block.counters k m }
    → view_of (record a { block = block }) ≡ with_tick pc (view_of a)
wrote a pc k n m block is test read more_one set = grind (arith, get_or_from_slice_get)
