-- The counters and the arcs of a log have the bytes of their fields.
use Rattle.std.proofs.Common.{ℕ, zero, suc, ◌+◌, ◌^◌, ◌<◌, List, arith}
use Rattle.std.specs.List.{All, AllByRecursion, flat_map, range_with_len}
use Rattle.std.proofs.lemmas.List.Elements.{recursion_from_All, All-nil, All-append, All-map}
use Rattle.gp_base.specs.declared.records.RawArc.{RawArc}
use Rattle.gp_base.specs.Fields.{ArcFits, CounterFits}
use Rattle.mcount_arcs.specs.declared.sizes.Sizes.{Sizes}
use Rattle.mcount_arcs.specs.Arcs.{CallFits, arcs_of, slot_arcs, arc_of_pairs, chain_in}
use Rattle.mcount_arcs.specs.Log.{LogEntry, Pair, kept_calls}
use Rattle.mcount_arcs.specs.Samples.{buckets_of, bucket_of}
use Rattle.mcount_arcs.specs.Sizes.{AreSizes, site_of}
use Rattle.mcount_arcs.proofs.SizeLemmas.{sites_in_order}

-- a counter has two bytes
pub counters_fit : (z : Sizes) (log : List LogEntry) → AllByRecursion CounterFits (buckets_of z log)
unfolding buckets_of
counters_fit z log = recursion_from_All CounterFits (buckets_of z log) (All-map CounterFits (bucket_of z log) (range_with_len 0 z.counters) (λ k d lt. omega arith))

-- and a call site of the text four
abbrev SiteFits : RawArc → Type 0
SiteFits arc = arc.from < 2 ^ 32

slots_fit : (z : Sizes) (pairs : List Pair) (a n : ℕ) → site_of z (a + n) < 2 ^ 32 → All SiteFits (flat_map (slot_arcs z pairs) (range_with_len a n))
slots_fit z pairs a zero fits = All-nil SiteFits
slots_fit z pairs a (suc n) fits =
    All-append SiteFits (slot_arcs z pairs a) (flat_map (slot_arcs z pairs) (range_with_len (a + 1) n))
    (All-map SiteFits (arc_of_pairs z pairs a) (chain_in pairs a) (λ k d lt. omega (arith, fits, sites_in_order z a (a + suc n) (omega arith))))
    (slots_fit z pairs (a + 1) n (omega (arith, fits, sites_in_order z (a + 1 + n) (a + suc n) (omega arith))))

sites_fit : (z : Sizes) (log : List LogEntry) → AreSizes z → All SiteFits (arcs_of z log)
unfolding arcs_of
sites_fit z log sizes = slots_fit z (kept_calls z log) 0 z.slots (omega (arith, sizes.slots, sizes.end, sites_in_order z (0 + z.slots) z.slots (omega arith)))

pub arcs_fit : (z : Sizes) (log : List LogEntry) → AreSizes z → All CallFits (arcs_of z log) → AllByRecursion ArcFits (arcs_of z log)
arcs_fit z log sizes calls = grind (arith, sites_fit, recursion_from_All)
