-- What follows from the empty log, and a new runtime, which stands for it.
use Rattle.std.proofs.lemmas.List.Elements.{All-replicate}
use Rattle.std.proofs.Common.{All, subst, ◌≡◌, ℕ, zero, suc, ◌≤◌, true, List, [], ◌∷◌, ◌++◌, length, refl, sym, ap, ◌∙◌, arith, ◌+◌, map, replicate, slice_index, slice_index_or}
use Rattle.gmon_block.specs.declared.entry.Tos.{Tos}
use Rattle.mcount_arcs.specs.Log.{entered_calls, kept_calls, state_of, IsLegal}
use Rattle.mcount_arcs.specs.Image.{front_in, fronts_in, entries_of, fronts_of}
use Rattle.gmon_block.specs.Layout.{EntryFits, EntryFits, no_entry, Parts}
use Rattle.std.specs.List.{flat_map, range_with_len}
use Rattle.mcount_arcs.specs.declared.sizes.Sizes.{Sizes}
use Rattle.mcount_arcs.specs.declared.sizes.Width.{Width}
use Rattle.mcount_arcs.specs.declared.state.State.TheVariants.{On, Busy}
use Rattle.mcount_arcs.specs.Arcs.{arcs_of, slot_arcs}
use Rattle.std.proofs.lemmas.List.{length-replicate, get_or-replicate}
use Rattle.mcount_arcs.specs.Sizes.{AreSizes, IsWidth}
use Rattle.mcount_arcs.specs.Held.{arcs_read, view_of, IsHeld}
use Rattle.mcount_arcs.specs.declared.gmon.Cursor.{Cursor}
use Rattle.mcount_arcs.specs.Value.{StandsFor}
use Rattle.mcount_arcs.proofs.LinkLemmas.{linked_zero}
use Rattle.mcount_arcs.proofs.BucketLemmas.{buckets_of-nil}
use Rattle.mcount_arcs.proofs.CallLemmas.{pending_call-idle}

-- at first
pub state_of-nil : (z : Sizes) → 50 ≤ z.tolimit → state_of z [] ≡ On
unfolding state_of entered_calls
state_of-nil z least = grind arith

pub flat_map-none : {X Y : Type 0} (f : X → List Y) → ((x : X) → f x ≡ []) → (xs : List X) → flat_map f xs ≡ []
flat_map-none f none [] = refl
flat_map-none {X} {Y} f none (x ∷ xs) = ap (λ (ys : List Y). ys ++ flat_map f xs) (none x) ∙ flat_map-none f none xs

pub arcs_of-nil : (z : Sizes) → arcs_of z [] ≡ []
unfolding arcs_of kept_calls entered_calls
arcs_of-nil z = flat_map-none (slot_arcs z []) (λ slot. refl) (range_with_len 0 z.slots)

pub entered_calls-nil : (z : Sizes) → entered_calls z [] ≡ []
unfolding entered_calls
entered_calls-nil z = refl

pub kept_calls-nil : (z : Sizes) → kept_calls z [] ≡ []
unfolding kept_calls entered_calls
kept_calls-nil z = refl

pub IsLegal-nil : (z : Sizes) → IsLegal z []
unfolding IsLegal
IsLegal-nil z = tt

pub entries_of-nil : (z : Sizes) → 50 ≤ z.tolimit → replicate z.tolimit no_entry ≡ entries_of z []
unfolding entries_of
entries_of-nil z least = grind (arith, entered_calls-nil, kept_calls-nil)

zeros : (a n : ℕ) → replicate n 0 ≡ map (front_in []) (range_with_len a n)
zeros a zero = refl
zeros a (suc n) = ap (λ (xs : List ℕ). 0 ∷ xs) (zeros (a + 1) n)

pub fronts_of-nil : (z : Sizes) → replicate z.slots 0 ≡ fronts_of z []
unfolding fronts_of
fronts_of-nil z = zeros 0 z.slots ∙ ap (fronts_in z.slots) (sym (kept_calls-nil z))

slice_index-zeros : (n i : ℕ) → slice_index (replicate n 0) i ≡ 0
slice_index-zeros zero i = refl
slice_index-zeros (suc n) zero = refl
slice_index-zeros (suc n) (suc i) = slice_index-zeros n i

pub arcs_read-none : (z : Sizes) (tos : List Tos) (froms : List ℕ) (n : ℕ) → froms ≡ replicate n 0 → arcs_read z tos froms ≡ []
arcs_read-none z tos froms n none = grind (arith, flat_map-none, slice_index-zeros, linked_zero)

-- a new one has no log
pub StandsFor-nil : (z : Sizes) (block : Parts) → AreSizes z → block.tos ≡ replicate z.tolimit no_entry → block.counters ≡ replicate z.counters 0 → block.froms ≡ replicate z.slots 0
    → (by_hist by_hash : Width) (cursor : Cursor) → StandsFor [] (view_of (record { block = block; sizes = z; counter_width = by_hist; slot_width = by_hash; state = On; sampling = true; calls = 0; cursor = cursor }))
StandsFor-nil z block are tos counters froms by_hist by_hash cursor = record {
  legal = IsLegal-nil z;
  tos = tos ∙ entries_of-nil z are.least;
  counters = counters ∙ buckets_of-nil z;
  froms = froms ∙ fronts_of-nil z;
  state = sym (state_of-nil z are.least);
  sampling = refl;
  calls = sym (ap length (kept_calls-nil z));
  arcs = arcs_read-none z block.tos block.froms z.slots froms ∙ sym (arcs_of-nil z);
  walk = sym (pending_call-idle z [] refl);
  place = tt;
}

pub IsHeld-nil : (z : Sizes) (block : Parts) (by_hist by_hash : Width) (cursor : Cursor) → AreSizes z → IsWidth z.hist by_hist → IsWidth z.hash by_hash → block.tos ≡ replicate z.tolimit no_entry → block.counters ≡ replicate z.counters 0 → block.froms ≡ replicate z.slots 0
    → IsHeld (record { block = block; sizes = z; counter_width = by_hist; slot_width = by_hash; state = On; sampling = true; calls = 0; cursor = cursor })
IsHeld-nil z block by_hist by_hash cursor are is_hist is_hash tos counters froms = record {
  sizes = are;
  counter_width = is_hist;
  slot_width = is_hash;
  tos = ap length tos ∙ length-replicate z.tolimit no_entry;
  counters = ap length counters ∙ length-replicate z.counters 0;
  froms = ap length froms ∙ length-replicate z.slots 0;
  fits = subst (All EntryFits) (sym tos) (All-replicate EntryFits z.tolimit no_entry (record { selfpc = omega arith; count = omega arith; link = omega arith }));
  log = [];
  stands = StandsFor-nil z block are tos counters froms by_hist by_hash cursor;
  free = λ _. omega (arith, ap (λ (es : List Tos). (slice_index_or es 0 no_entry).link) tos, ap (λ (e : Tos). e.link) (get_or-replicate z.tolimit 0 no_entry no_entry (omega (arith, are.least))), are.least);
  at = λ busy. let e : On ≡ Busy = busy in cc;
  room = λ busy. let e : On ≡ Busy = busy in cc;
}
