-- The links of the entries spell the chains.
use Rattle.std.proofs.Common.{◌≡◌, ℕ, zero, suc, ◌<◌, ◌≤◌, List, [], ◌∷◌, length, Some, inl, inr, refl, sym, ap, ◌∙◌, arith, ◌+◌, map, slice_index, drop}
use Rattle.std.proofs.lemmas.Option.{same_Some, slice_get_within, get_or_from_slice_get}
use Rattle.std.specs.List.{slice_get, flat_map, range_with_len}
use Rattle.gmon_block.specs.declared.entry.Tos.{Tos}
use Rattle.mcount_arcs.specs.Log.{Pair, distinct_count}
use Rattle.mcount_arcs.specs.Arcs.{chain_in, arcs_in, slot_arcs}
use Rattle.mcount_arcs.specs.Image.{index_in, index_at, entry_in, entries_in, fronts_in}
use Rattle.mcount_arcs.specs.declared.sizes.Sizes.{Sizes}
use Rattle.mcount_arcs.specs.Held.{linked_entries, arc_read, slot_read, arcs_read}
use Rattle.mcount_arcs.specs.Sizes.{site_of}
use Rattle.std.proofs.lemmas.List.{drop_all, drop_more}
use Rattle.mcount_arcs.specs.ArcsLeft.{AreZero}
use Rattle.mcount_arcs.proofs.ChainLemmas.{pair, in_chain}
use Rattle.mcount_arcs.proofs.EntryLemmas.{first_at_zero, entry-at}
use Rattle.mcount_arcs.proofs.EntryListLemmas.{read-entry, read-front, length-entries_in}
use Rattle.mcount_arcs.proofs.ChainLengths.{chain_short}
use Rattle.mcount_arcs.proofs.IndexLemmas.{at_place}

abbrev spelled : List Pair → ℕ → List ℕ → List Tos
spelled ps slot xs = map (λ x. entry_in ps (pair slot x)) xs

pub linked_zero : (n : ℕ) (tos : List Tos) → linked_entries n tos 0 ≡ []
linked_zero n tos = grind arith

linked_some : (n : ℕ) (tos : List Tos) (i : ℕ) (e : Tos) → 0 < i → slice_get tos i ≡ Some e → linked_entries (suc n) tos i ≡ e ∷ linked_entries n tos e.link
linked_some n tos i e some at = grind (arith, get_or_from_slice_get)

-- the links spell the chain
pub links_spell : (limit : ℕ) (all ps : List Pair) (slot n i : ℕ) → length (chain_in ps slot) ≤ n + i → linked_entries n (entries_in limit all ps) (index_at ps slot (slice_get (chain_in ps slot) i)) ≡ spelled ps slot (drop i (chain_in ps slot))
links_spell limit all ps slot zero i long = grind (arith, drop_all)
links_spell limit all ps slot (suc n) i long =
    let c = chain_in ps slot in
    let tos = entries_in limit all ps in
    elim (at_place ps slot i) [
      | inl past ↦ ap (linked_entries (suc n) tos) past.1 ∙ linked_zero (suc n) tos ∙ ap (spelled ps slot) (sym (drop_all i c past.0))
      | inr here ↦
          let x = here.0 in
          let e = entry_in ps (pair slot x) in
          let lt = slice_get_within c i x here.1 in
          let next : i + 1 ≡ suc i = omega arith in
          let rest : drop i c ≡ x ∷ drop (suc i) c = drop_more c i 0 lt ∙ ap (λ (y : ℕ). y ∷ drop (i + 1) c) (get_or_from_slice_get c i x 0 here.1) ∙ ap (λ (k : ℕ). x ∷ drop k c) next in
          ap (linked_entries (suc n) tos) here.2
          ∙ linked_some n tos (index_in ps (pair slot x)) e here.3 (read-entry limit all ps (pair slot x) (in_chain ps slot i x here.1))
          ∙ ap (λ (l : ℕ). e ∷ linked_entries n tos l) (ap (λ (t : Tos). t.link) (entry-at ps slot i x here.1))
          ∙ ap (λ (es : List Tos). e ∷ es) (links_spell limit all ps slot n (suc i) (omega arith))
          ∙ ap (spelled ps slot) (sym rest)
    ]

map_map : {X Y Z : Type 0} (f : Y → Z) (g : X → Y) (xs : List X) → map f (map g xs) ≡ map (λ x. f (g x)) xs
map_map f g [] = refl
map_map {X} {Y} {Z} f g (x ∷ xs) = ap (λ (zs : List Z). f (g x) ∷ zs) (map_map f g xs)

flat_map_agree : {Y : Type 0} (f g : ℕ → List Y) (a n : ℕ) → ((k : ℕ) → k < a + n → f k ≡ g k) → flat_map f (range_with_len a n) ≡ flat_map g (range_with_len a n)
flat_map_agree f g a zero agree = refl
flat_map_agree {Y} f g a (suc n) agree = grind (arith, flat_map_agree f g (a + 1) n)

slot_reads : (z : Sizes) (all ps : List Pair) (slot : ℕ) → distinct_count ps < z.tolimit → slot < z.slots → slot_read z (entries_in z.tolimit all ps) (fronts_in z.slots ps) slot ≡ slot_arcs z ps slot
slot_reads z all ps slot places within =
    let es = entries_in z.tolimit all ps in
    let c = chain_in ps slot in
    let long : length es ≡ z.tolimit = length-entries_in z.tolimit all ps places in
    let start : slice_index (fronts_in z.slots ps) slot ≡ index_at ps slot (slice_get c 0) = read-front z.slots ps slot within ∙ ap (index_at ps slot) (first_at_zero c) in
    let short = chain_short ps slot in
    ap (λ (i : ℕ). map (arc_read (site_of z slot)) (linked_entries (length es) es i)) start
    ∙ ap (map (arc_read (site_of z slot))) (links_spell z.tolimit all ps slot (length es) 0 (omega arith))
    ∙ map_map (arc_read (site_of z slot)) (λ x. entry_in ps (pair slot x)) c

-- the arcs that are read from the block are those of the calls
pub arcs_reads : (z : Sizes) (all ps : List Pair) → distinct_count ps < z.tolimit → arcs_read z (entries_in z.tolimit all ps) (fronts_in z.slots ps) ≡ arcs_in z ps
arcs_reads z all ps places =
    flat_map_agree (slot_read z (entries_in z.tolimit all ps) (fronts_in z.slots ps)) (slot_arcs z ps) 0 z.slots (λ k lt. slot_reads z all ps k places (omega arith))

-- behind an entry of a chain stands the rest of the chain
pub linked_more : (limit : ℕ) (all ps : List Pair) (slot i next : ℕ) (e : Tos) → distinct_count ps < limit
    → next ≡ index_at ps slot (slice_get (chain_in ps slot) i) → (next ≡ 0 → ⊥) → slice_get (entries_in limit all ps) next ≡ Some e
    → (linked_entries (length (entries_in limit all ps)) (entries_in limit all ps) next ≡ e ∷ linked_entries (length (entries_in limit all ps)) (entries_in limit all ps) e.link) × (e.link ≡ index_at ps slot (slice_get (chain_in ps slot) (suc i)))
linked_more limit all ps slot i next e places is some read =
    let es = entries_in limit all ps in
    let c = chain_in ps slot in
    let n = length es in
    let long : n ≡ limit = length-entries_in limit all ps places in
    let short = chain_short ps slot in
    elim (at_place ps slot i) [
      | inl past ↦ absurd (some (is ∙ past.1))
      | inr here ↦
          let x = here.0 in
          let entry : e ≡ entry_in ps (pair slot x) = same_Some e (entry_in ps (pair slot x)) (sym read ∙ ap (slice_get es) (is ∙ here.2) ∙ read-entry limit all ps (pair slot x) (in_chain ps slot i x here.1)) in
          let link : e.link ≡ index_at ps slot (slice_get c (suc i)) = ap (λ (t : Tos). t.link) (entry ∙ entry-at ps slot i x here.1) in
          let lt = slice_get_within c i x here.1 in
          let next_i : i + 1 ≡ suc i = omega arith in
          let rest : drop i c ≡ x ∷ drop (suc i) c = drop_more c i 0 lt ∙ ap (λ (y : ℕ). y ∷ drop (i + 1) c) (get_or_from_slice_get c i x 0 here.1) ∙ ap (λ (k : ℕ). x ∷ drop k c) next_i in (
            ap (linked_entries n es) is ∙ links_spell limit all ps slot n i (omega arith) ∙ ap (spelled ps slot) rest ∙ ap (λ (t : Tos). t ∷ spelled ps slot (drop (suc i) c)) (sym entry)
                ∙ ap (λ (ts : List Tos). e ∷ ts) (sym (ap (linked_entries n es) link ∙ links_spell limit all ps slot n (suc i) (omega arith))),
            link,
          )
    ]

-- slots without arcs give none
pub skip_empty : (z : Sizes) (es : List Tos) (fs : List ℕ) (a n m : ℕ) → AreZero fs a (a + m) → flat_map (slot_read z es fs) (range_with_len a (m + n)) ≡ flat_map (slot_read z es fs) (range_with_len (a + m) n)
skip_empty z es fs a n zero none = grind arith
skip_empty z es fs a n (suc m) none =
    let first : slice_index fs a ≡ 0 = none a (omega arith) (omega arith) in
    let same : suc m + n ≡ suc (m + n) = omega arith in
    grind (arith, linked_zero, skip_empty z es fs (a + 1) n m)
