-- What the fields of a block hold after a write, and that they still stand for three lists.
use Rattle.std.proofs.Common.{◌≡◌, ℕ, ◌+◌, ◌*◌, ◌^◌, ◌<◌, ◌≤◌, List, length, take, drop, set, replicate, slice_get, Some, sym, ap, ◌∙◌, subst, arith, length-set}
use Rattle.std.proofs.lemmas.List.{drop-drop, length-replicate, length-drop, length-take}
use Rattle.std.proofs.lemmas.List.Elements.{All-set, All-replicate}
use Rattle.gp_base.specs.Bytes.{value_of, items_of_text, with_piece_at}
use Rattle.gp_base.proofs.LittleEndian.{length-cut}
use Rattle.gp_base.proofs.Cutting.{get_cut}
use Rattle.gmon_block.specs.declared.entry.Tos.{Tos}
use Rattle.gmon_block.specs.declared.block.Block.TheInside.{Inside}
use Rattle.gmon_block.specs.Layout.{Parts, EntryFits, WordFits, Fits, no_entry, entry_bytes, word_bytes, layout_of}
use Rattle.gmon_block.specs.View.{entry_of}
use Rattle.gmon_block.specs.Held.{view_of, IsHeld}
use Rattle.gmon_block.proofs.Blocks.{Counts, length-layout_of, parts_of-layout_of, set_entry, set_counter, set_slot, layout_of-none}

pub counts : (a : Inside) → Counts (view_of a) a.tos a.counters a.froms
counts a = search length-cut

-- what a value says of its fields' counts
pub counted : (a : Inside) (p : Parts) → view_of a ≡ p → Counts p a.tos a.counters a.froms
counted a p e = subst (λ (r : Parts). Counts r a.tos a.counters a.froms) e (counts a)

-- the fields a hold the lists p
pub record Holds (a : Inside) (p : Parts) : Type 0 where
  pub shows : view_of a ≡ p
  pub held : IsHeld a

-- they do where the bytes are the layout of p
pub holds : (a : Inside) (p : Parts) → a.tos ≤ 65534 → a.counters ≤ 4194312 → a.froms ≤ 4194312
    → layout_of p ≡ a.raw → Counts p a.tos a.counters a.froms → Fits p → Holds a p
holds a p et ec ef e n fits = grind (arith, parts_of-layout_of, length-layout_of)

module _ (a : Inside) (h : IsHeld a) where
  abbrev was : Parts
  was = view_of a

  pub with_entry : (i at : ℕ) (x : Tos) (bs : List ℕ) → i < a.tos → 12 * i ≡ at → EntryFits x → bs ≡ with_piece_at at (entry_bytes x) a.raw
      → Holds (record a { raw = bs }) (record was { tos = set was.tos i x })
  with_entry i at x bs inside place fits e =
      let p : Parts = record was { tos = set was.tos i x } in
      let n : Counts p a.tos a.counters a.froms = record { tos = length-set was.tos i x ∙ (counts a).tos; counters = (counts a).counters; froms = (counts a).froms } in
      holds (record a { raw = bs }) p h.entries h.words h.slots
      (sym (set_entry was a.tos a.counters a.froms (counts a) i at x inside place) ∙ ap (with_piece_at at (entry_bytes x)) h.laid ∙ sym e)
      n (record { tos = All-set EntryFits was.tos i x fits h.fits.tos; counters = h.fits.counters; froms = h.fits.froms })

  pub with_counter : (i at n : ℕ) (bs : List ℕ) → i < a.counters → 12 * a.tos + 2 * i ≡ at → n < 2 ^ 16 → bs ≡ with_piece_at at (word_bytes n) a.raw
      → Holds (record a { raw = bs }) (record was { counters = set was.counters i n })
  with_counter i at n bs inside place fits e =
      let p : Parts = record was { counters = set was.counters i n } in
      let k : Counts p a.tos a.counters a.froms = record { tos = (counts a).tos; counters = length-set was.counters i n ∙ (counts a).counters; froms = (counts a).froms } in
      holds (record a { raw = bs }) p h.entries h.words h.slots
      (sym (set_counter was a.tos a.counters a.froms (counts a) i at n inside place) ∙ ap (with_piece_at at (word_bytes n)) h.laid ∙ sym e)
      k (record { tos = h.fits.tos; counters = All-set WordFits was.counters i n fits h.fits.counters; froms = h.fits.froms })

  pub with_slot : (i at n : ℕ) (bs : List ℕ) → i < a.froms → 12 * a.tos + 2 * a.counters + 2 * i ≡ at → n < 2 ^ 16 → bs ≡ with_piece_at at (word_bytes n) a.raw
      → Holds (record a { raw = bs }) (record was { froms = set was.froms i n })
  with_slot i at n bs inside place fits e =
      let p : Parts = record was { froms = set was.froms i n } in
      let k : Counts p a.tos a.counters a.froms = record { tos = (counts a).tos; counters = (counts a).counters; froms = length-set was.froms i n ∙ (counts a).froms } in
      holds (record a { raw = bs }) p h.entries h.words h.slots
      (sym (set_slot was a.tos a.counters a.froms (counts a) i at n inside place) ∙ ap (with_piece_at at (word_bytes n)) h.laid ∙ sym e)
      k (record { tos = h.fits.tos; counters = h.fits.counters; froms = All-set WordFits was.froms i n fits h.fits.froms })

-- a new block
pub empty : (a : Inside) → a.tos ≤ 65534 → a.counters ≤ 4194312 → a.froms ≤ 4194312 → a.raw ≡ replicate (12 * a.tos + (2 * a.counters + 2 * a.froms)) 0
    → Holds a (record { tos = replicate a.tos no_entry; counters = replicate a.counters 0; froms = replicate a.froms 0 })
empty a et ec ef e =
    let zero_entry : EntryFits no_entry = record { selfpc = omega arith; count = omega arith; link = omega arith } in
    let zero_word : WordFits 0 = omega arith in
    holds a (record { tos = replicate a.tos no_entry; counters = replicate a.counters 0; froms = replicate a.froms 0 }) et ec ef
    (layout_of-none a.tos a.counters a.froms ∙ sym e)
    (record { tos = length-replicate a.tos no_entry; counters = length-replicate {A = ℕ} a.counters 0; froms = length-replicate {A = ℕ} a.froms 0 })
    (record { tos = All-replicate EntryFits a.tos no_entry zero_entry; counters = All-replicate WordFits a.counters 0 zero_word; froms = All-replicate WordFits a.froms 0 zero_word })

-- a part of the bytes
pub length_part : (bs : List ℕ) (at n : ℕ) → at + n ≤ length bs → length (take n (drop at bs)) ≡ n
length_part bs at n h = omega (arith, length-take n (drop at bs), length-drop at bs)

-- the items, by the places of their bytes
pub get_entry : (a : Inside) (i at : ℕ) → i < a.tos → 12 * i ≡ at → slice_get (view_of a).tos i ≡ Some (entry_of (take 12 (drop at a.raw)))
get_entry a i at inside place = grind (arith, get_cut)

get_word : (bs : List ℕ) (n i from at : ℕ) → i < n → from + 2 * i ≡ at → slice_get (items_of_text 2 value_of n (drop from bs)) i ≡ Some (value_of (take 2 (drop at bs)))
get_word bs n i from at inside place = grind (arith, drop-drop, get_cut)

pub get_counter : (a : Inside) (i at : ℕ) → i < a.counters → 12 * a.tos + 2 * i ≡ at → slice_get (view_of a).counters i ≡ Some (value_of (take 2 (drop at a.raw)))
get_counter a i at inside place = get_word a.raw a.counters i (12 * a.tos) at inside place

pub get_slot : (a : Inside) (i at : ℕ) → i < a.froms → 12 * a.tos + 2 * a.counters + 2 * i ≡ at → slice_get (view_of a).froms i ≡ Some (value_of (take 2 (drop at a.raw)))
get_slot a i at inside place = get_word a.raw a.froms i (12 * a.tos + 2 * a.counters) at inside place
