-- A block's three lists and its bytes.
use Rattle.std.proofs.Common.{◌≡◌, ℕ, zero, suc, ◌+◌, ◌*◌, ◌<◌, List, [], ◌∷◌, ◌++◌, length, drop, set, replicate, refl, sym, ap, ◌∙◌, arith, append_assoc, length-append}
use Rattle.std.proofs.lemmas.List.{drop_at, append-nil, replicate-append-replicate}
use Rattle.std.specs.List.{flat_map, All, AllByRecursion}
use Rattle.std.proofs.lemmas.List.Elements.{All-head, All-tail}
use Rattle.gp_base.specs.Bytes.{value_of, items_of_text, with_piece_at}
use Rattle.gp_base.proofs.Cutting.{length-spelled, cut-flat_map}
use Rattle.gp_base.proofs.LittleEndian.{value_of-le}
use Rattle.gp_base.proofs.Overwriting.{overwritten-item}
use Rattle.gmon_block.specs.declared.entry.Tos.{Tos}
use Rattle.gmon_block.specs.Layout.{Parts, EntryFits, WordFits, Fits, no_entry, entry_bytes, word_bytes, layout_of}
use Rattle.gmon_block.specs.View.{entry_of, parts_of}

entry_of-spelled : (t : Tos) → EntryFits t → entry_of (entry_bytes t) ≡ t
entry_of-spelled t h = grind arith

word_spelled : (n : ℕ) → WordFits n → value_of (word_bytes n) ≡ n
word_spelled n h = value_of-le 2 n h

by_recursion : {X : Type 0} (P : X → Type 0) (xs : List X) → All P xs → AllByRecursion P xs
by_recursion P [] all = tt
by_recursion P (x ∷ xs) all = (All-head P x xs all, by_recursion P xs (All-tail P x xs all))

-- items that are all 0
spelled-replicate : {X : Type 0} (spelling : X → List ℕ) (w n : ℕ) (x : X) → spelling x ≡ replicate w 0 → flat_map spelling (replicate n x) ≡ replicate (w * n) 0
spelled-replicate spelling w zero x e = let none : 0 ≡ w * 0 = omega arith in ap (λ (k : ℕ). replicate k 0) none
spelled-replicate spelling w (suc n) x e = grind (arith, replicate-append-replicate, spelled-replicate spelling w n x e)

length-entry : (t : Tos) → length (entry_bytes t) ≡ 12
length-entry t = refl

length-word : (n : ℕ) → length (word_bytes n) ≡ 2
length-word n = refl

-- p has t entries, c counters and f slots
pub record Counts (p : Parts) (t c f : ℕ) : Type 0 where
  pub tos : length p.tos ≡ t
  pub counters : length p.counters ≡ c
  pub froms : length p.froms ≡ f

module _ (p : Parts) (t c f : ℕ) (counts : Counts p t c f) where
  abbrev entries : List ℕ
  entries = flat_map entry_bytes p.tos

  abbrev words : List ℕ
  words = flat_map word_bytes p.counters

  abbrev slots : List ℕ
  slots = flat_map word_bytes p.froms

  length-entries : length entries ≡ 12 * t
  length-entries = omega (arith, length-spelled 12 entry_bytes length-entry p.tos, counts.tos)

  length-words : length words ≡ 2 * c
  length-words = omega (arith, length-spelled 2 word_bytes length-word p.counters, counts.counters)

  length-slots : length slots ≡ 2 * f
  length-slots = omega (arith, length-spelled 2 word_bytes length-word p.froms, counts.froms)

  pub length-layout_of : length (layout_of p) ≡ 12 * t + (2 * c + 2 * f)
  unfolding layout_of
  length-layout_of = omega (arith, length-append (entries ++ words) slots, length-append entries words, length-entries, length-words, length-slots)

  -- the lists are read back from their layout
  pub parts_of-layout_of : Fits p → parts_of t c f (layout_of p) ≡ p
  unfolding layout_of
  parts_of-layout_of fits =
      let whole : (entries ++ words) ++ slots ≡ entries ++ (words ++ slots) = append_assoc entries words slots in
      let tos : items_of_text 12 entry_of t ((entries ++ words) ++ slots) ≡ p.tos =
      ap (items_of_text 12 entry_of t) whole ∙ ap (λ (k : ℕ). items_of_text 12 entry_of k (entries ++ (words ++ slots))) (sym counts.tos)
      ∙ cut-flat_map 12 entry_of entry_bytes EntryFits length-entry entry_of-spelled p.tos (words ++ slots) (by_recursion EntryFits p.tos fits.tos) in
      let at_words : drop (12 * t) ((entries ++ words) ++ slots) ≡ words ++ slots =
      ap (drop (12 * t)) whole ∙ drop_at entries (words ++ slots) (12 * t) length-entries in
      let counters : items_of_text 2 value_of c (drop (12 * t) ((entries ++ words) ++ slots)) ≡ p.counters =
      ap (items_of_text 2 value_of c) at_words ∙ ap (λ (k : ℕ). items_of_text 2 value_of k (words ++ slots)) (sym counts.counters)
      ∙ cut-flat_map 2 value_of word_bytes WordFits length-word word_spelled p.counters slots (by_recursion WordFits p.counters fits.counters) in
      let at_slots : drop (12 * t + 2 * c) ((entries ++ words) ++ slots) ≡ slots ++ [] =
      drop_at (entries ++ words) slots (12 * t + 2 * c) (omega (arith, length-append entries words, length-entries, length-words)) ∙ sym (append-nil slots) in
      let froms : items_of_text 2 value_of f (drop (12 * t + 2 * c) ((entries ++ words) ++ slots)) ≡ p.froms =
      ap (items_of_text 2 value_of f) at_slots ∙ ap (λ (k : ℕ). items_of_text 2 value_of k (slots ++ [])) (sym counts.froms)
      ∙ cut-flat_map 2 value_of word_bytes WordFits length-word word_spelled p.froms [] (by_recursion WordFits p.froms fits.froms) in
      λ i. record { tos = tos i; counters = counters i; froms = froms i }

  -- a write over one item changes that item
  pub set_entry : (i at : ℕ) (x : Tos) → i < t → 12 * i ≡ at → with_piece_at at (entry_bytes x) (layout_of p) ≡ layout_of (record p { tos = set p.tos i x })
  unfolding layout_of
  set_entry i at x inside place =
      let inside' : i < length p.tos = omega (arith, counts.tos) in
      let new : List ℕ = flat_map entry_bytes (set p.tos i x) in
      ap (with_piece_at at (entry_bytes x)) (append_assoc entries words slots)
      ∙ overwritten-item 12 entry_bytes length-entry [] (words ++ slots) p.tos i at x inside' (omega (arith, place))
      ∙ sym (append_assoc new words slots)

  pub set_counter : (i at n : ℕ) → i < c → 12 * t + 2 * i ≡ at → with_piece_at at (word_bytes n) (layout_of p) ≡ layout_of (record p { counters = set p.counters i n })
  unfolding layout_of
  set_counter i at n inside place =
      let inside' : i < length p.counters = omega (arith, counts.counters) in
      let new : List ℕ = flat_map word_bytes (set p.counters i n) in
      ap (with_piece_at at (word_bytes n)) (append_assoc entries words slots)
      ∙ overwritten-item 2 word_bytes length-word entries slots p.counters i at n inside' (omega (arith, length-entries, place))
      ∙ sym (append_assoc entries new slots)

  pub set_slot : (i at n : ℕ) → i < f → 12 * t + 2 * c + 2 * i ≡ at → with_piece_at at (word_bytes n) (layout_of p) ≡ layout_of (record p { froms = set p.froms i n })
  unfolding layout_of
  set_slot i at n inside place =
      let inside' : i < length p.froms = omega (arith, counts.froms) in
      let new : List ℕ = flat_map word_bytes (set p.froms i n) in
      ap (λ (bs : List ℕ). with_piece_at at (word_bytes n) ((entries ++ words) ++ bs)) (sym (append-nil slots))
      ∙ overwritten-item 2 word_bytes length-word (entries ++ words) [] p.froms i at n inside' (omega (arith, length-append entries words, length-entries, length-words, place))
      ∙ ap (λ (bs : List ℕ). (entries ++ words) ++ bs) (append-nil new)

-- lists of zeros
pub layout_of-none : (t c f : ℕ) → layout_of (record { tos = replicate t no_entry; counters = replicate c 0; froms = replicate f 0 }) ≡ replicate (12 * t + (2 * c + 2 * f)) 0
unfolding layout_of
layout_of-none t c f =
    let e : flat_map entry_bytes (replicate t no_entry) ≡ replicate (12 * t) 0 = spelled-replicate entry_bytes 12 t no_entry refl in
    let w : flat_map word_bytes (replicate c 0) ≡ replicate (2 * c) 0 = spelled-replicate word_bytes 2 c 0 refl in
    let s : flat_map word_bytes (replicate f 0) ≡ replicate (2 * f) 0 = spelled-replicate word_bytes 2 f 0 refl in
    let sum : 12 * t + 2 * c + 2 * f ≡ 12 * t + (2 * c + 2 * f) = omega arith in
    rw (e, w, s, replicate-append-replicate {A = ℕ} (12 * t) (2 * c) 0, replicate-append-replicate {A = ℕ} (12 * t + 2 * c) (2 * f) 0, sum) refl
