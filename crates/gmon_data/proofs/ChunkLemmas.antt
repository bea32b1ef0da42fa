-- A list in chunks, and the starts of its chunks.
use Rattle.std.proofs.Common.{◌≡◌, ℕ, zero, suc, ◌+◌, ◌-◌, ◌<◌, ◌≤◌, List, [], ◌∷◌, ◌++◌, length, take, drop, set, map, insert, slice_get, get_or, Some, refl, sym, ap, subst, ◌∙◌, append_assoc, append-nil, length-append, take-append-drop, add-one, add-zero, zero-add, add_assoc, arith, Bool, true, false, ltb}
use Rattle.std.specs.List.{AllByRecursion}
use Rattle.std.specs.List.Sorted.{IsNonDecreasing}
use Rattle.std.specs.Global.{Vec}
use Rattle.std.proofs.lemmas.Bool.{ltb-false}
use Rattle.std.proofs.lemmas.Option.{slice_get_read}
use Rattle.std.proofs.lemmas.List.{get_or-map, get_or-set_same, get_or_default, length-map, length-set, length-take-le, set-append_left, set-append_right}
use Rattle.std.proofs.lemmas.List.Edits.{get_or-insert_above, get_or-insert_at, get_or-insert_below, length-insert, insert-append_left, insert-append_right}
use Rattle.gmon_data.specs.Chunks.{items_of, starts_from, IsChunk, IsChunked, IsChunkOf}
use Rattle.gmon_data.specs.ChunkSteps.{starts_with_one_more, HasRoom}

-- ---- plain lists

within_first : {A : Type 0} (xs ys : List A) (j : ℕ) → j < length xs → slice_get (xs ++ ys) j ≡ slice_get xs j
within_first [] ys j lt = absurd (let f : suc j ≤ 0 = lt in omega (arith, f))
within_first (x ∷ xs) ys zero lt = refl
within_first (x ∷ xs) ys (suc j) lt = within_first xs ys j (omega (arith, lt))

past_first : {A : Type 0} (xs ys : List A) (j : ℕ) → slice_get (xs ++ ys) (length xs + j) ≡ slice_get ys j
past_first [] ys j = ap (slice_get ys) (zero-add j)
past_first (x ∷ xs) ys j = by (suc (length xs) + j) (omega arith) ∙ past_first xs ys j
  where
    by : (n : ℕ) → n ≡ suc (length xs + j) → slice_get (x ∷ (xs ++ ys)) n ≡ slice_get (xs ++ ys) (length xs + j)
    by n e = grind arith

set_past_first : {A : Type 0} (xs ys : List A) (j : ℕ) (x : A) → set (xs ++ ys) (length xs + j) x ≡ xs ++ set ys j x
set_past_first xs ys j x =
    set-append_right xs ys (length xs) (length xs + j) x refl (omega arith) ∙ ap (λ (k : ℕ). xs ++ set ys k x) (omega arith)

insert_past_first : {A : Type 0} (xs ys : List A) (j : ℕ) (x : A) → insert (xs ++ ys) (length xs + j) x ≡ xs ++ insert ys j x
insert_past_first xs ys j x =
    insert-append_right xs ys (length xs) (length xs + j) x refl (omega arith) ∙ ap (λ (k : ℕ). xs ++ insert ys k x) (omega arith)

-- ---- starts that are bumped one after the other

pub length-bumped : (c : ℕ) (starts : List ℕ) → length (starts_with_one_more c starts) ≡ length starts
length-bumped zero starts = length-map starts (λ (n : ℕ). n + 1)
length-bumped (suc c) [] = refl
length-bumped (suc c) (s ∷ ss) = ap suc (length-bumped c ss)

bumped_at : (c k : ℕ) (starts : List ℕ) → c ≤ k → k < length starts → get_or (starts_with_one_more c starts) k 0 ≡ get_or starts k 0 + 1
bumped_at c k [] le lt = absurd (let f : suc k ≤ 0 = lt in omega (arith, f))
bumped_at zero k (s ∷ ss) le lt = get_or-map (λ (n : ℕ). n + 1) (s ∷ ss) k 0 0 lt
bumped_at (suc c) zero (s ∷ ss) le lt = absurd (let f : suc c ≤ 0 = le in omega (arith, f))
bumped_at (suc c) (suc k) (s ∷ ss) le lt = bumped_at c k ss (omega (arith, le)) (omega (arith, lt))

old_at : (new old : List ℕ) (k d : ℕ) → length new ≡ length old → k < length old → get_or (take k new ++ drop k old) k d ≡ get_or old k d
old_at new [] k d same lt = absurd (let f : suc k ≤ 0 = lt in omega (arith, f))
old_at [] (y ∷ ys) k d same lt = absurd cc
old_at (x ∷ xs) (y ∷ ys) zero d same lt = refl
old_at (x ∷ xs) (y ∷ ys) (suc k) d same lt = old_at xs ys k d (omega (arith, same)) (omega (arith, lt))

one_more_new : (new old : List ℕ) (k x : ℕ) → length new ≡ length old → k < length old → get_or new k 0 ≡ x → set (take k new ++ drop k old) k x ≡ take (suc k) new ++ drop (suc k) old
one_more_new new [] k x same lt is = absurd (let f : suc k ≤ 0 = lt in omega (arith, f))
one_more_new [] (y ∷ ys) k x same lt is = absurd cc
one_more_new (n ∷ ns) (y ∷ ys) zero x same lt is = ap (λ (z : ℕ). z ∷ ys) (sym is)
one_more_new (n ∷ ns) (y ∷ ys) (suc k) x same lt is = ap (λ (l : List ℕ). n ∷ l) (one_more_new ns ys k x (omega (arith, same)) (omega (arith, lt)) is)

pub one_more_bumped : (starts now : List ℕ) (c k x : ℕ) → now ≡ take k (starts_with_one_more c starts) ++ drop k starts → c ≤ k → k < length starts → x ≡ get_or now k x
    → set now k (x + 1) ≡ take (k + 1) (starts_with_one_more c starts) ++ drop (k + 1) starts
one_more_bumped starts now c k x is le lt read = grind (arith, length-bumped, old_at, get_or_default, bumped_at, one_more_new)

module _ {T : Type 0} where
  abbrev items : Vec T → List T
  items c = c.items

  -- how many items stand before chunk c
  abbrev pub before : ℕ → List (Vec T) → ℕ
  before zero cs = 0
  before (suc c) [] = 0
  before (suc c) (x ∷ xs) = length x.items + before c xs

  pub length-starts : (n : ℕ) (cs : List (Vec T)) → length (starts_from n cs) ≡ length cs
  length-starts n [] = refl
  length-starts n (x ∷ xs) = ap suc (length-starts (n + length x.items) xs)

  pub start_at : (n c : ℕ) (cs : List (Vec T)) → c < length cs → (d : ℕ) → get_or (starts_from n cs) c d ≡ n + before c cs
  start_at n c [] lt d = absurd (let f : suc c ≤ 0 = lt in omega (arith, f))
  start_at n zero (x ∷ xs) lt d = omega arith
  start_at n (suc c) (x ∷ xs) lt d = start_at (n + length x.items) c xs (omega (arith, lt)) d ∙ omega arith

  -- ---- the starts rise

  pub starts_rise : (n : ℕ) (cs : List (Vec T)) → IsNonDecreasing (starts_from n cs)
  starts_rise n [] i j d le lt = absurd (let f : suc j ≤ 0 = lt in omega (arith, f))
  starts_rise n (x ∷ xs) zero zero d le lt = omega arith
  starts_rise n (x ∷ xs) zero (suc j) d le lt = grind (arith, length-starts, start_at)
  starts_rise n (x ∷ xs) (suc i) zero d le lt = absurd (let f : suc i ≤ 0 = le in omega (arith, f))
  starts_rise n (x ∷ xs) (suc i) (suc j) d le lt = starts_rise (n + length x.items) xs i j d (omega (arith, le)) (omega (arith, lt))

  pub first_start : (cs : List (Vec T)) (starts : List ℕ) (i : ℕ) → starts ≡ starts_from 0 cs → i < length (items_of cs) → slice_get starts 0 ≡ Some 0
  first_start [] starts i is lt = absurd (let f : suc i ≤ 0 = lt in omega (arith, f))
  first_start (x ∷ xs) starts i is lt = ap (λ (s : List ℕ). slice_get s 0) is

  pub rising_starts : (cs : List (Vec T)) (starts : List ℕ) → starts ≡ starts_from 0 cs → IsNonDecreasing starts
  rising_starts cs starts is = subst (λ (s : List ℕ). IsNonDecreasing s) (sym is) (starts_rise 0 cs)

  -- ---- the chunk of an item has it

  ends_within : (n i c : ℕ) (cs : List (Vec T)) (w : Vec T) → c < length cs → i < n + length (items_of cs)
      → ((k : ℕ) → c < k → k < length (starts_from n cs) → i < get_or (starts_from n cs) k 0) → i < n + before c cs + length (get_or cs c w).items
  ends_within n i c [] w lt within to = absurd (let f : suc c ≤ 0 = lt in omega (arith, f))
  ends_within n i zero (x ∷ []) w lt within to = omega (arith, within, length-append x.items [])
  ends_within n i zero (x ∷ y ∷ ys) w lt within to = let next : i < n + length x.items = to 1 (omega arith) (omega arith) in omega (arith, next)
  ends_within n i (suc c) (x ∷ xs) w lt within to =
      let rest = ends_within (n + length x.items) i c xs w (omega (arith, lt)) (omega (arith, within, length-append x.items (items_of xs)))
      (λ k above below. to (suc k) (omega (arith, above)) (omega (arith, below))) in
      omega (arith, rest)

  -- where item i is in its chunk
  pub record IsInChunk (cs : List (Vec T)) (i c : ℕ) : Type 0 where
    pub inside : c < length cs
    pub from : before c cs ≤ i
    pub below : (w : Vec T) → i < before c cs + length (get_or cs c w).items

  pub in_chunk : (cs : List (Vec T)) (starts : List ℕ) (i c : ℕ) → starts ≡ starts_from 0 cs → i < length (items_of cs) → IsChunkOf starts i c → IsInChunk cs i c
  in_chunk cs starts i c is within at =
      let at' : IsChunkOf (starts_from 0 cs) i c = subst (λ (s : List ℕ). IsChunkOf s i c) is at in
      let inside : c < length cs = omega (arith, at'.inside, length-starts 0 cs) in
      record {
        inside = inside;
        from = omega (arith, at'.from, start_at 0 c cs inside 0);
        below = λ w. let end = ends_within 0 i c cs w inside (omega (arith, within)) at'.to in omega (arith, end);
      }

  -- what a read of the starts gives
  pub start_read : (cs : List (Vec T)) (starts : List ℕ) (c start : ℕ) → starts ≡ starts_from 0 cs → c < length cs → start ≡ get_or starts c start → start ≡ before c cs
  start_read cs starts c start is lt at = at ∙ ap (λ (s : List ℕ). get_or s c start) is ∙ start_at 0 c cs lt start ∙ zero-add (before c cs)

  pub below_read : (cs : List (Vec T)) (i c start : ℕ) (w : Vec T) → IsInChunk cs i c → start ≡ before c cs → w ≡ get_or cs c w → i - start < length w.items
  below_read cs i c start w at is read = grind arith

  -- ---- an item, and another one in its place

  pub item_at : (cs : List (Vec T)) (c j : ℕ) (w : Vec T) → c < length cs → j < length (get_or cs c w).items → slice_get (items_of cs) (before c cs + j) ≡ slice_get (get_or cs c w).items j
  item_at [] c j w lt inside = absurd (let f : suc c ≤ 0 = lt in omega (arith, f))
  item_at (x ∷ xs) zero j w lt inside = ap (slice_get (x.items ++ items_of xs)) (zero-add j) ∙ within_first x.items (items_of xs) j inside
  item_at (x ∷ xs) (suc c) j w lt inside = grind (arith, past_first, item_at xs c j w)

  pub item_read : (cs : List (Vec T)) (value : List T) (i c start : ℕ) (w : Vec T) (x : T) → items_of cs ≡ value → IsInChunk cs i c → start ≡ before c cs → w ≡ get_or cs c w
      → x ≡ get_or w.items (i - start) x → slice_get value i ≡ Some x
  item_read cs value i c start w x view at is read item = grind (arith, item_at, slice_get_read)

  pub item_set : (cs : List (Vec T)) (c j : ℕ) (w new : Vec T) (x : T) → c < length cs → j < length (get_or cs c w).items → new.items ≡ set (get_or cs c w).items j x
      → items_of (set cs c new) ≡ set (items_of cs) (before c cs + j) x
  item_set [] c j w new x lt inside is = absurd (let f : suc c ≤ 0 = lt in omega (arith, f))
  item_set (y ∷ ys) zero j w new x lt inside is = grind (arith, set-append_left)
  item_set (y ∷ ys) (suc c) j w new x lt inside is =
      ap (λ (l : List T). y.items ++ l) (item_set ys c j w new x (omega (arith, lt)) inside is) ∙ sym (set_past_first y.items (items_of ys) (before c ys + j) x)
      ∙ ap (λ (k : ℕ). set (y.items ++ items_of ys) k x) (sym (add_assoc (length y.items) (before c ys) j))

  pub item_inserted : (cs : List (Vec T)) (c j : ℕ) (w new : Vec T) (x : T) → c < length cs → j ≤ length (get_or cs c w).items → new.items ≡ insert (get_or cs c w).items j x
      → items_of (set cs c new) ≡ insert (items_of cs) (before c cs + j) x
  item_inserted [] c j w new x lt inside is = absurd (let f : suc c ≤ 0 = lt in omega (arith, f))
  item_inserted (y ∷ ys) zero j w new x lt inside is = grind (arith, insert-append_left)
  item_inserted (y ∷ ys) (suc c) j w new x lt inside is =
      ap (λ (l : List T). y.items ++ l) (item_inserted ys c j w new x (omega (arith, lt)) inside is) ∙ sym (insert_past_first y.items (items_of ys) (before c ys + j) x)
      ∙ ap (λ (k : ℕ). insert (y.items ++ items_of ys) k x) (sym (add_assoc (length y.items) (before c ys) j))

  -- ---- what stays where one chunk is another

  filled_set : (cs : List (Vec T)) (c : ℕ) (new : Vec T) → IsChunk new → AllByRecursion IsChunk cs → AllByRecursion IsChunk (set cs c new)
  filled_set [] c new some all = tt
  filled_set (x ∷ xs) zero new some all = (some, all.1)
  filled_set (x ∷ xs) (suc c) new some all = (all.0, filled_set xs c new some all.1)

  filled_at : (cs : List (Vec T)) (c : ℕ) (w : Vec T) → c < length cs → AllByRecursion IsChunk cs → IsChunk (get_or cs c w)
  filled_at [] c w lt all = absurd (let f : suc c ≤ 0 = lt in omega (arith, f))
  filled_at (x ∷ xs) zero w lt all = all.0
  filled_at (x ∷ xs) (suc c) w lt all = filled_at xs c w (omega (arith, lt)) all.1

  pub chunk_at : (cs : List (Vec T)) (c : ℕ) (w : Vec T) → c < length cs → w ≡ get_or cs c w → AllByRecursion IsChunk cs → IsChunk w
  chunk_at cs c w lt read all = subst (λ (v : Vec T). IsChunk v) (sym read) (filled_at cs c w lt all)

  resized : (w new : Vec T) → length new.items ≡ length w.items → IsChunk w → IsChunk new
  resized w new same chunk = record { some = omega (arith, same, chunk.some); few = omega (arith, same, chunk.few) }

  starts_set : (n c : ℕ) (cs : List (Vec T)) (w new : Vec T) → c < length cs → length new.items ≡ length (get_or cs c w).items → starts_from n (set cs c new) ≡ starts_from n cs
  starts_set n c [] w new lt same = absurd (let f : suc c ≤ 0 = lt in omega (arith, f))
  starts_set n zero (x ∷ xs) w new lt same = ap (λ (k : ℕ). n ∷ starts_from (n + k) xs) same
  starts_set n (suc c) (x ∷ xs) w new lt same = ap (λ (l : List ℕ). n ∷ l) (starts_set (n + length x.items) c xs w new (omega (arith, lt)) same)

  -- an item is another one
  pub chunked_set : (cs : List (Vec T)) (starts : List ℕ) (len i c start : ℕ) (w new : Vec T) (x : T) → IsChunked cs starts len → IsInChunk cs i c → start ≡ before c cs → w ≡ get_or cs c w
      → new.items ≡ set w.items (i - start) x → IsChunked (set cs c new) starts len × (items_of (set cs c new) ≡ set (items_of cs) i x)
  chunked_set cs starts len i c start w new x chunked at is read made =
      let inside = below_read cs i c start w at is read in
      let inside' : i - start < length (get_or cs c w).items = subst (λ (v : Vec T). i - start < length v.items) read inside in
      let made' : new.items ≡ set (get_or cs c w).items (i - start) x = made ∙ ap (λ (v : Vec T). set v.items (i - start) x) read in
      let place : before c cs + (i - start) ≡ i = omega (arith, is, at.from) in
      let same : length new.items ≡ length w.items = ap length made ∙ length-set w.items (i - start) x in
      let all : items_of (set cs c new) ≡ set (items_of cs) i x = item_set cs c (i - start) w new x at.inside inside' made' ∙ ap (λ (k : ℕ). set (items_of cs) k x) place in (
        record {
          filled = filled_set cs c new (resized w new same (chunk_at cs c w at.inside read chunked.filled)) chunked.filled;
          placed = chunked.placed ∙ sym (starts_set 0 c cs w new at.inside (same ∙ ap (λ (v : Vec T). length v.items) read));
          counted = chunked.counted ∙ sym (ap length all ∙ length-set (items_of cs) i x);
        },
        all,
      )

  pub items_before : (cs : List (Vec T)) (c : ℕ) (w : Vec T) → c < length cs → before c cs + length (get_or cs c w).items ≤ length (items_of cs)
  items_before [] c w lt = absurd (let f : suc c ≤ 0 = lt in omega (arith, f))
  items_before (y ∷ ys) zero w lt = omega (arith, length-append y.items (items_of ys))
  items_before (y ∷ ys) (suc c) w lt = omega (arith, length-append y.items (items_of ys), items_before ys c w (omega (arith, lt)))

  before_within : (c : ℕ) (cs : List (Vec T)) → before c cs ≤ length (items_of cs)
  before_within zero cs = omega arith
  before_within (suc c) [] = omega arith
  before_within (suc c) (x ∷ xs) = omega (arith, length-append x.items (items_of xs), before_within c xs)

  pub start_below : (cs : List (Vec T)) (starts : List ℕ) (k : ℕ) → starts ≡ starts_from 0 cs → k < length starts → get_or starts k 0 ≤ length (items_of cs)
  start_below cs starts k is lt = grind (arith, length-starts, start_at, before_within)

  -- ---- a chunk with the items of another one

  items_same : (cs : List (Vec T)) (c : ℕ) (w new : Vec T) → c < length cs → new.items ≡ (get_or cs c w).items → items_of (set cs c new) ≡ items_of cs
  items_same [] c w new lt is = absurd (let f : suc c ≤ 0 = lt in omega (arith, f))
  items_same (x ∷ xs) zero w new lt is = ap (λ (l : List T). l ++ items_of xs) is
  items_same (x ∷ xs) (suc c) w new lt is = ap (λ (l : List T). x.items ++ l) (items_same xs c w new (omega (arith, lt)) is)

  pub chunked_same : (cs : List (Vec T)) (starts : List ℕ) (len c : ℕ) (w new : Vec T) → IsChunked cs starts len → c < length cs → w ≡ get_or cs c w → new.items ≡ w.items
      → IsChunked (set cs c new) starts len × (items_of (set cs c new) ≡ items_of cs)
  chunked_same cs starts len c w new chunked lt read made = grind (arith, items_same, filled_set, chunk_at, starts_set)

  -- ---- an item at the end

  items_push : (cs : List (Vec T)) (b : Vec T) → items_of (cs ++ b ∷ []) ≡ items_of cs ++ b.items
  items_push [] b = append-nil b.items
  items_push (x ∷ xs) b = ap (λ (l : List T). x.items ++ l) (items_push xs b) ∙ sym (append_assoc x.items (items_of xs) b.items)

  filled_push : (cs : List (Vec T)) (b : Vec T) → IsChunk b → AllByRecursion IsChunk cs → AllByRecursion IsChunk (cs ++ b ∷ [])
  filled_push [] b some all = (some, tt)
  filled_push (x ∷ xs) b some all = (all.0, filled_push xs b some all.1)

  starts_push : (n : ℕ) (cs : List (Vec T)) (b : Vec T) → starts_from n (cs ++ b ∷ []) ≡ starts_from n cs ++ (n + length (items_of cs)) ∷ []
  starts_push n [] b = ap (λ (k : ℕ). k ∷ []) (sym (add-zero n))
  starts_push n (x ∷ xs) b = grind (arith, length-append, starts_push (n + length x.items) xs b)

  pub chunk_added : (cs : List (Vec T)) (starts : List ℕ) (len : ℕ) (b : Vec T) (x : T) → IsChunked cs starts len → b.items ≡ x ∷ []
      → IsChunked (cs ++ b ∷ []) (starts ++ len ∷ []) (len + 1) × (items_of (cs ++ b ∷ []) ≡ items_of cs ++ x ∷ [])
  chunk_added cs starts len b x chunked one = grind (arith, items_push, filled_push, starts_push, length-append)

  last_items : (cs : List (Vec T)) (c : ℕ) (w new : Vec T) (x : T) → suc c ≡ length cs → new.items ≡ (get_or cs c w).items ++ x ∷ [] → items_of (set cs c new) ≡ items_of cs ++ x ∷ []
  last_items [] c w new x is made = absurd (omega (arith, is))
  last_items (y ∷ []) zero w new x is made = search append-nil
  last_items (y ∷ z ∷ zs) zero w new x is made = absurd (omega (arith, is))
  last_items (y ∷ ys) (suc c) w new x is made = grind (arith, append_assoc, last_items ys c w new x)

  last_starts : (n c : ℕ) (cs : List (Vec T)) (new : Vec T) → suc c ≡ length cs → starts_from n (set cs c new) ≡ starts_from n cs
  last_starts n c [] new is = absurd (omega (arith, is))
  last_starts n zero (x ∷ []) new is = refl
  last_starts n zero (x ∷ y ∷ ys) new is = absurd (omega (arith, is))
  last_starts n (suc c) (x ∷ xs) new is = ap (λ (l : List ℕ). n ∷ l) (last_starts (n + length x.items) c xs new (omega (arith, is)))

  pub last_longer : (cs : List (Vec T)) (starts : List ℕ) (len c : ℕ) (w new : Vec T) (x : T) → IsChunked cs starts len → suc c ≡ length cs → w ≡ get_or cs c w → length w.items < 1024 → new.items ≡ w.items ++ x ∷ []
      → IsChunked (set cs c new) starts (len + 1) × (items_of (set cs c new) ≡ items_of cs ++ x ∷ [])
  last_longer cs starts len c w new x chunked last read room made =
      let made' : new.items ≡ (get_or cs c w).items ++ x ∷ [] = made ∙ ap (λ (v : Vec T). v.items ++ x ∷ []) read in
      let all = last_items cs c w new x last made' in (
        record {
          filled = filled_set cs c new (record { some = omega (arith, ap length made, length-append w.items (x ∷ [])); few = omega (arith, ap length made, length-append w.items (x ∷ []), room) }) chunked.filled;
          placed = chunked.placed ∙ sym (last_starts 0 c cs new last);
          counted = omega (arith, chunked.counted, ap length all, length-append (items_of cs) (x ∷ []));
        },
        all,
      )

  -- ---- an item inside a chunk

  starts_shift : (n : ℕ) (cs : List (Vec T)) → starts_from (n + 1) cs ≡ map (λ (k : ℕ). k + 1) (starts_from n cs)
  starts_shift n [] = refl
  starts_shift n (x ∷ xs) = grind (arith, starts_shift (n + length x.items) xs)

  starts_bumped : (n c : ℕ) (cs : List (Vec T)) (w new : Vec T) → c < length cs → length new.items ≡ length (get_or cs c w).items + 1 → starts_from n (set cs c new) ≡ starts_with_one_more (suc c) (starts_from n cs)
  starts_bumped n c [] w new lt more = absurd (let f : suc c ≤ 0 = lt in omega (arith, f))
  starts_bumped n zero (x ∷ xs) w new lt more =
      let next : n + length new.items ≡ (n + length x.items) + 1 = omega (arith, more) in
      ap (λ (l : List ℕ). n ∷ l) (ap (λ (k : ℕ). starts_from k xs) next ∙ starts_shift (n + length x.items) xs)
  starts_bumped n (suc c) (x ∷ xs) w new lt more = ap (λ (l : List ℕ). n ∷ l) (starts_bumped (n + length x.items) c xs w new (omega (arith, lt)) more)

  pub chunk_longer : (cs : List (Vec T)) (starts : List ℕ) (len i c start : ℕ) (w new : Vec T) (x : T) → IsChunked cs starts len → IsInChunk cs i c → start ≡ before c cs → w ≡ get_or cs c w → length w.items < 1024
      → new.items ≡ insert w.items (i - start) x → IsChunked (set cs c new) (starts_with_one_more (c + 1) starts) (len + 1) × (items_of (set cs c new) ≡ insert (items_of cs) i x)
  chunk_longer cs starts len i c start w new x chunked at is read room made =
      let inside = below_read cs i c start w at is read in
      let inside' : i - start ≤ length w.items = omega (arith, inside) in
      let inside'' : i - start ≤ length (get_or cs c w).items = subst (λ (v : Vec T). i - start ≤ length v.items) read inside' in
      let made' : new.items ≡ insert (get_or cs c w).items (i - start) x = made ∙ ap (λ (v : Vec T). insert v.items (i - start) x) read in
      let more : length new.items ≡ length w.items + 1 = ap length made ∙ length-insert w.items (i - start) x inside' in
      let more' : length new.items ≡ length (get_or cs c w).items + 1 = more ∙ ap (λ (v : Vec T). length v.items + 1) read in
      let place : before c cs + (i - start) ≡ i = omega (arith, is, at.from) in
      let all : items_of (set cs c new) ≡ insert (items_of cs) i x = item_inserted cs c (i - start) w new x at.inside inside'' made' ∙ ap (λ (k : ℕ). insert (items_of cs) k x) place in
      let below = items_before cs c w at.inside in (
        record {
          filled = filled_set cs c new (record { some = omega (arith, more); few = omega (arith, more, room) }) chunked.filled;
          placed = ap (starts_with_one_more (c + 1)) chunked.placed ∙ ap (λ (k : ℕ). starts_with_one_more k (starts_from 0 cs)) (add-one c) ∙ sym (starts_bumped 0 c cs w new at.inside more');
          counted = omega (arith, chunked.counted, ap length all, length-insert (items_of cs) i x (omega (arith, at.below w, below)));
        },
        all,
      )

  -- ---- a chunk in two

  pub same_read : (cs : List (Vec T)) (c : ℕ) (v w : Vec T) → c < length cs → v ≡ get_or cs c v → w ≡ get_or cs c w → v ≡ w
  same_read cs c v w lt one two = one ∙ get_or_default cs c v w lt ∙ sym two

  items_split : (cs : List (Vec T)) (c : ℕ) (w head tail : Vec T) → c < length cs → (get_or cs c w).items ≡ head.items ++ tail.items → items_of (insert (set cs c head) (suc c) tail) ≡ items_of cs
  items_split [] c w head tail lt is = absurd (let f : suc c ≤ 0 = lt in omega (arith, f))
  items_split (x ∷ xs) zero w head tail lt is = sym (append_assoc head.items tail.items (items_of xs)) ∙ ap (λ (l : List T). l ++ items_of xs) (sym is)
  items_split (x ∷ xs) (suc c) w head tail lt is = ap (λ (l : List T). x.items ++ l) (items_split xs c w head tail (omega (arith, lt)) is)

  filled_split : (cs : List (Vec T)) (c : ℕ) (head tail : Vec T) → IsChunk head → IsChunk tail → AllByRecursion IsChunk cs → c < length cs → AllByRecursion IsChunk (insert (set cs c head) (suc c) tail)
  filled_split [] c head tail some some' all lt = absurd (let f : suc c ≤ 0 = lt in omega (arith, f))
  filled_split (x ∷ xs) zero head tail some some' all lt = (some, (some', all.1))
  filled_split (x ∷ xs) (suc c) head tail some some' all lt = (all.0, filled_split xs c head tail some some' all.1 (omega (arith, lt)))

  starts_split : (n c half : ℕ) (cs : List (Vec T)) (w head tail : Vec T) → c < length cs → length head.items ≡ half → length head.items + length tail.items ≡ length (get_or cs c w).items
      → starts_from n (insert (set cs c head) (suc c) tail) ≡ insert (starts_from n cs) (suc c) (n + (before c cs + half))
  starts_split n c half [] w head tail lt first both = absurd (let f : suc c ≤ 0 = lt in omega (arith, f))
  starts_split n zero half (x ∷ xs) w head tail lt first both = grind arith
  starts_split n (suc c) half (x ∷ xs) w head tail lt first both = grind (arith, starts_split (n + length x.items) c half xs w head tail)

  pub chunk_split : (cs : List (Vec T)) (starts : List ℕ) (len c half start : ℕ) (w head tail : Vec T) → IsChunked cs starts len → c < length cs → w ≡ get_or cs c w
      → 0 < half → half < length w.items → head.items ≡ take half w.items → tail.items ≡ drop half w.items → start ≡ before c cs
      → IsChunked (insert (set cs c head) (c + 1) tail) (insert starts (c + 1) (start + half)) len × (items_of (insert (set cs c head) (c + 1) tail) ≡ items_of cs)
  chunk_split cs starts len c half start w head tail chunked lt read some some' first rest is =
      let whole : (get_or cs c w).items ≡ head.items ++ tail.items = ap items (sym read) ∙ sym (take-append-drop half w.items) ∙ (λ i. sym first i ++ sym rest i) in
      grind (arith, length-take-le, length-append, add-one, insert, set, items_split, chunk_at, filled_split, starts_split)

  -- ---- which chunk has room

  pub room_made : (cs : List (Vec T)) (starts : List ℕ) (i c start : ℕ) (head tail : Vec T) → IsChunkOf starts i c → length starts ≡ length cs → length head.items < 1024 → length tail.items < 1024
      → HasRoom (insert (set cs c head) (c + 1) tail) (insert starts (c + 1) start) i
  room_made cs starts i c start head tail at long first second k v other = by (ltb k (c + 1)) refl
    where
      inside : c < length cs
      inside = omega (arith, at.inside, long)

      inside' : c + 1 ≤ length (set cs c head)
      inside' = omega (arith, inside, length-set cs c head)

      not_behind : c + 1 < k → ⊥
      not_behind lt =
          let place : (k - 1) + 1 ≡ k = omega (arith, lt) in
          grind (arith, insert, get_or-insert_above, length-insert)

      by : (b : Bool) → ltb k (c + 1) ≡ b → length (get_or (insert (set cs c head) (c + 1) tail) k v).items < 1024
      by true e = grind (arith, get_or-insert_below, inside', get_or-set_same, length-insert)
      by false e =
          let same : k ≡ c + 1 = omega (arith, ltb-false k (c + 1) e, not_behind) in
          grind (arith, insert, set, get_or-insert_at, inside')
