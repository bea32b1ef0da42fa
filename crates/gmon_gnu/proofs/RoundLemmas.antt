-- Rounds of counts of basic blocks: an address that has something left had so in each round before.
use Rattle.std.proofs.Common.{◌≡◌, ℕ, zero, suc, ◌+◌, ◌*◌, ◌-◌, ◌<◌, ◌≤◌, ◌⊎◌, ◌≢◌, Bool, true, false, eqb, cond, List, [], ◌∷◌, ◌++◌, length, min, take, drop, set, replicate, map, get_or, slice_get, Some, None, refl, sym, ap, ◌∙◌, true≢false, if◌then◌else◌, arith}
use Rattle.std.specs.List.{flat_map, range_with_len, cons_option}
use Rattle.std.proofs.lemmas.Bool.Decides.{eqb_tells}
use Rattle.std.proofs.lemmas.List.{take-append-drop, take-take, drop-take, length-take, length-drop, length-set, length-replicate, get_or-take, get_or-drop, get_or-set_same, get_or-set_other, nil_from_length}
use Rattle.std.proofs.lemmas.Option.{get_or_from_slice_get, slice_get-get_or}
use Rattle.std.proofs.lemmas.List.Elements.{filter_more, filter-append}
use Rattle.std.proofs.lemmas.List.Concat.{flat_map-append}
use Rattle.gp_base.specs.Fields.{block_bytes}
use Rattle.gmon_gnu.specs.Grammar.{blocks_bytes}
use Rattle.gmon_gnu.specs.Pieces.{left_bytes, left_of, part_of, round_bytes, rounds_text, AreMarks}
use Rattle.gmon_gnu.specs.Splitting.{most_calls, piece, has_left, raw_block, round_of}

-- of those that have something left for a round, the later rounds are those of all
pub round_of_left : (i j : ℕ) (es : List (ℕ × ℕ)) → i ≤ j → round_of (left_of i es) j ≡ round_of es j
round_of_left i j [] le = refl
round_of_left i j (e ∷ es) le = by (has_left i e.1) refl (round_of_left i j es le)
  where
    by : (b : Bool) → has_left i e.1 ≡ b → round_of (left_of i es) j ≡ round_of es j → round_of (cond b (e ∷ left_of i es) (left_of i es)) j ≡ round_of (e ∷ es) j
    by b is others = grind arith

-- a list that had all that is left for the rounds from j on, without what has nothing left for round j
pub kept_same : (j : ℕ) (now few es : List (ℕ × ℕ)) → now ≡ left_of j few → ((k : ℕ) → j ≤ k → round_of few k ≡ round_of es k) → (k : ℕ) → j ≤ k → round_of now k ≡ round_of es k
kept_same j now few es kept same k le = ap (λ (l : List (ℕ × ℕ)). round_of l k) kept ∙ round_of_left j k few le ∙ same k le

pub length-round_of : (j : ℕ) (es : List (ℕ × ℕ)) → length (round_of es j) ≡ length (left_of j es)
length-round_of j [] = refl
length-round_of j (e ∷ es) = by (has_left j e.1) (length-round_of j es)
  where
    by : (b : Bool) → length (round_of es j) ≡ length (left_of j es)
        → length (cons_option (if b then Some (e.0, piece most_calls j e.1) else None) (round_of es j)) ≡ length (cond b (e ∷ left_of j es) (left_of j es))
    by b others = grind arith

pub left_of_twice : (j : ℕ) (es : List (ℕ × ℕ)) → length (left_of j es) ≡ length (left_of j (left_of j es))
left_of_twice j es = sym (length-round_of j es) ∙ ap length (sym (round_of_left j j es (omega arith))) ∙ length-round_of j (left_of j es)

-- one entry more
pub left_of_more : (j : ℕ) (es : List (ℕ × ℕ)) (i : ℕ) (e : ℕ × ℕ) (b : Bool) → i < length es → e ≡ get_or es i e → has_left j e.1 ≡ b → left_of j (take (i + 1) es) ≡ left_of j (take i es) ++ cond b (e ∷ []) []
left_of_more j es i e b within is left =
    filter_more (λ x. has_left j x.1) es i e within
    ∙ ap (λ (x : ℕ × ℕ). left_of j (take i es) ++ cond (has_left j x.1) (x ∷ []) []) (sym is)
    ∙ ap (λ (c : Bool). left_of j (take i es) ++ cond c (e ∷ []) []) left

-- ---- parts of the addresses

-- entry k of the part of so many that starts there
pub get-part : (start size k : ℕ) (es : List (ℕ × ℕ)) (e : ℕ × ℕ) → k < min size (length es - start) → slice_get es (start + k) ≡ Some e → slice_get (take size (drop start es)) k ≡ Some e
get-part start size k es e within at =
    let few : k < size = omega (arith, within) in
    let inside : k < length (take size (drop start es)) = omega (arith, within, length-take size (drop start es), length-drop start es) in
    slice_get-get_or (take size (drop start es)) k e inside
    ∙ ap Some (get_or-take size (drop start es) k e few ∙ get_or-drop start es k e ∙ get_or_from_slice_get es (start + k) e e at)

pub length-part : (start size : ℕ) (es : List (ℕ × ℕ)) → length (take size (drop start es)) ≡ min size (length es - start)
length-part start size es = length-take size (drop start es) ∙ ap (min size) (length-drop start es)

pub part_more : (size part : ℕ) (es : List (ℕ × ℕ)) → take ((part + 1) * size) es ≡ take (part * size) es ++ part_of size part es
part_more size part es =
    let n = part * size in
    let more : (part + 1) * size ≡ n + size = omega arith in
    let front : take n (take (n + size) es) ≡ take n es = take-take n (n + size) es (omega arith) in
    ap (λ (m : ℕ). take m es) more
    ∙ sym (take-append-drop n (take (n + size) es))
    ∙ ap (λ (t : List (ℕ × ℕ)). t ++ drop n (take (n + size) es)) front
    ∙ ap (λ (t : List (ℕ × ℕ)). take n es ++ t) (drop-take n size es)

pub few_left : (j n : ℕ) (es : List (ℕ × ℕ)) → length (left_of j (take n es)) ≤ n
few_left j zero es = omega arith
few_left j (suc n) [] = omega arith
few_left j (suc n) (e ∷ es) = by (has_left j e.1) (few_left j n es)
  where
    by : (b : Bool) → length (left_of j (take n es)) ≤ n → length (cond b (e ∷ left_of j (take n es)) (left_of j (take n es))) ≤ suc n
    by b few = grind arith

pub left_of_part_more : (j size part : ℕ) (es : List (ℕ × ℕ)) → left_of j (take ((part + 1) * size) es) ≡ left_of j (take (part * size) es) ++ left_of j (part_of size part es)
left_of_part_more j size part es = search (part_more, filter-append)

pub bytes_of_part_more : (j size part : ℕ) (es : List (ℕ × ℕ)) → flat_map (left_bytes j) (take ((part + 1) * size) es) ≡ flat_map (left_bytes j) (take (part * size) es) ++ flat_map (left_bytes j) (part_of size part es)
bytes_of_part_more j size part es = search (part_more, flat_map-append)

-- what has nothing left for a round has nothing left for a later one
none_left_later : (i j : ℕ) (es : List (ℕ × ℕ)) → i ≤ j → left_of i es ≡ [] → left_of j es ≡ []
none_left_later i j es le none =
    nil_from_length (left_of j es) (sym (length-round_of j es) ∙ ap length (sym (round_of_left i j es le)) ∙ ap (λ (l : List (ℕ × ℕ)). length (round_of l j)) none)

pub marks_later : (i j size : ℕ) (es : List (ℕ × ℕ)) (marks : List Bool) → i ≤ j → AreMarks i size es marks → AreMarks j size es marks
marks_later i j size es marks le are = record { count = are.count; unmarked = λ part is. none_left_later i j (part_of size part es) le (are.unmarked part is) }

-- a mark that says whether a part has something left
pub marks_set : (j size part : ℕ) (es : List (ℕ × ℕ)) (marks : List Bool) (mark : Bool) → AreMarks j size es marks → part < length marks → (mark ≡ false → left_of j (part_of size part es) ≡ []) → AreMarks j size es (set marks part mark)
marks_set j size part es marks mark are within none = record {
  count = length-set marks part mark ∙ are.count;
  unmarked = λ q is. by q is (eqb_tells q part);
}
  where
    by : (q : ℕ) → get_or (set marks part mark) q true ≡ false → ((eqb q part ≡ true) × (q ≡ part)) ⊎ ((eqb q part ≡ false) × (q ≢ part)) → left_of j (part_of size q es) ≡ []
    by q is also = grind (arith, get_or-set_same, get_or-set_other)

pub all_marked : (j size n : ℕ) (es : List (ℕ × ℕ)) → n ≡ 32768 → AreMarks j size es (replicate n true)
all_marked j size n es is = record {
  count = length-replicate n true ∙ is;
  unmarked = λ q at. absurd (true≢false (sym (marked n q) ∙ at));
}
  where
    marked : (n q : ℕ) → get_or (replicate n true) q true ≡ true
    marked zero q = refl
    marked (suc n) zero = refl
    marked (suc n) (suc q) = marked n q

-- no bytes of what has nothing left
pub no_bytes : (j : ℕ) (es : List (ℕ × ℕ)) → left_of j es ≡ [] → flat_map (left_bytes j) es ≡ []
no_bytes j [] none = refl
no_bytes j (e ∷ es) none = by (has_left j e.1) none (no_bytes j es)
  where
    by : (b : Bool) → cond b (e ∷ left_of j es) (left_of j es) ≡ [] → (left_of j es ≡ [] → flat_map (left_bytes j) es ≡ [])
        → (if b then block_bytes (raw_block (e.0, piece most_calls j e.1)) else []) ++ flat_map (left_bytes j) es ≡ []
    by b is others = grind arith

pub round_same : (few es : List (ℕ × ℕ)) (j : ℕ) → ((k : ℕ) → j ≤ k → round_of few k ≡ round_of es k) → round_bytes few j ≡ round_bytes es j
round_same few es j same = ap (λ (r : List (ℕ × ℕ)). blocks_bytes (map raw_block r)) (same j (omega arith))

pub rounds_same : (few es : List (ℕ × ℕ)) (j n : ℕ) → ((i : ℕ) → j ≤ i → round_of few i ≡ round_of es i) → rounds_text j n few ≡ rounds_text j n es
rounds_same few es j zero same = refl
rounds_same few es j (suc n) same = grind (arith, rounds_same few es (j + 1) n)

-- rounds before round j, and those from it on
pub rounds_split : (j n : ℕ) (es : List (ℕ × ℕ)) → flat_map (round_bytes es) (take j (range_with_len 0 n)) ++ rounds_text j (n - j) es ≡ rounds_text 0 n es
rounds_split j n es =
    let xs = range_with_len 0 n in
    let from : 0 + j ≡ j = omega arith in
    ap (λ (js : List ℕ). flat_map (round_bytes es) (take j xs) ++ flat_map (round_bytes es) js) (sym (rest 0 j n ∙ ap (λ (a : ℕ). range_with_len a (n - j)) from))
    ∙ sym (flat_map-append (round_bytes es) (take j xs) (drop j xs))
    ∙ ap (flat_map (round_bytes es)) (take-append-drop j xs)
  where
    rest : (a j n : ℕ) → drop j (range_with_len a n) ≡ range_with_len (a + j) (n - j)
    rest a zero n = let x : a ≡ a + 0 = omega arith in let y : n ≡ n - 0 = omega arith in λ i. range_with_len (x i) (y i)
    rest a (suc j) zero = let y : 0 ≡ 0 - suc j = omega arith in ap (range_with_len (a + suc j)) y
    rest a (suc j) (suc n) = let x : a + 1 + j ≡ a + suc j = omega arith in let y : n - j ≡ suc n - suc j = omega arith in rest (a + 1) j n ∙ (λ i. range_with_len (x i) (y i))
