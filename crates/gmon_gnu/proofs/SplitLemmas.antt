-- What the pieces of a profile add up to.
use Rattle.std.proofs.Common.{◌≡◌, ℕ, zero, suc, ◌+◌, ◌-◌, ◌*◌, ◌/◌, ◌<◌, ◌≤◌, min, Bool, true, false, ltb, nat_eq, List, [], ◌∷◌, ◌++◌, map, fold, filter_map, refl, sym, ap, ◌∙◌, append_assoc, arith}
use Rattle.std.specs.List.{flat_map, AllByRecursion, IsDistinct}
use Rattle.std.proofs.lemmas.Bool.{lt-ltb, le-ltb, eqb-true, eq-eqb}
use Rattle.std.proofs.lemmas.List.{append-nil}
use Rattle.std.proofs.lemmas.List.Sums.{fold-append}
use Rattle.gmon_data.specs.declared.hist.Hist.{Hist}
use Rattle.gmon_data.specs.Hists.{pointwise_sum, put_hist, hist_sum, IsKept, IsApart as AreApart}
use Rattle.gmon_data.specs.Tally.{tally}
use Rattle.std.specs.Bool.{⊤}
use Rattle.gmon_data.proofs.TallyLemmas.{turned}
use Rattle.gmon_gnu.specs.Splitting.{piece, pieces_of, each_piece, largest, most_samples, most_calls, hist_piece, hist_pieces, piece_left, round_of, rounds_of}

-- each lies above those before it
abbrev pub IsAscending : List Hist → Type 0
IsAscending [] = ⊤
IsAscending (h ∷ hs) = AllByRecursion (λ k. h.low < k.low) hs × IsAscending hs

pub ascending_of : (hs : List Hist) → AllByRecursion IsKept hs → AreApart hs → IsAscending hs
ascending_of [] kept apart = tt
ascending_of (h ∷ hs) kept apart = (above hs apart.0, ascending_of hs kept.1 apart.1)
  where
    above : (ks : List Hist) → AllByRecursion (λ k. h.high ≤ k.low) ks → AllByRecursion (λ k. h.low < k.low) ks
    above [] all = tt
    above (k ∷ ks) all = (omega (arith, all.0, kept.0.range), above ks all.1)

-- what the first j pieces add up to
abbrev done : ℕ → ℕ → ℕ → ℕ
done most j n = min n (j * most)

more_done : (most j n : ℕ) → done most j n + piece most j n ≡ done most (j + 1) n
more_done most j n = grind arith

first_done : (most n : ℕ) → piece most 0 n ≡ done most 1 n
first_done most n = let e : 1 * most ≡ most = omega arith in let z : 0 * most ≡ 0 = omega arith in omega (arith, e, z)

pub enough4 : (n : ℕ) → n ≤ pieces_of most_calls n * most_calls
enough4 n = omega arith

all_done : (most j n : ℕ) → n ≤ j * most → done most j n ≡ n
all_done most j n le = omega (arith, le)

-- ---- counters

pub largest-all : (m : ℕ) (xs : List ℕ) → largest xs ≤ m → AllByRecursion (λ x. x ≤ m) xs
largest-all m [] le = tt
largest-all m (x ∷ xs) le = (omega (arith, le), largest-all m xs (omega (arith, le)))

hist_piece_more : (most j : ℕ) (xs : List ℕ) → pointwise_sum (map (done most j) xs) (map (piece most j) xs) ≡ map (done most (j + 1)) xs
hist_piece_more most j [] = refl
hist_piece_more most j (x ∷ xs) = λ i. more_done most j x i ∷ hist_piece_more most j xs i

hist_piece_first : (most : ℕ) (xs : List ℕ) → map (piece most 0) xs ≡ map (done most 1) xs
hist_piece_first most [] = refl
hist_piece_first most (x ∷ xs) = λ i. first_done most x i ∷ hist_piece_first most xs i

hist_pieces_done : (most j : ℕ) (xs : List ℕ) → AllByRecursion (λ x. x ≤ j * most) xs → map (done most j) xs ≡ xs
hist_pieces_done most j [] all = refl
hist_pieces_done most j (x ∷ xs) all = λ i. all_done most j x all.0 i ∷ hist_pieces_done most j xs all.1 i

-- ---- histograms one after the other

abbrev with : Hist → List ℕ → Hist
with h cs = record h { counters = cs }

put_end : (h : Hist) (front : List Hist) → AllByRecursion (λ k. k.low < h.low) front → put_hist h front ≡ front ++ h ∷ []
put_end h [] below = refl
put_end h (k ∷ ks) below = rw (lt-ltb k.low h.low below.0) (ap (λ l. k ∷ l) (put_end h ks below.1))

put_last : (h k : Hist) (front : List Hist) → AllByRecursion (λ x. x.low < h.low) front → k.low ≡ h.low → put_hist h (front ++ k ∷ []) ≡ front ++ hist_sum k h ∷ []
put_last h k [] below same = rw (le-ltb k.low h.low (omega (arith, same)), eq-eqb k.low h.low same) refl
put_last h k (x ∷ front) below same = rw (lt-ltb x.low h.low below.0) (ap (λ l. x ∷ l) (put_last h k front below.1 same))

abbrev put : List Hist → Hist → List Hist
put done h = put_hist h done

-- the pieces of a histogram from j on, once the first j are added up
hist_pieces_from : (h : Hist) (front : List Hist) → AllByRecursion (λ x. x.low < h.low) front → (n j : ℕ)
    → fold put (front ++ with h (map (done most_samples j) h.counters) ∷ []) (each_piece (hist_piece h) j n) ≡ front ++ with h (map (done most_samples (j + n)) h.counters) ∷ []
hist_pieces_from h front below zero j = let e : j ≡ j + 0 = omega arith in ap (λ k. front ++ with h (map (done most_samples k) h.counters) ∷ []) e
hist_pieces_from h front below (suc n) j = grind (arith, put_last, hist_piece_more, hist_pieces_from h front below n (j + 1))

pub hist_pieces-merge : (h : Hist) (front : List Hist) → AllByRecursion (λ x. x.low < h.low) front → fold put front (hist_pieces h) ≡ front ++ h ∷ []
hist_pieces-merge h front below =
    let m = largest h.counters in
    let n = (m - 1) / most_samples in
    let whole : m ≤ (1 + n) * most_samples = omega arith in
    ap (λ l. fold put l (each_piece (hist_piece h) 1 n)) (put_end (hist_piece h 0) front below)
    ∙ ap (λ cs. fold put (front ++ with h cs ∷ []) (each_piece (hist_piece h) 1 n)) (hist_piece_first most_samples h.counters)
    ∙ hist_pieces_from h front below n 1
    ∙ ap (λ cs. front ++ with h cs ∷ []) (hist_pieces_done most_samples (1 + n) h.counters (largest-all ((1 + n) * most_samples) h.counters whole))

below_more : (low : ℕ) (front : List Hist) (h : Hist) → AllByRecursion (λ x. x.low < low) front → h.low < low → AllByRecursion (λ x. x.low < low) (front ++ h ∷ [])
below_more low [] h all lt = (lt, tt)
below_more low (x ∷ xs) h all lt = (all.0, below_more low xs h all.1 lt)

above_more : (front hs : List Hist) (h : Hist) → AllByRecursion (λ k. AllByRecursion (λ x. x.low < k.low) front) hs → AllByRecursion (λ k. h.low < k.low) hs
    → AllByRecursion (λ k. AllByRecursion (λ x. x.low < k.low) (front ++ h ∷ [])) hs
above_more front [] h all lt = tt
above_more front (k ∷ ks) h all lt = (below_more k.low front h all.0 lt.0, above_more front ks h all.1 lt.1)

hists_from : (hs front : List Hist) → AllByRecursion (λ k. AllByRecursion (λ x. x.low < k.low) front) hs → IsAscending hs → fold put front (flat_map hist_pieces hs) ≡ front ++ hs
hists_from [] front above up = sym (append-nil front)
hists_from (h ∷ hs) front above up =
    search (fold-append, fold, hist_pieces-merge, above_more, append_assoc, hists_from hs (front ++ h ∷ []) (above_more front hs h above.1 up.0) up.1)

above_none : (hs : List Hist) → AllByRecursion (λ k. AllByRecursion (λ (x : Hist). x.low < k.low) []) hs
above_none [] = tt
above_none (h ∷ hs) = (tt, above_none hs)

pub hists-merge : (hs : List Hist) → IsAscending hs → fold put [] (flat_map hist_pieces hs) ≡ hs
hists-merge hs up = hists_from hs [] (above_none hs) up

-- ---- numbers by key

module _ {K : Type 0} (same : K → K → Bool) (self : (k : K) → same k k ≡ true) where
  abbrev one : K → ℕ → K × ℕ
  one k n = (k, n)

  abbrev add : List (K × ℕ) → K × ℕ → List (K × ℕ)
  add es e = tally same e.0 e.1 es

  tally_end : (k : K) (n : ℕ) (front : List (K × ℕ)) → AllByRecursion (λ e. same k e.0 ≡ false) front → tally same k n front ≡ front ++ one k n ∷ []
  tally_end k n [] other = refl
  tally_end k n (e ∷ es) other = rw other.0 (ap (λ l. e ∷ l) (tally_end k n es other.1))

  -- the number of a key that stands behind others
  tally_at : (k : K) (m n : ℕ) (front back : List (K × ℕ)) → AllByRecursion (λ e. same k e.0 ≡ false) front → tally same k n (front ++ one k m ∷ back) ≡ front ++ one k (m + n) ∷ back
  tally_at k m n [] back other = rw (self k) refl
  tally_at k m n (e ∷ es) back other = rw other.0 (ap (λ l. e ∷ l) (tally_at k m n es back other.1))

  module _ (most : ℕ) where
    abbrev key_piece : K → ℕ → ℕ → K × ℕ
    key_piece k n j = one k (piece most j n)

    pieces_from : (k : K) (m : ℕ) (front : List (K × ℕ)) → AllByRecursion (λ e. same k e.0 ≡ false) front → (n j : ℕ)
        → fold add (front ++ one k (done most j m) ∷ []) (each_piece (key_piece k m) j n) ≡ front ++ one k (done most (j + n) m) ∷ []
    pieces_from k m front other zero j = let e : j ≡ j + 0 = omega arith in ap (λ i. front ++ one k (done most i m) ∷ []) e
    pieces_from k m front other (suc n) j = grind (arith, tally_at, pieces_from k m front other n (j + 1))

    pub pieces-merge : (k : K) (m : ℕ) (front : List (K × ℕ)) → AllByRecursion (λ e. same k e.0 ≡ false) front → m ≤ pieces_of most m * most
        → fold add front (each_piece (key_piece k m) 0 (pieces_of most m)) ≡ front ++ one k m ∷ []
    pieces-merge k m front other whole = grind (arith, tally_end, first_done, pieces_from)

-- ---- lists of numbers by key

module _ {K : Type 0} (same : K → K → Bool) (self : (k : K) → same k k ≡ true) (equal : (x y : K) → same x y ≡ true → x ≡ y) where
  abbrev adding : List (K × ℕ) → K × ℕ → List (K × ℕ)
  adding es e = tally same e.0 e.1 es

  -- no key is that of one before it
  abbrev IsApart : List (K × ℕ) → Type 0
  IsApart [] = ⊤
  IsApart (e ∷ es) = AllByRecursion (λ f. same f.0 e.0 ≡ false) es × IsApart es

  other_more : (k : K) (front : List (K × ℕ)) (e : K × ℕ) → AllByRecursion (λ f. same k f.0 ≡ false) front → same k e.0 ≡ false → AllByRecursion (λ f. same k f.0 ≡ false) (front ++ e ∷ [])
  other_more k [] e all other = (other, tt)
  other_more k (x ∷ xs) e all other = (all.0, other_more k xs e all.1 other)

  others_more : (front es : List (K × ℕ)) (e : K × ℕ) → AllByRecursion (λ f. AllByRecursion (λ x. same f.0 x.0 ≡ false) front) es → AllByRecursion (λ f. same f.0 e.0 ≡ false) es
      → AllByRecursion (λ f. AllByRecursion (λ x. same f.0 x.0 ≡ false) (front ++ e ∷ [])) es
  others_more front [] e all other = tt
  others_more front (f ∷ es) e all other = (other_more f.0 front e all.0 other.0, others_more front es e all.1 other.1)

  others_none : (es : List (K × ℕ)) → AllByRecursion (λ f. AllByRecursion (λ (x : K × ℕ). same f.0 x.0 ≡ false) []) es
  others_none [] = tt
  others_none (e ∷ es) = (tt, others_none es)

  apart_of : (es : List (K × ℕ)) → IsDistinct same (map (λ e. e.0) es) → IsApart es
  unfolding IsDistinct
  apart_of [] h = tt
  apart_of (e ∷ es) h = (each es h.0, apart_of es h.1)
    where
      each : (xs : List (K × ℕ)) → AllByRecursion (λ y. same e.0 y ≡ false) (map (λ x. x.0) xs) → AllByRecursion (λ f. same f.0 e.0 ≡ false) xs
      each [] a = tt
      each (x ∷ xs) a = (turned same self equal x.0 e.0 ∙ a.0, each xs a.1)

  -- each number in pieces
  module _ (most : ℕ) (enough : (n : ℕ) → n ≤ pieces_of most n * most) where
    abbrev in_pieces : K × ℕ → List (K × ℕ)
    in_pieces e = each_piece (λ j. (e.0, piece most j e.1)) 0 (pieces_of most e.1)

    numbers_from : (es front : List (K × ℕ)) → AllByRecursion (λ f. AllByRecursion (λ x. same f.0 x.0 ≡ false) front) es → IsApart es → fold adding front (flat_map in_pieces es) ≡ front ++ es
    numbers_from [] front others apart = sym (append-nil front)
    numbers_from (e ∷ es) front others apart =
        fold-append adding front (in_pieces e) (flat_map in_pieces es)
        ∙ ap (λ l. fold adding l (flat_map in_pieces es)) (pieces-merge same self most e.0 e.1 front others.0 (enough e.1))
        ∙ numbers_from es (front ++ e ∷ []) (others_more front es e others.1 apart.0) apart.1
        ∙ append_assoc front (e ∷ []) es

    pub numbers-merge : (es : List (K × ℕ)) → IsDistinct same (map (λ e. e.0) es) → fold adding [] (flat_map in_pieces es) ≡ es
    numbers-merge es distinct = numbers_from es [] (others_none es) (apart_of es distinct)

-- ---- blocks, round by round

module _ where
  abbrev after : ℕ → ℕ × ℕ → ℕ × ℕ
  after j e = (e.0, done most_calls j e.1)

  abbrev add_block : List (ℕ × ℕ) → ℕ × ℕ → List (ℕ × ℕ)
  add_block es e = tally nat_eq e.0 e.1 es

  same_self : (k : ℕ) → nat_eq k k ≡ true
  same_self k = eq-eqb k k refl

  round_first : (es front : List (ℕ × ℕ)) → AllByRecursion (λ f. AllByRecursion (λ x. nat_eq f.0 x.0 ≡ false) front) es → IsApart nat_eq same_self eqb-true es
      → fold add_block front (filter_map (piece_left 0) es) ≡ front ++ map (after 1) es
  round_first [] front others apart = sym (append-nil front)
  round_first (e ∷ es) front others apart =
      ap (λ l. fold add_block l (filter_map (piece_left 0) es)) (tally_end nat_eq same_self e.0 (piece most_calls 0 e.1) front others.0 ∙ ap (λ c. front ++ (e.0, c) ∷ []) (first_done most_calls e.1))
      ∙ round_first es (front ++ after 1 e ∷ []) (others_more nat_eq same_self eqb-true front es (after 1 e) others.1 apart.0) apart.1
      ∙ append_assoc front (after 1 e ∷ []) (map (after 1) es)

  more_next : (j n : ℕ) → done most_calls j n + piece most_calls j n ≡ done most_calls (suc j) n
  more_next j n = more_done most_calls j n ∙ ap (λ (k : ℕ). done most_calls k n) (let e : j + 1 ≡ suc j = omega arith in e)

  round_more : (j : ℕ) (es front : List (ℕ × ℕ)) → AllByRecursion (λ f. AllByRecursion (λ x. nat_eq f.0 x.0 ≡ false) front) es → IsApart nat_eq same_self eqb-true es
      → fold add_block (front ++ map (after (suc j)) es) (filter_map (piece_left (suc j)) es) ≡ front ++ map (after (suc (suc j))) es
  round_more j [] front others apart = refl
  round_more j (e ∷ es) front others apart = by (ltb (suc j * most_calls) e.1) refl (round_more j es (front ++ after (suc (suc j)) e ∷ []) (others_more nat_eq same_self eqb-true front es (after (suc (suc j)) e) others.1 apart.0) apart.1)
    where
      by : (b : Bool) → ltb (suc j * most_calls) e.1 ≡ b
          → fold add_block ((front ++ after (suc (suc j)) e ∷ []) ++ map (after (suc j)) es) (filter_map (piece_left (suc j)) es) ≡ (front ++ after (suc (suc j)) e ∷ []) ++ map (after (suc (suc j))) es
          → fold add_block (front ++ map (after (suc j)) (e ∷ es)) (filter_map (piece_left (suc j)) (e ∷ es)) ≡ front ++ map (after (suc (suc j))) (e ∷ es)
      by true lt rest =
          rw lt (ap (λ l. fold add_block l (filter_map (piece_left (suc j)) es)) (tally_at nat_eq same_self e.0 (done most_calls (suc j) e.1) (piece most_calls (suc j) e.1) front (map (after (suc j)) es) others.0
          ∙ ap (λ c. front ++ (e.0, c) ∷ map (after (suc j)) es) (more_next (suc j) e.1)
          ∙ sym (append_assoc front (after (suc (suc j)) e ∷ []) (map (after (suc j)) es)))
          ∙ rest ∙ append_assoc front (after (suc (suc j)) e ∷ []) (map (after (suc (suc j))) es))
      by false ge rest = grind (arith, append_assoc)

  abbrev all_rounds : List (List (ℕ × ℕ)) → List (ℕ × ℕ)
  all_rounds rs = flat_map (λ r. r) rs

  rounds_from : (es : List (ℕ × ℕ)) → IsApart nat_eq same_self eqb-true es → (n j : ℕ) → fold add_block (map (after (suc j)) es) (all_rounds (each_piece (round_of es) (suc j) n)) ≡ map (after (suc j + n)) es
  rounds_from es apart zero j = let e : suc j ≡ suc j + 0 = omega arith in ap (λ k. map (after k) es) e
  rounds_from es apart (suc n) j =
      let e : suc (suc j) + n ≡ suc j + suc n = omega arith in
      let next : suc j + 1 ≡ suc (suc j) = omega arith in
      ap (λ (k : ℕ). fold add_block (map (after (suc j)) es) (round_of es (suc j) ++ all_rounds (each_piece (round_of es) k n))) next
      ∙ fold-append add_block (map (after (suc j)) es) (round_of es (suc j)) (all_rounds (each_piece (round_of es) (suc (suc j)) n))
      ∙ ap (λ l. fold add_block l (all_rounds (each_piece (round_of es) (suc (suc j)) n))) (round_more j es [] (others_none nat_eq same_self eqb-true es) apart)
      ∙ rounds_from es apart n (suc j)
      ∙ ap (λ k. map (after k) es) e

  rounds_done : (j : ℕ) (es : List (ℕ × ℕ)) → AllByRecursion (λ x. x ≤ j * most_calls) (map (λ e. e.1) es) → map (after j) es ≡ es
  rounds_done j [] all = refl
  rounds_done j (e ∷ es) all = λ i. (e.0, all_done most_calls j e.1 all.0 i) ∷ rounds_done j es all.1 i

  pub rounds-merge : (es : List (ℕ × ℕ)) → IsDistinct nat_eq (map (λ e. e.0) es) → fold add_block [] (all_rounds (rounds_of es)) ≡ es
  rounds-merge [] distinct = refl
  rounds-merge (b ∷ bs) distinct =
      let es = b ∷ bs in
      let apart = apart_of nat_eq same_self eqb-true es distinct in
      let m = largest (map (λ e. e.1) es) in
      let n = (m - 1) / most_calls in
      let whole : m ≤ (1 + n) * most_calls = omega arith in
      fold-append add_block [] (round_of es 0) (all_rounds (each_piece (round_of es) 1 n))
      ∙ ap (λ l. fold add_block l (all_rounds (each_piece (round_of es) 1 n))) (round_first es [] (others_none nat_eq same_self eqb-true es) apart)
      ∙ rounds_from es apart n 0
      ∙ rounds_done (1 + n) es (largest-all ((1 + n) * most_calls) (map (λ e. e.1) es) whole)
