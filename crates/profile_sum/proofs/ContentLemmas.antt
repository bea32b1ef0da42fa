-- The sum of contents is the content of both lists of records.
use Rattle.std.proofs.Common.{◌≡◌, ℕ, suc, ◌+◌, ◌<◌, Bool, true, false, ◌||◌, ltb, eqb, nat_eq, List, [], ◌∷◌, ◌++◌, fold, Option, Some, None, unwrap_or, true≢false, refl, sym, ap, ◌∙◌, if◌then◌else◌, arith}
use Rattle.std.specs.Prelude.{⊤}
use Rattle.std.specs.List.{list_any, AllByRecursion}
use Rattle.std.specs.Option.{option_or}
use Rattle.std.proofs.lemmas.Bool.{ltb-true, ltb-false, eqb-true, eqb-false}
use Rattle.gp_base.specs.declared.records.Unit as units
use Rattle.gmon_data.specs.declared.hist.Hist.{Hist}
use Rattle.gmon_data.specs.Hists.{put_hist, hist_sum, has_counters, kept_unit}
use Rattle.gmon_data.specs.Tally.{tally}
use Rattle.gmon_data.specs.Content.{Content, WideRec, WideHist, WideArc, WideBlock, empty_content, same_ends, content_of, with_hist, with_record, with_records}
use Rattle.gmon_data.proofs.ContentLemmas.{same-self, pair-self, pair-equal}
use Rattle.gmon_data.proofs.HistLemmas.{above_put, higher}
use Rattle.gmon_data.proofs.PutLemmas.{put_swap, put_twice}
use Rattle.gmon_data.proofs.RecordLemmas.{content-more}
use Rattle.profile_sum.specs.Sum.{sum_of}

-- ---- numbers by key: a number can be added to what is added, or after it

module _ {K : Type 0} (same : K → K → Bool) (self : (k : K) → same k k ≡ true) (equal : (x y : K) → same x y ≡ true → x ≡ y) where
  abbrev has : K → List (K × ℕ) → Bool
  has k es = list_any (λ e. same k e.0) es

  abbrev added : List (K × ℕ) → K × ℕ → List (K × ℕ)
  added done e = tally same e.0 e.1 done

  tally_twice : (k : K) (m n : ℕ) (es : List (K × ℕ)) → tally same k n (tally same k m es) ≡ tally same k (m + n) es
  tally_twice k m n [] = rw self refl
  tally_twice k m n (e ∷ es) = by (same k e.0) refl (tally_twice k m n es)
    where
      by : (b : Bool) → same k e.0 ≡ b → tally same k n (tally same k m es) ≡ tally same k (m + n) es → tally same k n (tally same k m (e ∷ es)) ≡ tally same k (m + n) (e ∷ es)
      by true p others = grind arith
      by false p others = rw p (rw p (ap (λ (l : List (K × ℕ)). e ∷ l) others))

  has_own : (k : K) (n : ℕ) (es : List (K × ℕ)) → has k (tally same k n es) ≡ true
  has_own k n [] = rw self refl
  has_own k n (e ∷ es) = by (same k e.0) refl (has_own k n es)
    where
      by : (b : Bool) → same k e.0 ≡ b → has k (tally same k n es) ≡ true → has k (if b then (e.0, e.1 + n) ∷ es else e ∷ tally same k n es) ≡ true
      by true p others = rw p refl
      by false p others = rw p others

  has_still : (k d : K) (n : ℕ) (es : List (K × ℕ)) → has k es ≡ true → has k (tally same d n es) ≡ true
  has_still k d n [] h = absurd (true≢false (sym h))
  has_still k d n (e ∷ es) h = by (same d e.0) (same k e.0) h (has_still k d n es)
    where
      or_rest : (b : Bool) (x y : Bool) → (b || x) ≡ true → (x ≡ true → y ≡ true) → (b || y) ≡ true
      or_rest true x y h f = refl
      or_rest false x y h f = f h

      by : (c b : Bool) → (same k e.0 || has k es) ≡ true → (has k es ≡ true → has k (tally same d n es) ≡ true) → has k (if c then (e.0, e.1 + n) ∷ es else e ∷ tally same d n es) ≡ true
      by true b h others = h
      by false b h others = or_rest (same k e.0) (has k es) (has k (tally same d n es)) h others

  -- where a key stands, the order of two additions makes no difference
  tally_swap : (k d : K) (n m : ℕ) (es : List (K × ℕ)) → has k es ≡ true → tally same d m (tally same k n es) ≡ tally same k n (tally same d m es)
  tally_swap k d n m [] h = absurd (true≢false (sym h))
  tally_swap k d n m (e ∷ es) h = by (same k e.0) (same d e.0) refl refl h (tally_swap k d n m es)
    where
      by : (b c : Bool) → same k e.0 ≡ b → same d e.0 ≡ c → (b || has k es) ≡ true → (has k es ≡ true → tally same d m (tally same k n es) ≡ tally same k n (tally same d m es))
          → tally same d m (tally same k n (e ∷ es)) ≡ tally same k n (tally same d m (e ∷ es))
      by true true p q h others = grind arith
      by true false p q h others = rw (p, q) (rw p refl)
      by false true p q h others = rw (p, q) (rw p refl)
      by false false p q h others = rw (p, q) (rw p (ap (λ (l : List (K × ℕ)). e ∷ l) (others h)))

  fold_swap : (k : K) (n : ℕ) (es l : List (K × ℕ)) → has k l ≡ true → fold added (tally same k n l) es ≡ tally same k n (fold added l es)
  fold_swap k n [] l h = refl
  fold_swap k n (e ∷ es) l h = search (fold, tally_swap, has_still, fold_swap k n es (tally same e.0 e.1 l) (has_still k e.0 e.1 l h))

  pub fold_tally : (k : K) (n : ℕ) (es l : List (K × ℕ)) → fold added l (tally same k n es) ≡ tally same k n (fold added l es)
  fold_tally k n [] l = refl
  fold_tally k n (e ∷ es) l = by (same k e.0) refl (fold_tally k n es (tally same e.0 e.1 l))
    where
      by : (b : Bool) → same k e.0 ≡ b → fold added (tally same e.0 e.1 l) (tally same k n es) ≡ tally same k n (fold added (tally same e.0 e.1 l) es)
          → fold added l (if b then (e.0, e.1 + n) ∷ es else e ∷ tally same k n es) ≡ tally same k n (fold added (tally same e.0 e.1 l) es)
      by true p others = grind (arith, tally_twice, fold_swap, has_own)
      by false p others = others

-- ---- histograms: the same

abbrev put : List Hist → Hist → List Hist
put done h = put_hist h done

fold_above : (h : Hist) (ks l : List Hist) → AllByRecursion (λ k. h.low < k.low) ks → fold put (put_hist h l) ks ≡ put_hist h (fold put l ks)
fold_above h [] l above = refl
fold_above h (k ∷ ks) l above = search (fold, put_swap, fold_above h ks (put_hist k l) above.1)

-- the low addresses rise
abbrev pub IsRising : List Hist → Type 0
IsRising [] = ⊤
IsRising (h ∷ hs) = AllByRecursion (λ k. h.low < k.low) hs × IsRising hs

pub rising_put : (h : Hist) (hs : List Hist) → IsRising hs → IsRising (put_hist h hs)
rising_put h [] rising = (tt, tt)
rising_put h (k ∷ ks) rising = by (ltb k.low h.low) (eqb k.low h.low) refl refl (rising_put h ks rising.1)
  where
    by : (b e : Bool) → ltb k.low h.low ≡ b → eqb k.low h.low ≡ e → IsRising (put_hist h ks) → IsRising (if b then k ∷ put_hist h ks else (if e then hist_sum k h ∷ ks else h ∷ k ∷ ks))
    by true e lt eq others = (above_put (suc k.low) h ks (ltb-true k.low h.low lt) rising.0, others)
    by false true lt eq others = rising
    by false false lt eq others =
        let le = ltb-false k.low h.low lt in
        let ne = eqb-false k.low h.low eq in
        let above : h.low < k.low = omega (arith, le, ne) in
        ((above, higher (suc h.low) (suc k.low) ks (omega (arith, above)) rising.0), rising)

pub fold_put : (h : Hist) (hs l : List Hist) → IsRising hs → fold put l (put_hist h hs) ≡ put_hist h (fold put l hs)
fold_put h [] l rising = refl
fold_put h (k ∷ ks) l rising = by (ltb k.low h.low) (eqb k.low h.low) refl refl (fold_put h ks (put_hist k l) rising.1)
  where
    by : (b e : Bool) → ltb k.low h.low ≡ b → eqb k.low h.low ≡ e → fold put (put_hist k l) (put_hist h ks) ≡ put_hist h (fold put (put_hist k l) ks)
        → fold put l (if b then k ∷ put_hist h ks else (if e then hist_sum k h ∷ ks else h ∷ k ∷ ks)) ≡ put_hist h (fold put (put_hist k l) ks)
    by true e lt eq others = others
    by false true lt eq others = grind (arith, put_twice, fold_above)
    by false false lt eq others =
        let le = ltb-false k.low h.low lt in
        let ne = eqb-false k.low h.low eq in
        let above : h.low < k.low = omega (arith, le, ne) in
        fold_above h (k ∷ ks) l (above, higher (suc h.low) (suc k.low) ks (omega (arith, above)) rising.0)

-- ---- contents: a record can be added to what is added, or after it

unit_later : (p q : Option units.Unit) (u : units.Unit) → option_or p (Some (unwrap_or q u)) ≡ Some (unwrap_or (option_or p q) u)
unit_later None q u = refl
unit_later (Some v) q u = refl

hist_later : (h : Hist) (u : units.Unit) (p q : Content) → IsRising q.hists → sum_of p (with_hist h u q) ≡ with_hist h u (sum_of p q)
hist_later h u p q rising = by (has_counters h)
  where
    by : (b : Bool)
        → sum_of p (if b then record q { hists = put_hist h q.hists; «unit» = Some (unwrap_or q.«unit» (kept_unit u)) } else q)
        ≡ (if b then record (sum_of p q) { hists = put_hist h (sum_of p q).hists; «unit» = Some (unwrap_or (sum_of p q).«unit» (kept_unit u)) } else sum_of p q)
    by true = search (fold_put, unit_later)
    by false = refl

rising_with : (r : WideRec) (q : Content) → IsRising q.hists → IsRising (with_record r q).hists
rising_with (WideHist h u) q rising = by (has_counters h)
  where
    by : (b : Bool) → IsRising (if b then record q { hists = put_hist h q.hists; «unit» = Some (unwrap_or q.«unit» (kept_unit u)) } else q).hists
    by true = rising_put h q.hists rising
    by false = rising
rising_with (WideArc from to count) q rising = rising
rising_with (WideBlock addr count) q rising = rising

pub record_later : (r : WideRec) (p q : Content) → IsRising q.hists → sum_of p (with_record r q) ≡ with_record r (sum_of p q)
record_later (WideHist h u) p q rising = hist_later h u p q rising
record_later (WideArc from to count) p q rising = ap (λ l. record (sum_of p q) { arcs = l }) (fold_tally same_ends pair-self pair-equal (from, to) count q.arcs p.arcs)
record_later (WideBlock addr count) p q rising = ap (λ l. record (sum_of p q) { blocks = l }) (fold_tally nat_eq same-self eqb-true addr count q.blocks p.blocks)

records_later : (recs : List WideRec) (p q : Content) → IsRising q.hists → sum_of p (with_records recs q) ≡ with_records recs (sum_of p q)
records_later [] p q rising = refl
records_later (r ∷ recs) p q rising = records_later recs p (with_record r q) (rising_with r q rising) ∙ ap (with_records recs) (record_later r p q rising)

pub or_none : (o : Option units.Unit) → option_or o None ≡ o
or_none None = refl
or_none (Some v) = refl

pub sum_none : (p : Content) → sum_of p empty_content ≡ p
sum_none p = λ i. record p { «unit» = or_none p.«unit» i }

pub content_is_added : (recs : List WideRec) → content_of recs ≡ with_records recs empty_content
unfolding content_of
content_is_added recs = content-more [] recs

pub content_sum : (a b : List WideRec) → sum_of (content_of a) (content_of b) ≡ content_of (a ++ b)
content_sum a b = grind (arith, content_is_added, records_later, content-more)
