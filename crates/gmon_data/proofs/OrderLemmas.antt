-- Histograms can be added in any order, and before all other records.
use Rattle.std.proofs.Common.{◌≡◌, ℕ, zero, suc, ◌<◌, Bool, true, ltb, eqb, nat_eq, List, [], ◌∷◌, ◌++◌, length, sum, map, set, get_or, None, Some, refl, sym, ap, subst, ◌∙◌, if◌then◌else◌, arith}
use Rattle.std.specs.List.{sum_by, AllByRecursion}
use Rattle.std.specs.List.Sorted.{IsPermutation}
use Rattle.std.proofs.lemmas.List.Sorted.{IsPermutation-keeps, IsPermutation-sym}
use Rattle.std.proofs.lemmas.List.Sums.{sum_by-cons}
use Rattle.std.proofs.lemmas.List.{append-nil, map-append}
use Rattle.std.specs.Option.{option_or}
use Rattle.std.specs.Prelude.{unwrap_or}
use Rattle.std.specs.List as lists
use Rattle.gp_base.specs.declared.records.Unit as units
use Rattle.gmon_data.specs.declared.hist.Hist.{Hist}
use Rattle.gmon_data.specs.Hists.{put_hist, hist_sum, has_counters, range_of, kept_unit, conflict_with, samples_of, IsKept}
use Rattle.gmon_data.specs.Tally.{tally}
use Rattle.gmon_data.specs.Content.{Content, WideRec, WideHist, WideArc, WideBlock, empty_content, same_ends, with_hist, with_record, with_records, content_of, hist_conflict, record_conflict, conflict_of, HasSpan, IsAdded, IsWithin}
use Rattle.gmon_data.specs.Order.{is_other, hists_in, others_in, hist_record}
use Rattle.gmon_data.proofs.HistLemmas.{all_kept}
use Rattle.gmon_data.proofs.RecordLemmas.{conflict-append, records_stand}
use Rattle.gmon_data.proofs.PutLemmas.{put_exchange}
use Rattle.gmon_data.proofs.ExchangeLemmas.{hists_exchange}

abbrev Pair : Type 0
Pair = Hist × units.Unit

-- ---- what stays where two that follow one another are exchanged stays in any order

abbrev Exchanges : {X : Type 0} → (List X → Type 0) → Type 0
Exchanges {X} P = (us : List X) (x y : X) (vs : List X) → P (us ++ x ∷ y ∷ vs) → P (us ++ y ∷ x ∷ vs)

to_place : {X : Type 0} (P : List X → Type 0) → Exchanges P → (xs : List X) (x d : X) (k : ℕ) → k < length xs → P (x ∷ xs) → P (get_or xs k d ∷ set xs k x)
to_place P e [] x d k lt p = absurd (omega (arith, lt))
to_place P e (z ∷ zs) x d zero lt p = e [] x z zs p
to_place {X} P e (z ∷ zs) x d (suc k) lt p =
    let inner = to_place (λ (l : List X). P (z ∷ l)) (λ us a b vs q. e (z ∷ us) a b vs q) zs x d k (omega (arith, lt)) (e [] x z zs p) in
    e [] z (get_or zs k d) (set zs k x) inner

swapped : {X : Type 0} (P : List X → Type 0) → Exchanges P → (xs : List X) (i j : ℕ) (d : X) → i < length xs → j < length xs → P xs → P (set (set xs i (get_or xs j d)) j (get_or xs i d))
swapped P e [] i j d lt lt' p = absurd (omega (arith, lt))
swapped P e (x ∷ xs) zero zero d lt lt' p = p
swapped P e (x ∷ xs) zero (suc j) d lt lt' p = to_place P e xs x d j (omega (arith, lt')) p
swapped P e (x ∷ xs) (suc i) zero d lt lt' p = to_place P e xs x d i (omega (arith, lt)) p
swapped {X} P e (x ∷ xs) (suc i) (suc j) d lt lt' p = swapped (λ (l : List X). P (x ∷ l)) (λ us a b vs q. e (x ∷ us) a b vs q) xs i j d (omega (arith, lt)) (omega (arith, lt')) p

carried : {X : Type 0} (P : List X → Type 0) → Exchanges P → (xs ys : List X) → IsPermutation xs ys → P xs → P ys
carried {X} P e xs ys same p = IsPermutation-keeps xs P p step ys same
  where
    step : (l : List X) (i j : ℕ) → i < length l → j < length l → P l → P (lists.swap l i j)
    step [] i j lt lt' q = q
    step (x ∷ l) i j lt lt' q = swapped P e (x ∷ l) i j x lt lt' q

-- ---- added in another order

added_head : (r : WideRec) (recs : List WideRec) (c new : Content) → IsAdded (r ∷ recs) c new → (record_conflict c r ≡ None) × IsAdded recs (with_record r c) new
added_head r recs c new a = grind arith

added_cons : (r : WideRec) (recs : List WideRec) (c new : Content) → record_conflict c r ≡ None → IsAdded recs (with_record r c) new → IsAdded (r ∷ recs) c new
added_cons r recs c new none a = record { added = a.added; accepted = rw none a.accepted }

kept_next : (p : Pair) (c : Content) → HasSpan (hist_record p) → AllByRecursion IsKept c.hists → AllByRecursion IsKept (with_record (hist_record p) c).hists
kept_next p c span kept = by (has_counters p.0) refl
  where
    by : (b : Bool) → has_counters p.0 ≡ b → AllByRecursion IsKept (with_record (hist_record p) c).hists
    by b e = grind (arith, all_kept)

abbrev Spans : List Pair → Type 0
Spans ps = AllByRecursion (λ p. HasSpan (hist_record p)) ps

spans_exchanged : Exchanges Spans
spans_exchanged [] x y vs s = (s.1.0, (s.0, s.1.1))
spans_exchanged (u ∷ us) x y vs s = (s.0, spans_exchanged us x y vs s.1)

module _ (rest : List WideRec) (new : Content) where
  added_exchanged : (us : List Pair) (p q : Pair) (vs : List Pair) (c : Content) → AllByRecursion IsKept c.hists → Spans (us ++ p ∷ q ∷ vs)
      → IsAdded (map hist_record (us ++ p ∷ q ∷ vs) ++ rest) c new → IsAdded (map hist_record (us ++ q ∷ p ∷ vs) ++ rest) c new
  added_exchanged [] p q vs c kept spans a =
      let tail = map hist_record vs ++ rest in
      let one = added_head (hist_record p) (hist_record q ∷ tail) c new a in
      grind (arith, added_head, hists_exchange, added_cons)
  added_exchanged (u ∷ us) p q vs c kept spans a = grind (arith, kept_next, added_exchanged us p q vs)

  abbrev Makes : List Pair → Type 0
  Makes ps = Spans ps × IsAdded (map hist_record ps ++ rest) empty_content new

  any_order : (ps qs : List Pair) → IsPermutation ps qs → Makes ps → Makes qs
  any_order = carried Makes (λ us x y vs m. (spans_exchanged us x y vs m.0, added_exchanged us x y vs empty_content tt m.0 m.1))

-- ---- the limits see neither the order nor a conflict: they don't look at high addresses

abbrev blank : Hist → Hist
blank h = record h { high = 0 }

blank-put : (h : Hist) (hs : List Hist) → map blank (put_hist h hs) ≡ put_hist (blank h) (map blank hs)
blank-put h [] = refl
blank-put h (k ∷ ks) = by (ltb k.low h.low) (eqb k.low h.low) (blank-put h ks)
  where
    by : (b e : Bool) → map blank (put_hist h ks) ≡ put_hist (blank h) (map blank ks)
        → map blank (if b then k ∷ put_hist h ks else (if e then hist_sum k h ∷ ks else h ∷ k ∷ ks))
        ≡ (if b then blank k ∷ put_hist (blank h) (map blank ks) else (if e then hist_sum (blank k) (blank h) ∷ map blank ks else blank h ∷ blank k ∷ map blank ks))
    by b e others = grind arith

record CountTheSame (c d : Content) : Type 0 where
  hists : map blank c.hists ≡ map blank d.hists
  arcs : c.arcs ≡ d.arcs
  blocks : c.blocks ≡ d.blocks

same_after : (r : WideRec) (c d : Content) → CountTheSame c d → CountTheSame (with_record r c) (with_record r d)
same_after (WideHist h u) c d s = by (has_counters h) refl
  where
    by : (b : Bool) → has_counters h ≡ b → CountTheSame (with_hist h u c) (with_hist h u d)
    by b e = grind (arith, blank-put)
same_after (WideArc from to count) c d s = record { hists = s.hists; arcs = ap (tally same_ends (from, to) count) s.arcs; blocks = s.blocks }
same_after (WideBlock addr count) c d s = record { hists = s.hists; arcs = s.arcs; blocks = ap (tally nat_eq addr count) s.blocks }

same_after_all : (recs : List WideRec) (c d : Content) → CountTheSame c d → CountTheSame (with_records recs c) (with_records recs d)
same_after_all [] c d s = s
same_after_all (r ∷ recs) c d s = same_after_all recs (with_record r c) (with_record r d) (same_after r c d s)

same_exchanged : (a b : Hist) (u v : units.Unit) (c : Content) → CountTheSame (with_hist b v (with_hist a u c)) (with_hist a u (with_hist b v c))
same_exchanged a b u v c = by (has_counters a) (has_counters b) refl refl
  where
    by : (p q : Bool) → has_counters a ≡ p → has_counters b ≡ q → CountTheSame (with_hist b v (with_hist a u c)) (with_hist a u (with_hist b v c))
    by p q is e = grind (arith, blank-put, put_exchange)

samples-blank : (hs : List Hist) → samples_of (map blank hs) ≡ samples_of hs
samples-blank [] = refl
samples-blank (h ∷ hs) = omega (arith, samples-blank hs, sum_by-cons (λ (k : Hist). sum k.counters) h hs, sum_by-cons (λ (k : Hist). sum k.counters) (blank h) (map blank hs))

counters-blank : (hs : List Hist) → sum_by (λ k. length k.counters) (map blank hs) ≡ sum_by (λ k. length k.counters) hs
counters-blank [] = refl
counters-blank (h ∷ hs) = omega (arith, counters-blank hs, sum_by-cons (λ (k : Hist). length k.counters) h hs, sum_by-cons (λ (k : Hist). length k.counters) (blank h) (map blank hs))

same_within : (c d : Content) → CountTheSame c d → IsWithin c → IsWithin d
same_within c d s w = grind (arith, samples-blank, counters-blank)

module _ (rest : List WideRec) where
  within_exchanged : (us : List Pair) (p q : Pair) (vs : List Pair) (c : Content) → IsWithin (with_records (map hist_record (us ++ p ∷ q ∷ vs) ++ rest) c) → IsWithin (with_records (map hist_record (us ++ q ∷ p ∷ vs) ++ rest) c)
  within_exchanged [] p q vs c w =
      let tail = map hist_record vs ++ rest in
      same_within _ _ (same_after_all tail _ _ (same_exchanged p.0 q.0 p.1 q.1 c)) w
  within_exchanged (u ∷ us) p q vs c w = within_exchanged us p q vs (with_record (hist_record u) c) w

-- ---- histograms before all other records

others_later : (r : WideRec) → is_other r ≡ true → (h : Hist) (u : units.Unit) (c : Content) → with_record r (with_hist h u c) ≡ with_hist h u (with_record r c)
others_later r other h u c = by (has_counters h) refl r other
  where
    by : (b : Bool) → has_counters h ≡ b → (r : WideRec) → is_other r ≡ true → with_record r (with_hist h u c) ≡ with_hist h u (with_record r c)
    by b e r other = grind arith

same_conflict : (r : WideRec) → is_other r ≡ true → (p : Pair) (c : Content) → record_conflict (with_record r c) (hist_record p) ≡ record_conflict c (hist_record p)
same_conflict r other p c = grind arith

module _ (r : WideRec) (other : is_other r ≡ true) (rest : List WideRec) where
  with_later : (ps : List Pair) (c : Content) → with_records (map hist_record ps ++ r ∷ rest) c ≡ with_records (map hist_record ps ++ rest) (with_record r c)
  with_later [] c = refl
  with_later (p ∷ ps) c = with_later ps (with_record (hist_record p) c) ∙ ap (with_records (map hist_record ps ++ rest)) (others_later r other p.0 p.1 c)

  added_earlier : (ps : List Pair) (c new : Content) → IsAdded (map hist_record ps ++ r ∷ rest) c new → IsAdded (map hist_record ps ++ rest) (with_record r c) new
  added_earlier [] c new a = (added_head r rest c new a).1
  added_earlier (p ∷ ps) c new a =
      let head = added_head (hist_record p) (map hist_record ps ++ r ∷ rest) c new a in
      let behind = subst (λ (d : Content). IsAdded (map hist_record ps ++ rest) d new) (others_later r other p.0 p.1 c) (added_earlier ps (with_record (hist_record p) c) new head.1) in
      added_cons (hist_record p) (map hist_record ps ++ rest) (with_record r c) new (same_conflict r other p c ∙ head.0) behind

with_first : (recs : List WideRec) (c : Content) → with_records recs c ≡ with_records (map hist_record (hists_in recs) ++ others_in recs) c
with_first [] c = refl
with_first (WideHist h u ∷ recs) c = with_first recs (with_hist h u c)
with_first (WideArc from to count ∷ recs) c = let r = WideArc from to count in with_first recs (with_record r c) ∙ sym (with_later r refl (others_in recs) (hists_in recs) c)
with_first (WideBlock addr count ∷ recs) c = let r = WideBlock addr count in with_first recs (with_record r c) ∙ sym (with_later r refl (others_in recs) (hists_in recs) c)

first_added : (recs : List WideRec) (c new : Content) → IsAdded (map hist_record (hists_in recs) ++ others_in recs) c new → IsAdded recs c new
first_added [] c new a = a
first_added (WideHist h u ∷ recs) c new a =
    let head = added_head (WideHist h u) (map hist_record (hists_in recs) ++ others_in recs) c new a in
    added_cons (WideHist h u) recs c new head.0 (first_added recs (with_hist h u c) new head.1)
first_added (WideArc from to count ∷ recs) c new a =
    let r = WideArc from to count in
    added_cons r recs c new refl (first_added recs (with_record r c) new (added_earlier r refl (others_in recs) (hists_in recs) c new a))
first_added (WideBlock addr count ∷ recs) c new a =
    let r = WideBlock addr count in
    added_cons r recs c new refl (first_added recs (with_record r c) new (added_earlier r refl (others_in recs) (hists_in recs) c new a))

spans_of : (recs : List WideRec) → AllByRecursion HasSpan recs → Spans (hists_in recs)
spans_of [] all = tt
spans_of (WideHist h u ∷ recs) all = (all.0, spans_of recs all.1)
spans_of (WideArc from to count ∷ recs) all = spans_of recs all.1
spans_of (WideBlock addr count ∷ recs) all = spans_of recs all.1

-- ---- records in another order: their histograms in any order, and then the others

module _ (recs : List WideRec) (qs : List Pair) (same : IsPermutation (hists_in recs) qs) where
  -- they stay within the limits
  pub reordered_within : (c : Content) → IsWithin (with_records recs c) → IsWithin (with_records (map hist_record qs ++ others_in recs) c)
  reordered_within c w =
      carried (λ ps. IsWithin (with_records (map hist_record ps ++ others_in recs) c)) (λ us x y vs v. within_exchanged (others_in recs) us x y vs c v)
      (hists_in recs) qs same (subst (λ (d : Content). IsWithin d) (with_first recs c) w)

-- Records with a span that were added in an order, to nothing, are added in the other: to the same profile.
pub reordered : (recs : List WideRec) (qs : List Pair) (new : Content) → AllByRecursion HasSpan recs → IsPermutation (hists_in recs) qs
    → IsAdded (map hist_record qs ++ others_in recs) empty_content new → IsAdded recs empty_content new
reordered recs qs new spans same a =
    let mine = spans_of recs spans in
    let theirs = carried Spans spans_exchanged (hists_in recs) qs same mine in
    first_added recs empty_content new (any_order (others_in recs) new qs (hists_in recs) (IsPermutation-sym (hists_in recs) qs same) (theirs, a)).1

-- ---- the first conflict sees histograms alone

abbrev put_in : Hist → units.Unit → Bool → Content → Content
put_in h u b c = if b then record c { hists = put_hist h c.hists; «unit» = Some (unwrap_or c.«unit» (kept_unit u)) } else c

same_conflicts : (recs : List WideRec) (c d : Content) → c.hists ≡ d.hists → c.«unit» ≡ d.«unit» → conflict_of c recs ≡ conflict_of d (map hist_record (hists_in recs))
same_conflicts [] c d hists_are unit_is = refl
same_conflicts (WideHist h u ∷ recs) c d hists_are unit_is =
    let now : hist_conflict c h u ≡ hist_conflict d h u = λ i. if has_counters h then conflict_with (hists_are i) (unit_is i) (range_of h) (kept_unit u) else None in
    let next = same_conflicts recs (with_hist h u c) (with_hist h u d) (hists_after (has_counters h)) (unit_after (has_counters h)) in
    λ i. option_or (now i) (next i)
  where
    hists_after : (b : Bool) → (put_in h u b c).hists ≡ (put_in h u b d).hists
    hists_after b = grind arith

    unit_after : (b : Bool) → (put_in h u b c).«unit» ≡ (put_in h u b d).«unit»
    unit_after b = grind arith
same_conflicts (WideArc from to count ∷ recs) c d hists_are unit_is = same_conflicts recs (with_record (WideArc from to count) c) d hists_are unit_is
same_conflicts (WideBlock addr count ∷ recs) c d hists_are unit_is = same_conflicts recs (with_record (WideBlock addr count) c) d hists_are unit_is

first_spans : (ps qs : List Pair) → Spans (ps ++ qs) → Spans ps
first_spans [] qs all = tt
first_spans (p ∷ ps) qs all = (all.0, first_spans ps qs all.1)

-- Where some first histograms were added in another order, the conflict of the records is that of the others.
pub conflict_behind : (recs : List WideRec) (first qs behind : List Pair) (mid : Content) → AllByRecursion HasSpan recs → hists_in recs ≡ first ++ behind → IsPermutation first qs
    → IsAdded (map hist_record qs) empty_content mid → conflict_of empty_content recs ≡ conflict_of mid (map hist_record behind)
conflict_behind recs first qs behind mid spans are same added =
    let mine = first_spans first behind (subst Spans are (spans_of recs spans)) in
    let theirs = carried Spans spans_exchanged first qs same mine in
    let ends : (ps : List Pair) → map hist_record ps ++ [] ≡ map hist_record ps = λ ps. append-nil (map hist_record ps) in
    let other = subst (λ (l : List WideRec). IsAdded l empty_content mid) (sym (ends qs)) added in
    let here = subst (λ (l : List WideRec). IsAdded l empty_content mid) (ends first) (any_order [] mid qs first (IsPermutation-sym first qs same) (theirs, other)).1 in
    same_conflicts recs empty_content empty_content refl refl
    ∙ ap (λ (ps : List Pair). conflict_of empty_content (map hist_record ps)) are
    ∙ ap (conflict_of empty_content) (map-append hist_record first behind)
    ∙ conflict-append (map hist_record first) (map hist_record behind) empty_content here.accepted
    ∙ ap (λ (c : Content). conflict_of c (map hist_record behind)) (sym here.added)

nothing_yet : empty_content ≡ content_of []
unfolding content_of
nothing_yet = refl

-- what is added to nothing is the content
pub content_made : (recs : List WideRec) (new : Content) → IsAdded recs empty_content new → new ≡ content_of recs
content_made recs new a = records_stand recs empty_content new a.added [] nothing_yet
