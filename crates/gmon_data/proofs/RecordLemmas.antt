-- Records, added one after the other.
use Rattle.std.proofs.Common.{◌≡◌, ℕ, ◌+◌, ◌≤◌, Bool, true, false, zero, suc, List, [], ◌∷◌, ◌++◌, length, map, drop, slice_get, add-one, Option, Some, None, unwrap_or, ltb, eqb, append_assoc, refl, sym, ap, subst, ◌∙◌, if◌then◌else◌, Result, arith}
use Rattle.gp_base.specs.declared.records.Rec.TheVariants as raw
use Rattle.std.specs.List.{sum_by}
use Rattle.std.specs.Option.{option_or}
use Rattle.std.specs.Result.{IfErr}
use Rattle.std.proofs.lemmas.List.{append-nil}
use Rattle.std.proofs.lemmas.List.Sums.{sum_by-cons}
use Rattle.gp_base.specs.declared.records.Unit as units
use Rattle.gp_base.specs.declared.records.RawArc.{RawArc}
use Rattle.gp_base.specs.declared.records.RawBlock.{RawBlock}
use Rattle.gmon_data.specs.declared.hist.Hist.{Hist}
use Rattle.gmon_data.specs.declared.refusal.Unlike.{Unlike}
use Rattle.gmon_data.specs.declared.refusal.AddRefusal.{AddRefusal}
use Rattle.gmon_data.specs.Hists.{put_hist, hist_sum, has_counters, kept_unit, pointwise_sum, unlike_in, IsUnlike}
use Rattle.gmon_data.specs.Tally.{tally}
use Rattle.gmon_data.specs.Content.{Content, WideRec, with_hist, with_record, with_records, record_conflict, conflict_of, content_of, wide_arc, wide_block, wide_records, IsWithin, IsAdded, IsStopped, IsRefusedFirst}
use Rattle.gmon_data.proofs.TallyLemmas.{sum-tally}
use Rattle.gmon_data.proofs.HistLemmas.{samples-put, some_same}
use Rattle.gmon_data.proofs.ContentLemmas.{content-hist, content-arc, content-block}

pub with_records-append : (xs ys : List WideRec) (c : Content) → with_records (xs ++ ys) c ≡ with_records ys (with_records xs c)
with_records-append [] ys c = refl
with_records-append (x ∷ xs) ys c = with_records-append xs ys (with_record x c)

or_next : (o p : Option Unlike) → o ≡ None → option_or o p ≡ p
or_next o p e = grind arith

pub parts_none : (o p : Option Unlike) → option_or o p ≡ None → (o ≡ None) × (p ≡ None)
parts_none o p e = grind arith

-- where some are accepted, the conflict is that of those after them
pub conflict-append : (xs ys : List WideRec) (c : Content) → conflict_of c xs ≡ None → conflict_of c (xs ++ ys) ≡ conflict_of (with_records xs c) ys
conflict-append [] ys c e = refl
conflict-append (x ∷ xs) ys c e =
    let parts = parts_none (record_conflict c x) (conflict_of (with_record x c) xs) e in
    or_next (record_conflict c x) _ parts.0 ∙ conflict-append xs ys (with_record x c) parts.1

-- ---- content and records

pub content-more : (recs more : List WideRec) → content_of (recs ++ more) ≡ with_records more (content_of recs)
content-more recs [] = ap content_of (append-nil recs)
content-more recs (r ∷ more) = grind (arith, append_assoc, content-more (recs ++ r ∷ []) more, content-hist, content-arc, content-block)

pub records_stand : (more : List WideRec) (old new : Content) → new ≡ with_records more old → (recs : List WideRec) → old ≡ content_of recs → new ≡ content_of (recs ++ more)
records_stand more old new added recs before = added ∙ ap (with_records more) before ∙ sym (content-more recs more)

-- ---- what was within before more was added

longer_sum : (xs ys : List ℕ) → length xs ≤ length (pointwise_sum xs ys)
longer_sum [] ys = omega arith
longer_sum (x ∷ xs) [] = omega arith
longer_sum (x ∷ xs) (y ∷ ys) = omega (arith, longer_sum xs ys)

counters_grow : (h : Hist) (hs : List Hist) → sum_by (λ k. length k.counters) hs ≤ sum_by (λ k. length k.counters) (put_hist h hs)
counters_grow h [] = omega arith
counters_grow h (k ∷ ks) = by (ltb k.low h.low) (eqb k.low h.low) (counters_grow h ks)
  where
    f : Hist → ℕ
    f k = length k.counters

    by : (b e : Bool) → sum_by f ks ≤ sum_by f (put_hist h ks) → sum_by f (k ∷ ks) ≤ sum_by f (if b then k ∷ put_hist h ks else (if e then hist_sum k h ∷ ks else h ∷ k ∷ ks))
    by true e others = omega (arith, others, sum_by-cons f k (put_hist h ks), sum_by-cons f k ks)
    by false true others = omega (arith, longer_sum k.counters h.counters, sum_by-cons f (hist_sum k h) ks, sum_by-cons f k ks)
    by false false others = omega (arith, sum_by-cons f h (k ∷ ks), sum_by-cons f k ks)

tally_grows : {K : Type 0} (same : K → K → Bool) (k : K) (n : ℕ) (es : List (K × ℕ)) → length es ≤ length (tally same k n es)
tally_grows same k n [] = omega arith
tally_grows {K} same k n (e ∷ es) = by (same k e.0) (tally_grows same k n es)
  where
    by : (b : Bool) → length es ≤ length (tally same k n es) → length (e ∷ es) ≤ length (if b then (e.0, e.1 + n) ∷ es else e ∷ tally same k n es)
    by b h = grind arith

within_hist : (h : Hist) (u : units.Unit) (c : Content) → IsWithin (with_hist h u c) → IsWithin c
within_hist h u c w = by (has_counters h) w
  where
    by : (b : Bool) → IsWithin (if b then record c { hists = put_hist h c.hists; «unit» = Some (unwrap_or c.«unit» (kept_unit u)) } else c) → IsWithin c
    by b w = grind (arith, samples-put, counters_grow)

within_record : (r : WideRec) (c : Content) → IsWithin (with_record r c) → IsWithin c
within_record r c w = grind (arith, within_hist, sum-tally, tally_grows)

pub within_records : (recs : List WideRec) (c : Content) → IsWithin (with_records recs c) → IsWithin c
within_records [] c w = w
within_records (r ∷ recs) c w = within_record r c (within_records recs (with_record r c) w)

-- ---- a loop over records: some first ones are added

pub record IsUnderway (all rest : List WideRec) (old now : Content) : Type 0 where
  pub done : List WideRec
  pub split : all ≡ done ++ rest
  pub added : now ≡ with_records done old
  pub accepted : conflict_of old done ≡ None

pub at_begin : (all : List WideRec) (old : Content) → IsUnderway all all old old
at_begin all old = record { done = []; split = refl; added = refl; accepted = refl }

module _ (all more rest : List WideRec) (old now : Content) (w : IsUnderway all (more ++ rest) old now) where
  pub within_next : IsWithin (with_records all old) → IsWithin (with_records more now)
  within_next fits = grind (arith, with_records-append, within_records)

  pub one_more : (next : Content) → IsAdded more now next → IsUnderway all rest old next
  one_more next a = record {
    done = w.done ++ more;
    split = w.split ∙ sym (append_assoc w.done more rest);
    added = a.added ∙ ap (with_records more) w.added ∙ sym (with_records-append w.done more old);
    accepted = conflict-append w.done more old w.accepted ∙ ap (λ c. conflict_of c more) (sym w.added) ∙ a.accepted;
  }

  pub stop : (refusal : AddRefusal) (next : Content) → IsStopped refusal more now next → IsStopped refusal all old next
  stop refusal next s = record {
    done = w.done ++ s.done;
    rest = s.rest ++ rest;
    split = w.split ∙ ap (λ l. w.done ++ (l ++ rest)) s.split ∙ ap (λ l. w.done ++ l) (append_assoc s.done s.rest rest) ∙ sym (append_assoc w.done s.done (s.rest ++ rest));
    added = s.added ∙ ap (with_records s.done) w.added ∙ sym (with_records-append w.done s.done old);
    accepted = conflict-append w.done s.done old w.accepted ∙ ap (λ c. conflict_of c s.done) (sym w.added) ∙ s.accepted;
    refused = first_stays refusal next s.rest s.refused;
  }
    where
      first_stays : (refusal : AddRefusal) (c : Content) (recs : List WideRec) → IsRefusedFirst refusal c recs → IsRefusedFirst refusal c (recs ++ rest)
      first_stays refusal c recs h = grind arith

pub at_end : (all : List WideRec) (old now : Content) → IsUnderway all [] old now → IsAdded all old now
at_end all old now w = grind (arith, append-nil)

-- ---- records, and others behind them

module _ (first second : List WideRec) (old : Content) where
  abbrev all : List WideRec
  all = first ++ second

  begun : IsUnderway all all old old
  begun = at_begin all old

  pub within_first : IsWithin (with_records all old) → IsWithin (with_records first old)
  within_first fits = within_next all first second old old begun fits

  pub stopped_first : (refusal : AddRefusal) (new : Content) → IsStopped refusal first old new → IsStopped refusal all old new
  stopped_first refusal new s = stop all first second old old begun refusal new s

  module _ (mid : Content) (added : IsAdded first old mid) where
    half_way : IsUnderway all (second ++ []) old mid
    half_way = subst (λ (rest : List WideRec). IsUnderway all rest old mid) (sym (append-nil second)) (one_more all first second old old begun mid added)

    pub within_second : IsWithin (with_records all old) → IsWithin (with_records second mid)
    within_second fits = within_next all second [] old mid half_way fits

    pub stopped_second : (refusal : AddRefusal) (new : Content) → IsStopped refusal second mid new → IsStopped refusal all old new
    stopped_second refusal new s = stop all second [] old mid half_way refusal new s

    pub added_both : (new : Content) → IsAdded second mid new → IsAdded all old new
    added_both new a = at_end all old new (one_more all second [] old mid half_way new a)

-- ---- what a stop says of the conflict

pub stopped_conflict : (refusal : AddRefusal) (recs : List WideRec) (old new : Content) → IsStopped refusal recs old new → IsUnlike refusal (conflict_of old recs)
stopped_conflict refusal recs old new s = grind (arith, conflict-append)

-- ---- single records

pub stopped_before : (refusal : AddRefusal) (r : WideRec) (old new : Content) → new ≡ old → record_conflict old r ≡ unlike_in refusal → IsStopped refusal (r ∷ []) old new
stopped_before refusal r old new same h = record { done = []; rest = r ∷ []; split = refl; added = same; accepted = refl; refused = ap (λ c. record_conflict c r) same ∙ h }

pub one_added : (r : WideRec) (old new : Content) → record_conflict old r ≡ None → new ≡ with_record r old → IsAdded (r ∷ []) old new
one_added r old new none is = record { added = is; accepted = rw none refl }

-- ---- the items of a list one by one

pub cut_at : {A : Type 0} (xs : List A) (i : ℕ) (x : A) → slice_get xs i ≡ Some x → drop i xs ≡ x ∷ drop (i + 1) xs
cut_at {A} xs i x at = rw add-one (go xs i at)
  where
    go : (ys : List A) (k : ℕ) → slice_get ys k ≡ Some x → drop k ys ≡ x ∷ drop (suc k) ys
    go [] k e = absurd cc
    go (y ∷ ys) zero e = ap (λ (z : A). z ∷ ys) (some_same y x e)
    go (y ∷ ys) (suc k) e = go ys k e

pub past_end : {A : Type 0} (xs : List A) (i : ℕ) → length xs ≤ i → drop i xs ≡ []
past_end [] zero le = refl
past_end [] (suc i) le = refl
past_end (x ∷ xs) zero le = absurd (let f : suc (length xs) ≤ 0 = le in omega (arith, f))
past_end (x ∷ xs) (suc i) le = past_end xs i (omega (arith, le))

pub arcs_widened : (arcs : List RawArc) → wide_records (map raw.Arc arcs) ≡ map wide_arc arcs
arcs_widened [] = refl
arcs_widened (a ∷ arcs) = ap (λ (recs : List WideRec). wide_arc a ∷ recs) (arcs_widened arcs)

-- arcs and counts of blocks have no conflict
pub arcs_accepted : (arcs : List RawArc) (c : Content) → conflict_of c (map wide_arc arcs) ≡ None
arcs_accepted [] c = refl
arcs_accepted (a ∷ arcs) c = arcs_accepted arcs (with_record (wide_arc a) c)

pub arcs_added : {some all : List RawArc} → some ≡ all → (old new : Content) → new ≡ with_records (map wide_arc some) old → IsAdded (map wide_arc all) old new
arcs_added {all = all} same old new added = record { added = added ∙ ap (λ (arcs : List RawArc). with_records (map wide_arc arcs) old) same; accepted = arcs_accepted all old }

pub blocks_accepted : (blocks : List RawBlock) (c : Content) → conflict_of c (map wide_block blocks) ≡ None
blocks_accepted [] c = refl
blocks_accepted (b ∷ blocks) c = blocks_accepted blocks (with_record (wide_block b) c)

-- what follows from a clause on an `Err`
pub on_err : {A E : Type 0} {P Q : E → Type 0} (r : Result A E) → IfErr r P → ((e : E) → P e → Q e) → IfErr r Q
on_err r p f = grind arith
