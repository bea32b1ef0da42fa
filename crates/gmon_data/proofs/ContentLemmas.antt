-- What one record more changes.
use Rattle.std.proofs.Common.{◌≡◌, ℕ, Bool, true, false, ◌&&◌, nat_eq, List, [], ◌∷◌, ◌++◌, slice_get, fold, unwrap_or, Some, None, filter_map, Result, Ok, Err, OnOk, refl, sym, ap, subst, ◌∙◌, true≢false}
use Rattle.std.proofs.lemmas.Bool.{eqb-true, eq-eqb}
use Rattle.std.proofs.lemmas.List.{append-nil}
use Rattle.std.proofs.lemmas.List.Elements.{filter_map-append}
use Rattle.std.proofs.lemmas.List.Sums.{fold-append}
use Rattle.gp_base.specs.declared.records.Unit as units
use Rattle.gmon_data.specs.declared.hist.Hist.{Hist}
use Rattle.gmon_data.specs.declared.hist.HistRange.{HistRange}
use Rattle.gmon_data.specs.Hists.{conflict_with, has_counters, kept_unit, put_hist, range_conflict, unit_conflict}
use Rattle.gmon_data.proofs.HistLemmas.{first_none}
use Rattle.gmon_data.specs.Tally.{sums_by_key}
use Rattle.gmon_data.specs.Content.{WideRec, WideHist, WideArc, WideBlock, Content, same_ends, arc_in, block_in, hist_in, unit_in, hists_of, summed_arcs, blocks_of, unit_of, content_of, with_hist, with_arc, with_block, IsWithin}
use Rattle.gmon_data.proofs.TallyLemmas.{sums_by_key-more}

pub same-self : (k : ℕ) → nat_eq k k ≡ true
same-self k = eq-eqb k k refl

pub pair-self : (p : ℕ × ℕ) → same_ends p p ≡ true
pair-self p = ap (λ b. b && nat_eq p.1 p.1) (same-self p.0) ∙ same-self p.1

both : (a b : Bool) → (a && b) ≡ true → (a ≡ true) × (b ≡ true)
both true b h = (refl, h)
both false b h = absurd (true≢false (sym h))

pub pair-equal : (p q : ℕ × ℕ) → same_ends p q ≡ true → p ≡ q
pair-equal p q h =
    let parts = both (nat_eq p.0 q.0) (nat_eq p.1 q.1) h in
    let first : p.0 ≡ q.0 = eqb-true p.0 q.0 parts.0 in
    let second : p.1 ≡ q.1 = eqb-true p.1 q.1 parts.1 in
    λ i. (first i, second i)

pub content-arc : (from to count : ℕ) (recs : List WideRec) → content_of (recs ++ WideArc from to count ∷ []) ≡ with_arc from to count (content_of recs)
unfolding content_of
content-arc from to count recs =
    let arc = WideArc from to count ∷ [] in
    let arcs = ap (sums_by_key same_ends) (filter_map-append arc_in recs arc) ∙ sums_by_key-more same_ends pair-self pair-equal (from, to) count (filter_map arc_in recs) in
    let blocks = ap (sums_by_key nat_eq) (filter_map-append block_in recs arc ∙ append-nil (filter_map block_in recs)) in
    let hists = filter_map-append hist_in recs arc ∙ append-nil (filter_map hist_in recs) in
    let units = filter_map-append unit_in recs arc ∙ append-nil (filter_map unit_in recs) in
    λ i. record { hists = fold (λ done h. put_hist h done) [] (hists i); arcs = arcs i; blocks = blocks i; «unit» = slice_get (units i) 0 }

pub content-block : (addr count : ℕ) (recs : List WideRec) → content_of (recs ++ WideBlock addr count ∷ []) ≡ with_block addr count (content_of recs)
unfolding content_of
content-block addr count recs =
    let block = WideBlock addr count ∷ [] in
    let blocks = ap (sums_by_key nat_eq) (filter_map-append block_in recs block) ∙ sums_by_key-more nat_eq same-self eqb-true addr count (filter_map block_in recs) in
    let arcs = ap (sums_by_key same_ends) (filter_map-append arc_in recs block ∙ append-nil (filter_map arc_in recs)) in
    let hists = filter_map-append hist_in recs block ∙ append-nil (filter_map hist_in recs) in
    let units = filter_map-append unit_in recs block ∙ append-nil (filter_map unit_in recs) in
    λ i. record { hists = fold (λ done h. put_hist h done) [] (hists i); arcs = arcs i; blocks = blocks i; «unit» = slice_get (units i) 0 }

first_more : {A : Type 0} (xs : List A) (y : A) → slice_get (xs ++ y ∷ []) 0 ≡ Some (unwrap_or (slice_get xs 0) y)
first_more [] y = refl
first_more (x ∷ xs) y = refl

pub content-hist : (h : Hist) (u : units.Unit) (recs : List WideRec) → content_of (recs ++ WideHist h u ∷ []) ≡ with_hist h u (content_of recs)
unfolding content_of
content-hist h u recs =
    let more = WideHist h u ∷ [] in
    let arcs = ap (sums_by_key same_ends) (filter_map-append arc_in recs more ∙ append-nil (filter_map arc_in recs)) in
    let blocks = ap (sums_by_key nat_eq) (filter_map-append block_in recs more ∙ append-nil (filter_map block_in recs)) in
    let hists = ap (fold (λ done h. put_hist h done) []) (filter_map-append hist_in recs more) in
    let units = ap (λ us. slice_get us 0) (filter_map-append unit_in recs more) in
    (λ i. record { hists = hists i; arcs = arcs i; blocks = blocks i; «unit» = units i }) ∙ by (has_counters h) refl
  where
    by : (b : Bool) → has_counters h ≡ b
        → record { hists = fold (λ done h. put_hist h done) [] (filter_map hist_in recs ++ filter_map hist_in (WideHist h u ∷ [])); arcs = summed_arcs recs; blocks = blocks_of recs; «unit» = slice_get (filter_map unit_in recs ++ filter_map unit_in (WideHist h u ∷ [])) 0 }
        ≡ with_hist h u (record { hists = hists_of recs; arcs = summed_arcs recs; blocks = blocks_of recs; «unit» = unit_of recs })
    by true e =
        let hists = fold-append (λ done h. put_hist h done) [] (filter_map hist_in recs) (h ∷ []) in
        let units = first_more (filter_map unit_in recs) (kept_unit u) in
        rw e (λ i. record { hists = hists i; arcs = summed_arcs recs; blocks = blocks_of recs; «unit» = units i })
    by false e =
        let hists = append-nil (filter_map hist_in recs) in
        let units = append-nil (filter_map unit_in recs) in
        rw e (λ i. record { hists = fold (λ done h. put_hist h done) [] (hists i); arcs = summed_arcs recs; blocks = blocks_of recs; «unit» = slice_get (units i) 0 })

pub hist_stands : (h : Hist) (u : units.Unit) (v w new : Content) → v ≡ w → new ≡ with_hist h u v → (recs : List WideRec) → w ≡ content_of recs → new ≡ content_of (recs ++ WideHist h u ∷ [])
hist_stands h u v w new is added recs before = added ∙ ap (with_hist h u) (is ∙ before) ∙ sym (content-hist h u recs)

pub with_hist_is : (h : Hist) (u : units.Unit) (v : Content) (hists : List Hist) (un : units.Unit) → has_counters h ≡ true → hists ≡ put_hist h v.hists → un ≡ unwrap_or v.«unit» (kept_unit u)
    → record v { hists = hists; «unit» = Some un } ≡ with_hist h u v
with_hist_is h u v hists un some added is = rw some (λ i. record v { hists = added i; «unit» = Some (is i) })

pub hist_within : (h : Hist) (u : units.Unit) (v w : Content) → v ≡ w → has_counters h ≡ true → IsWithin (with_hist h u w) → IsWithin (record v { hists = put_hist h v.hists; «unit» = Some (unwrap_or v.«unit» (kept_unit u)) })
hist_within h u v w is some fits =
    subst (λ (c : Content). IsWithin c) (sym (with_hist_is h u v (put_hist h v.hists) (unwrap_or v.«unit» (kept_unit u)) some refl refl)) (subst (λ (c : Content). IsWithin (with_hist h u c)) (sym is) fits)

-- nothing that is kept overlaps a histogram without conflict and differs from it
pub like_kept : (v w : Content) (range : HistRange) (u : units.Unit) → v ≡ w → conflict_with w.hists w.«unit» range u ≡ None → range_conflict v.hists range ≡ None
like_kept v w range u is none =
    first_none (range_conflict v.hists range) (unit_conflict v.«unit» u) (ap (λ (c : Content). conflict_with c.hists c.«unit» range u) is ∙ none)

-- what follows from a clause on an `Ok`
pub on_ok : {A E : Type 0} {P Q : Type 0} (r : Result A E) → OnOk r P → (P → Q) → OnOk r Q
on_ok (Ok a) p f = f p
on_ok (Err e) p f = p
