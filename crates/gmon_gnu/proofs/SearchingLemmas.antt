-- The first conflict among the first histograms is found where each is compared with all before it.
use Rattle.std.proofs.Common.{◌≡◌, ℕ, zero, suc, ◌+◌, ◌-◌, ◌<◌, ◌≤◌, Bool, true, false, ltb, eqb, not, ◌&&◌, List, [], ◌∷◌, ◌++◌, length, map, take, drop, get_or, length-take, length-drop, Option, Some, None, if◌then◌else◌, refl, sym, ap, subst, ◌∙◌, arith}
use Rattle.std.specs.Prelude.{filter_map}
use Rattle.std.specs.List.{AllByRecursion, cons_option, filter}
use Rattle.std.proofs.lemmas.Bool.{eqb-true, eq-eqb, le-ltb, ltb-false, ltb-true}
use Rattle.std.proofs.lemmas.List.{append-nil, take_more}
use Rattle.std.proofs.lemmas.Option.{slice_get-get_or}
use Rattle.std.proofs.lemmas.List.Elements.{filter_map-append}
use Rattle.gp_base.specs.declared.records.RawArc.{RawArc}
use Rattle.gp_base.specs.declared.records.RawBlock.{RawBlock}
use Rattle.gp_base.specs.declared.records.Unit as units
use Rattle.gmon_data.specs.declared.hist.Hist.{Hist}
use Rattle.gmon_data.specs.declared.hist.HistRange.{HistRange}
use Rattle.gmon_data.specs.declared.refusal.Unlike.{Unlike}
use Rattle.gmon_data.specs.declared.refusal.Unlike.TheVariants.{Range}
use Rattle.gmon_data.specs.Content.{Content, HasSpan, WideRec, WideHist, WideArc, WideBlock, conflict_of, empty_content, wide_arc, wide_block, wide_record, wide_records}
use Rattle.gmon_data.specs.Hists.{has_counters, hist_sum, overlap, put_hist, range_conflict, range_of, same_range, IsApart, IsKept}
use Rattle.gmon_data.proofs.RecordLemmas.{cut_at}
use Rattle.gmon_data.proofs.HistLemmas.{all_kept, apart_put, first_none, none_of, one_range, range-sum}
use Rattle.gmon_gnu.specs.declared.state.Body.{Body}
use Rattle.gmon_gnu.specs.declared.state.Entry.{Entry}
use Rattle.gmon_gnu.specs.declared.state.HistFields.{HistFields}
use Rattle.gmon_gnu.specs.FirstHists.{conflict_among_first, is_counted}
use Rattle.gmon_gnu.specs.Held.{IsBodyWithin, IsWithin, entries_recs, no_entry, rec_of, recs_in}
use Rattle.gmon_gnu.specs.Searching.{counted_hist, counted_hists, first_unit, left_behind, lower_one, lower_unlike, lowest_unlike, range_unlike, unlike_among, unlike_where_counted}
use Rattle.gmon_gnu.proofs.AddingLemmas.{all_widened}
use Rattle.gmon_gnu.proofs.FirstHistsLemmas.{conflict_where, put_where}
use Rattle.gmon_gnu.proofs.MakingLemmas.{entries_next}

abbrev Pair : Type 0
Pair = HistRange × units.Unit

-- ---- the lowest of kept histograms

abbrev differ : HistRange → HistRange → Bool
differ old new = overlap old new && not (same_range old new)

abbrev lowest_kept : List Hist → HistRange → Option HistRange
lowest_kept [] new = None
lowest_kept (k ∷ ks) new = if differ (range_of k) new then Some (range_of k) else lowest_kept ks new

told_of_kept : (hs : List Hist) (new : HistRange) → range_conflict hs new ≡ range_unlike (lowest_kept hs new) new
told_of_kept [] new = refl
told_of_kept (k ∷ ks) new = by (differ (range_of k) new) (told_of_kept ks new)
  where
    by : (b : Bool) → range_conflict ks new ≡ range_unlike (lowest_kept ks new) new → (if b then Some (Range (range_of k) new) else range_conflict ks new) ≡ range_unlike (if b then Some (range_of k) else lowest_kept ks new) new
    by b others = grind arith

not_below : (n : ℕ) (hs : List Hist) (new b : HistRange) → AllByRecursion (λ k. n ≤ k.low) hs → lowest_kept hs new ≡ Some b → n ≤ b.low
not_below n [] new b all is = absurd (let none : None ≡ Some b = is in cc)
not_below n (k ∷ ks) new b all is = by (differ (range_of k) new) is (not_below n ks new b all.1)
  where
    by : (c : Bool) → (if c then Some (range_of k) else lowest_kept ks new) ≡ Some b → (lowest_kept ks new ≡ Some b → n ≤ b.low) → n ≤ b.low
    by c is others = grind arith

stays : (best old : HistRange) → best.low ≤ old.low → lower_one (Some best) old ≡ best
stays best old le = ap (λ (b : Bool). if b then old else best) (le-ltb old.low best.low le)

goes_down : (o : Option HistRange) (old : HistRange) → ((best : HistRange) → o ≡ Some best → old.low < best.low) → lower_one o old ≡ old
goes_down o old lower = grind arith

-- a histogram that takes its place may be the lowest
lowest_put : (h : Hist) (new : HistRange) (hs : List Hist) → IsKept h → AllByRecursion IsKept hs → IsApart hs → range_conflict hs (range_of h) ≡ None → lowest_kept (put_hist h hs) new ≡ lower_unlike (lowest_kept hs new) (range_of h) new
lowest_put h new [] mine kept apart none = refl
lowest_put h new (k ∷ ks) mine kept apart none = by (ltb k.low h.low) (eqb k.low h.low) refl refl (differ (range_of k) new) refl (differ (range_of h) new) refl (lowest_put h new ks mine kept.1 apart.1 parts.1)
  where
    parts : (differ (range_of k) (range_of h) ≡ false) × (range_conflict ks (range_of h) ≡ None)
    parts = none_of (differ (range_of k) (range_of h)) _ _ none

    by : (b e : Bool) → ltb k.low h.low ≡ b → eqb k.low h.low ≡ e → (x : Bool) → differ (range_of k) new ≡ x → (y : Bool) → differ (range_of h) new ≡ y
        → lowest_kept (put_hist h ks) new ≡ (if y then Some (lower_one (lowest_kept ks new) (range_of h)) else lowest_kept ks new)
        → lowest_kept (if b then k ∷ put_hist h ks else (if e then hist_sum k h ∷ ks else h ∷ k ∷ ks)) new
        ≡ (if y then Some (lower_one (if x then Some (range_of k) else lowest_kept ks new) (range_of h)) else (if x then Some (range_of k) else lowest_kept ks new))
    by true e lt eq true ex y ey others = grind (arith, ltb-true)
    by true e lt eq false ex y ey others = ap (λ (c : Bool). if c then Some (range_of k) else lowest_kept (put_hist h ks) new) ex ∙ others
    by false true lt eq x ex y ey others =
        let low = eqb-true k.low h.low eq in
        let same = one_range (range_of k) (range_of h) kept.0.range mine.range low parts.0 in
        let sum = range-sum k h (ap (λ (r : HistRange). r.count) same) in
        let one : x ≡ y = sym ex ∙ ap (λ (r : HistRange). differ r new) same ∙ ey in
        ap (λ (r : HistRange). if differ r new then Some r else lowest_kept ks new) sum ∙ ap (λ (c : Bool). if c then Some (range_of k) else lowest_kept ks new) ex ∙ both x y one
      where
        both : (x y : Bool) → x ≡ y → (if x then Some (range_of k) else lowest_kept ks new) ≡ (if y then Some (lower_one (if x then Some (range_of k) else lowest_kept ks new) (range_of h)) else (if x then Some (range_of k) else lowest_kept ks new))
        both x y is = grind (arith, eqb-true)
    by false false lt eq x ex false ey others = search arith
    by false false lt eq x ex true ey others =
        ap (λ (c : Bool). if c then Some (range_of h) else (if differ (range_of k) new then Some (range_of k) else lowest_kept ks new)) ey
        ∙ ap (λ (r : HistRange). let o : Option HistRange = Some r in o) (sym (goes_down (if x then Some (range_of k) else lowest_kept ks new) (range_of h) (below x)))
      where
        le : h.low ≤ k.low
        le = ltb-false k.low h.low lt

        less : h.low < k.low
        less = let other : k.low ≡ h.low → ⊥ = λ is. (let yes : eqb k.low h.low ≡ true = eq-eqb k.low h.low is in let no : true ≡ false = sym yes ∙ eq in cc) in omega (arith, le, other)

        below : (x : Bool) (best : HistRange) → (if x then Some (range_of k) else lowest_kept ks new) ≡ Some best → h.low < best.low
        below true best is = let same : range_of k ≡ best = cc in subst (λ (r : HistRange). h.low < r.low) same less
        below false best is = omega (arith, less, kept.0.range, not_below k.high ks new best apart.0 is)

-- ---- histograms that were looked at, and the content of them

lowest-behind : (ps : List Pair) (p : Pair) (best : Option HistRange) (new : HistRange) → lowest_unlike best (ps ++ p ∷ []) new ≡ lower_unlike (lowest_unlike best ps new) p.0 new
lowest-behind [] p best new = refl
lowest-behind (q ∷ ps) p best new = lowest-behind ps p (lower_unlike best q.0 new) new

record Stands (before : List Pair) (c : Content) : Type 0 where
  kept : AllByRecursion IsKept c.hists
  apart : IsApart c.hists
  lowest : (new : HistRange) → lowest_kept c.hists new ≡ lowest_unlike None before new
  own : c.«unit» ≡ first_unit before

at_begin : Stands [] empty_content
at_begin = record { kept = tt; apart = tt; lowest = λ new. refl; own = refl }

one_behind : (before : List Pair) (c : Content) → Stands before c → (h : Hist) (v : units.Unit) → IsKept h → conflict_where true h v c ≡ None → Stands (before ++ (range_of h, v) ∷ []) (put_where true h v c)
one_behind before c s h v mine none = grind (arith, first_none, all_kept, apart_put, lowest_put, lowest-behind)

abbrev counted_in : WideRec → Option Pair
counted_in (WideHist h v) = if has_counters h then Some (range_of h, v) else None
counted_in (WideArc from to count) = None
counted_in (WideBlock addr count) = None

abbrev all_counted : List WideRec → List Pair
all_counted recs = filter_map counted_in recs

found_among : (recs : List WideRec) (n : ℕ) (before : List Pair) (c : Content) → AllByRecursion HasSpan recs → Stands before c → conflict_of c (take n (filter is_counted recs)) ≡ unlike_among before (all_counted recs) n
found_among [] zero before c spans s = refl
found_among [] (suc n) before c spans s = refl
found_among (WideArc from to count ∷ recs) n before c spans s = found_among recs n before c spans.1 s
found_among (WideBlock addr count ∷ recs) n before c spans s = found_among recs n before c spans.1 s
found_among (WideHist h v ∷ recs) n before c spans s = by (has_counters h) refl n (λ m ps d t. found_among recs m ps d spans.1 t)
  where
    by : (b : Bool) → has_counters h ≡ b → (n : ℕ) → ((m : ℕ) (ps : List Pair) (d : Content) → Stands ps d → conflict_of d (take m (filter is_counted recs)) ≡ unlike_among ps (all_counted recs) m)
        → conflict_of c (take n (if b then WideHist h v ∷ filter is_counted recs else filter is_counted recs)) ≡ unlike_among before (cons_option (if b then Some (range_of h, v) else None) (all_counted recs)) n
    by b e n others = grind (arith, one_behind, told_of_kept, c.hists, s.lowest, s.own)

-- ---- the histograms with counters that were read

counted_arcs : (arcs : List RawArc) → all_counted (map wide_arc arcs) ≡ []
counted_arcs [] = refl
counted_arcs (a ∷ arcs) = counted_arcs arcs

counted_blocks : (blocks : List RawBlock) → all_counted (map wide_block blocks) ≡ []
counted_blocks [] = refl
counted_blocks (b ∷ blocks) = counted_blocks blocks

one_before : {X : Type 0} (o : Option X) (xs : List X) → cons_option o [] ++ xs ≡ cons_option o xs
one_before o xs = grind arith

module _ (fields : List HistFields) (counters : List ℕ) (pairs : List RawBlock) (arcs : List RawArc) where
  counted_record : (b : Body) → IsBodyWithin (length fields) (length counters) (length pairs) b → all_counted (wide_record (rec_of fields counters pairs b)) ≡ cons_option (counted_hist fields b) []
  counted_record b within = grind (arith, length-take, length-drop, counted_blocks)

  counted_read : (entries : List Entry) → AllByRecursion (IsWithin (length fields) (length counters) (length pairs) (length arcs)) entries → all_counted (entries_recs fields counters pairs arcs entries) ≡ counted_hists fields entries
  counted_read [] all = refl
  counted_read (e ∷ entries) all =
      let before = map wide_arc (take (e.last - e.first) (drop e.first arcs)) in
      let own = wide_record (rec_of fields counters pairs e.body) in
      let rest = entries_recs fields counters pairs arcs entries in
      ap all_counted (entries_next fields counters pairs arcs e entries)
      ∙ filter_map-append counted_in (before ++ own) rest
      ∙ ap (λ (l : List Pair). l ++ all_counted rest) (filter_map-append counted_in before own)
      ∙ (λ i. (counted_arcs (take (e.last - e.first) (drop e.first arcs)) i ++ counted_record e.body all.0.2 i) ++ counted_read entries all.1 i)
      ∙ one_before (counted_hist fields e.body) (counted_hists fields entries)

  all_counted_read : (entries : List Entry) (run : ℕ) → AllByRecursion (IsWithin (length fields) (length counters) (length pairs) (length arcs)) entries → all_counted (wide_records (recs_in fields counters pairs arcs entries run)) ≡ counted_hists fields entries
  all_counted_read entries run all = search (all_widened, filter_map-append, counted_read, counted_arcs, append-nil)

  -- what was found in the lists
  pub found_in : (entries : List Entry) (run : ℕ) → AllByRecursion (IsWithin (length fields) (length counters) (length pairs) (length arcs)) entries → AllByRecursion HasSpan (wide_records (recs_in fields counters pairs arcs entries run))
      → (fields_seen : List HistFields) (entries_seen : List Entry) → fields_seen ≡ fields → entries_seen ≡ entries
      → (n : ℕ) (o : Option Unlike) → o ≡ unlike_among [] (counted_hists fields_seen entries_seen) n → conflict_among_first n (wide_records (recs_in fields counters pairs arcs entries run)) ≡ o
  found_in entries run all spans fields_seen entries_seen fields_are entries_are n o found =
      found_among (wide_records (recs_in fields counters pairs arcs entries run)) n [] empty_content spans at_begin
      ∙ ap (λ (l : List Pair). unlike_among [] l n) (all_counted_read entries run all)
      ∙ sym (λ i. unlike_among [] (counted_hists (fields_are i) (entries_are i)) n) ∙ sym found

-- ---- loops

pub none_left : (before ps : List Pair) → unlike_among before ps 0 ≡ None
none_left before [] = refl
none_left before (p ∷ ps) = refl

next_among : (o : Option Pair) (before ps : List Pair) (left : ℕ) → 0 < left → unlike_where_counted before o ≡ None → unlike_among before (cons_option o ps) left ≡ unlike_among (before ++ cons_option o []) ps (left_behind left o)
next_among o before ps left some is = grind (arith, append-nil)

found_next : (o : Option Pair) (before ps : List Pair) (left : ℕ) (u : Unlike) → 0 < left → unlike_where_counted before o ≡ Some u → unlike_among before (cons_option o ps) left ≡ Some u
found_next o before ps left u some is = grind arith

-- ---- the next entry is looked at

module _ (fields : List HistFields) (entries : List Entry) (i left : ℕ) (within : i < length entries) (some : 0 < left) where
  abbrev here : Option Pair
  here = counted_hist fields (get_or entries i no_entry).body

  abbrev before : List Pair
  before = counted_hists fields (take i entries)

  abbrev behind : List Pair
  behind = counted_hists fields (drop (i + 1) entries)

  looked_at : unlike_among before (counted_hists fields (drop i entries)) left ≡ unlike_among before (cons_option here behind) left
  looked_at = ap (λ (es : List Entry). unlike_among before (counted_hists fields es) left) (cut_at entries i (get_or entries i no_entry) (slice_get-get_or entries i no_entry within))

  pub found_here : (u : Unlike) → unlike_where_counted before here ≡ Some u → unlike_among before (counted_hists fields (drop i entries)) left ≡ Some u
  found_here u is = looked_at ∙ found_next here before behind left u some is

  pub clear_here : (next : ℕ) → unlike_where_counted before here ≡ None → left_behind left here ≡ next → unlike_among before (counted_hists fields (drop i entries)) left ≡ unlike_among (counted_hists fields (take (i + 1) entries)) behind next
  clear_here next none next_is =
      let more : before ++ cons_option here [] ≡ counted_hists fields (take (i + 1) entries) =
      sym (filter_map-append (λ (e : Entry). counted_hist fields e.body) (take i entries) (get_or entries i no_entry ∷ [])) ∙ ap (counted_hists fields) (sym (take_more entries i no_entry within)) in
      looked_at ∙ next_among here before behind left some none ∙ (λ k. unlike_among (more k) behind (next_is k))
