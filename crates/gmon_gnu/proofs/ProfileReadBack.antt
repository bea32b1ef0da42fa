-- What is read of a profile's file has the profile's content.
use Rattle.std.proofs.Common.{◌≡◌, ℕ, zero, suc, ◌+◌, true, ltb, nat_eq, List, [], ◌∷◌, ◌++◌, length, map, fold, filter_map, slice_get, Option, Some, None, refl, sym, ap, ◌∙◌, arith}
use Rattle.std.specs.List.{flat_map, AllByRecursion}
use Rattle.std.proofs.lemmas.Bool.{lt-ltb, eqb-true}
use Rattle.std.proofs.lemmas.List.{append-nil}
use Rattle.std.proofs.lemmas.List.Elements.{filter_map-append}
use Rattle.std.proofs.lemmas.List.Concat.{flat_map-append}
use Rattle.gp_base.specs.declared.records.Unit as units
use Rattle.gp_base.specs.declared.records.Rec.{Rec}
use Rattle.gp_base.specs.declared.records.Records.{Records}
use Rattle.gmon_data.specs.declared.hist.Hist.{Hist}
use Rattle.gmon_data.specs.Hists.{put_hist, has_counters, IsKept, IsUnitOf}
use Rattle.gmon_data.specs.Tally.{sums_by_key}
use Rattle.gmon_data.specs.Content.{WideRec, WideHist, WideArc, WideBlock, Content, same_ends, hist_in, unit_in, arc_in, block_in, content_of, wide_block, wide_records, IsProfile}
use Rattle.gmon_data.proofs.ContentLemmas.{pair-self, pair-equal, same-self}
use Rattle.gmon_data.proofs.TallyLemmas.{sums_by_key-fold}
use Rattle.gmon_gnu.specs.ProfileText.{profile_text, profile_records, ProfilesAreReadBack}
use Rattle.gmon_gnu.specs.Splitting.{piece, pieces_of, most_samples, largest, each_piece, hist_piece, hist_pieces, arc_pieces, rounds_of, hist_rec, hist_recs, arc_rec, raw_block, blocks_rec, profile_recs}
use Rattle.gmon_gnu.proofs.SpellingLemmas.{accepted_where_spelled, only_where_spelled}
use Rattle.gmon_gnu.proofs.ProfileSpelling.{profile_spelled}
use Rattle.gmon_gnu.proofs.SplitLemmas.{ascending_of, hists-merge, numbers-merge, rounds-merge, enough4}

-- ---- what each part of the records gives

module _ {A : Type 0} (pick : WideRec → Option A) where
  none-hists : ((h : Hist) (u : units.Unit) → pick (WideHist h u) ≡ None) → (u : units.Unit) (hs : List Hist) → filter_map pick (wide_records (map (hist_rec u) hs)) ≡ []
  none-hists none u [] = refl
  none-hists none u (h ∷ hs) = rw (none h u) (none-hists none u hs)

  none-arcs : ((from to n : ℕ) → pick (WideArc from to n) ≡ None) → (es : List ((ℕ × ℕ) × ℕ)) → filter_map pick (wide_records (map arc_rec es)) ≡ []
  none-arcs none [] = refl
  none-arcs none (e ∷ es) = rw (none e.0.0 e.0.1 e.1) (none-arcs none es)

  none-round : ((addr n : ℕ) → pick (WideBlock addr n) ≡ None) → (es : List (ℕ × ℕ)) → filter_map pick (map wide_block (map raw_block es)) ≡ []
  none-round none [] = refl
  none-round none (e ∷ es) = rw (none e.0 e.1) (none-round none es)

  none-blocks : ((addr n : ℕ) → pick (WideBlock addr n) ≡ None) → (rs : List (List (ℕ × ℕ))) → filter_map pick (wide_records (map blocks_rec rs)) ≡ []
  none-blocks none [] = refl
  none-blocks none (r ∷ rs) = filter_map-append pick (map wide_block (map raw_block r)) (wide_records (map blocks_rec rs)) ∙ (λ i. none-round none r i ++ none-blocks none rs i)

all-hists : (u : units.Unit) (hs : List Hist) → AllByRecursion (λ h. has_counters h ≡ true) hs → filter_map hist_in (wide_records (map (hist_rec u) hs)) ≡ hs
all-hists u [] some = refl
all-hists u (h ∷ hs) some = rw some.0 (ap (λ l. h ∷ l) (all-hists u hs some.1))

all-arcs : (es : List ((ℕ × ℕ) × ℕ)) → filter_map arc_in (wide_records (map arc_rec es)) ≡ es
all-arcs [] = refl
all-arcs (e ∷ es) = ap (λ l. e ∷ l) (all-arcs es)

all-round : (es : List (ℕ × ℕ)) → filter_map block_in (map wide_block (map raw_block es)) ≡ es
all-round [] = refl
all-round (e ∷ es) = ap (λ l. e ∷ l) (all-round es)

all-blocks : (rs : List (List (ℕ × ℕ))) → filter_map block_in (wide_records (map blocks_rec rs)) ≡ flat_map (λ r. r) rs
all-blocks [] = refl
all-blocks (r ∷ rs) = filter_map-append block_in (map wide_block (map raw_block r)) (wide_records (map blocks_rec rs)) ∙ (λ i. all-round r i ++ all-blocks rs i)

-- ---- each piece of a histogram has counters

some_pieces : (h : Hist) → has_counters h ≡ true → (n j : ℕ) → AllByRecursion (λ k. has_counters k ≡ true) (each_piece (hist_piece h) j n)
some_pieces h some zero j = tt
some_pieces h some (suc n) j = (same h.counters some, some_pieces h some n (j + 1))
  where
    same : (cs : List ℕ) → ltb 0 (length cs) ≡ true → ltb 0 (length (map (piece most_samples j) cs)) ≡ true
    same [] e = e
    same (x ∷ cs) e = lt-ltb 0 (length (map (piece most_samples j) (x ∷ cs))) (omega arith)

all_append : (xs ys : List Hist) → AllByRecursion (λ k. has_counters k ≡ true) xs → AllByRecursion (λ k. has_counters k ≡ true) ys → AllByRecursion (λ k. has_counters k ≡ true) (xs ++ ys)
all_append [] ys a b = b
all_append (x ∷ xs) ys a b = (a.0, all_append xs ys a.1 b)

all_pieces_some : (hs : List Hist) → AllByRecursion IsKept hs → AllByRecursion (λ k. has_counters k ≡ true) (flat_map hist_pieces hs)
all_pieces_some [] kept = tt
all_pieces_some (h ∷ hs) kept = all_append (hist_pieces h) (flat_map hist_pieces hs) (some_pieces h (lt-ltb 0 (length h.counters) kept.0.some) (pieces_of most_samples (largest h.counters)) 0) (all_pieces_some hs kept.1)

-- ---- the whole

three : {A : Type 0} (pick : WideRec → Option A) (xs ys zs : List Rec) → filter_map pick (wide_records (xs ++ (ys ++ zs))) ≡ filter_map pick (wide_records xs) ++ (filter_map pick (wide_records ys) ++ filter_map pick (wide_records zs))
three pick xs ys zs = search (filter_map, flat_map-append, filter_map-append)

-- the histograms, and their unit
hists_back : (hs : List Hist) (o : Option units.Unit) → IsUnitOf hs o → AllByRecursion IsKept hs → filter_map hist_in (wide_records (hist_recs o hs)) ≡ flat_map hist_pieces hs
hists_back hs o is kept = grind (arith, all-hists, all_pieces_some)

unit_back : (hs : List Hist) (o : Option units.Unit) → IsUnitOf hs o → AllByRecursion IsKept hs → slice_get (filter_map unit_in (wide_records (hist_recs o hs))) 0 ≡ o
unit_back [] None is kept = refl
unit_back [] (Some u) is kept = absurd (let e = is in cc)
unit_back (h ∷ hs) None is kept = absurd (let e = is.1 in cc)
unit_back (h ∷ hs) (Some u) is kept =
    let first : has_counters (hist_piece h 0) ≡ true = (some_pieces h (lt-ltb 0 (length h.counters) kept.0.some) 1 0).0 in
    grind arith

other_hists : {A : Type 0} (pick : WideRec → Option A) → ((h : Hist) (u : units.Unit) → pick (WideHist h u) ≡ None) → (o : Option units.Unit) (hs : List Hist) → filter_map pick (wide_records (hist_recs o hs)) ≡ []
other_hists pick none None hs = refl
other_hists pick none (Some u) hs = none-hists pick none u (flat_map hist_pieces hs)

content_back : (p : Content) → IsProfile p → content_of (wide_records (profile_recs p)) ≡ p
unfolding content_of
content_back p sound =
    let o = p.«unit» in
    let es = flat_map arc_pieces p.arcs in
    let rs = rounds_of p.blocks in
    let A = hist_recs o p.hists in
    let B = map arc_rec es in
    let C = map blocks_rec rs in
    let hists = three hist_in A B C
    ∙ (λ i. hists_back p.hists o sound.«unit» sound.hists i ++ (none-arcs hist_in (λ _ _ _. refl) es i ++ none-blocks hist_in (λ _ _. refl) rs i))
    ∙ append-nil (flat_map hist_pieces p.hists) in
    let units = three unit_in A B C
    ∙ (λ i. filter_map unit_in (wide_records A) ++ (none-arcs unit_in (λ _ _ _. refl) es i ++ none-blocks unit_in (λ _ _. refl) rs i))
    ∙ append-nil (filter_map unit_in (wide_records A)) in
    let arcs = three arc_in A B C
    ∙ (λ i. other_hists arc_in (λ _ _. refl) o p.hists i ++ (all-arcs es i ++ none-blocks arc_in (λ _ _. refl) rs i))
    ∙ append-nil es in
    let blocks = three block_in A B C
    ∙ (λ i. other_hists block_in (λ _ _. refl) o p.hists i ++ (none-arcs block_in (λ _ _ _. refl) es i ++ all-blocks rs i)) in
    (λ i. record { hists = fold (λ done h. put_hist h done) [] (hists i); arcs = sums_by_key same_ends (arcs i); blocks = sums_by_key nat_eq (blocks i); «unit» = slice_get (units i) 0 })
    ∙ (λ i. record {
      hists = hists-merge p.hists (ascending_of p.hists sound.hists sound.apart) i;
      arcs = (sums_by_key-fold same_ends pair-self pair-equal es ∙ numbers-merge same_ends pair-self pair-equal 4294967295 enough4 p.arcs sound.arcs) i;
      blocks = (sums_by_key-fold nat_eq same-self eqb-true (flat_map (λ r. r) rs) ∙ rounds-merge p.blocks sound.blocks) i;
      «unit» = unit_back p.hists o sound.«unit» sound.hists i;
    })

pub profile_read_back : ProfilesAreReadBack
profile_read_back p is =
    let spelled = profile_spelled p is in (
      accepted_where_spelled (profile_text p) (profile_records p) spelled,
      ap (λ (r : Records). content_of (wide_records r.recs)) (sym (only_where_spelled (profile_text p) (profile_records p) spelled)) ∙ content_back p is,
    )
