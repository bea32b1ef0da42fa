-- Reading goes on item by item.
use Rattle.std.proofs.Common.{◌≡◌, ℕ, zero, suc, ◌+◌, ◌-◌, ◌*◌, ◌<◌, ◌≤◌, Bool, false, cond, not, eqb, ltb, leb, ◌&&◌, if◌then◌else◌, List, [], ◌∷◌, ◌++◌, length, take, drop, slice_index, length-drop, length-append, Result, Err, refl, sym, ap, ◌∙◌, append_assoc, arith}
use Rattle.std.specs.Prelude.{nat_lt}
use Rattle.std.proofs.lemmas.Bool.{le-ltb, eq-eqb}
use Rattle.std.proofs.lemmas.List.{append-nil, take_at, drop_at, take-append-le, drop-append-le, drop-drop, get_or-drop}
use Rattle.gp_base.specs.declared.records.RawBlock.{RawBlock}
use Rattle.gp_base.specs.declared.records.RawHist.{RawHist}
use Rattle.gp_base.specs.declared.records.Rec.{Rec}
use Rattle.gp_base.specs.declared.records.Rec.TheVariants.{Hist, Arc, Blocks}
use Rattle.gp_base.specs.declared.refusal.GmonRefusal.{GmonRefusal}
use Rattle.gp_base.specs.declared.refusal.GmonRefusal.TheVariants.{Short, Version, Range}
use Rattle.gp_base.specs.Bytes.{value_of, word_at, items_of_text}
use Rattle.gp_base.specs.Fields.{arc_of, block_of}
use Rattle.gmon_gnu.specs.Fields.{gnu_version}
use Rattle.gmon_gnu.specs.Reading.{Front, Refused, Found, hist_of_fields, pairs_front, behind_records, after_front, recs_from}
use Rattle.gmon_gnu.specs.Going.{Open, records_on, header_on, hist_on, blocks_on, resume, Reads}
use Rattle.gmon_gnu.proofs.RecordLemmas.{allowance}

-- ---- records so far

pub behind_both : (recs added : List Rec) (o : Result (List Rec) GmonRefusal) → behind_records recs (behind_records added o) ≡ behind_records (recs ++ added) o
behind_both recs added o = grind (arith, append_assoc)

pub reads_then : (whole : List ℕ) (recs added : List Rec) (was now : Open) (rest left : List ℕ)
    → ((more : List ℕ) → resume (length (whole ++ more)) was (rest ++ more) ≡ behind_records added (resume (length (whole ++ more)) now (left ++ more)))
    → Reads whole recs was rest → Reads whole (recs ++ added) now left
reads_then whole recs added was now rest left step reads = grind (arith, behind_both)

pub reads_same : (whole : List ℕ) (recs : List Rec) (was now : Open) (rest left : List ℕ)
    → ((more : List ℕ) → resume (length (whole ++ more)) was (rest ++ more) ≡ resume (length (whole ++ more)) now (left ++ more))
    → Reads whole recs was rest → Reads whole recs now left
reads_same whole recs was now rest left step reads = λ more. reads more ∙ ap (behind_records recs) (step more)

-- what follows comes to the bytes
pub reads_more : (whole piece : List ℕ) (recs : List Rec) (now : Open) (rest : List ℕ) → Reads whole recs now rest → Reads (whole ++ piece) recs now (rest ++ piece)
reads_more whole piece recs now rest reads = search append_assoc

-- ---- cells

cut_sum : {X : Type 0} (w : ℕ) (cell : List ℕ → X) (k m : ℕ) (t rest : List ℕ) → k * w ≤ length t → items_of_text w cell (k + m) (t ++ rest) ≡ items_of_text w cell k t ++ items_of_text w cell m (drop (k * w) t ++ rest)
cut_sum w cell zero m t rest long = let e : 0 + m ≡ m = omega arith in let z : 0 * w ≡ 0 = omega arith in rw (e, z) refl
cut_sum {X} w cell (suc k) m t rest long =
    let e : suc k + m ≡ suc (k + m) = omega arith in
    grind (arith, take-append-le, drop-append-le, drop-drop, length-drop, cut_sum w cell k m (drop w t) rest)

-- k of the cells that are due came with a text
due_less : (w k left : ℕ) (t rest : List ℕ) → k ≤ left → k * w ≤ length t → ltb (length (t ++ rest)) (left * w) ≡ ltb (length (drop (k * w) t ++ rest)) ((left - k) * w)
due_less w k left t rest within long = grind (arith, length-append, length-drop)

due_cells : {X : Type 0} (w : ℕ) (cell : List ℕ → X) (k left : ℕ) (before : List X) (t rest : List ℕ) → k ≤ left → k * w ≤ length t
    → before ++ items_of_text w cell left (t ++ rest) ≡ (before ++ items_of_text w cell k t) ++ items_of_text w cell (left - k) (drop (k * w) t ++ rest)
due_cells {X} w cell k left before t rest within long =
    let split : left ≡ k + (left - k) = omega arith in
    ap (λ (n : ℕ). before ++ items_of_text w cell n (t ++ rest)) split
    ∙ ap (λ (v : List X). before ++ v) (cut_sum w cell k (left - k) t rest long)
    ∙ sym (append_assoc before (items_of_text w cell k t) (items_of_text w cell (left - k) (drop (k * w) t ++ rest)))

due_rest : (w k left : ℕ) (t rest : List ℕ) → k ≤ left → k * w ≤ length t → drop (left * w) (t ++ rest) ≡ drop ((left - k) * w) (drop (k * w) t ++ rest)
due_rest w k left t rest within long =
    let split : left ≡ left - k + k = omega arith in
    let b : left * w ≡ k * w + (left - k) * w = ap (λ (n : ℕ). n * w) split ∙ omega arith in
    ap (λ (n : ℕ). drop n (t ++ rest)) b ∙ sym (drop-drop ((left - k) * w) (k * w) (t ++ rest)) ∙ ap (drop ((left - k) * w)) (drop-append-le (k * w) t rest long)

pub counters_on : (len : ℕ) (h : RawHist) (left k : ℕ) (t rest : List ℕ) → k ≤ left → k * 2 ≤ length t
    → hist_on len h left (t ++ rest) ≡ hist_on len (record h { counters = h.counters ++ items_of_text 2 value_of k t }) (left - k) (drop (k * 2) t ++ rest)
counters_on len h left k t rest within long = grind (arith, due_less, due_cells, due_rest)

pub pairs_on : (len : ℕ) (blocks : List RawBlock) (left k : ℕ) (t rest : List ℕ) → k ≤ left → k * 8 ≤ length t
    → blocks_on len blocks left (t ++ rest) ≡ blocks_on len (blocks ++ items_of_text 8 block_of k t) (left - k) (drop (k * 8) t ++ rest)
pairs_on len blocks left k t rest within long = grind (arith, due_less, due_cells, due_rest)

-- a record ends where nothing is due
pub hist_ends : (len : ℕ) (h : RawHist) (rest : List ℕ) → hist_on len h 0 rest ≡ behind_records (Hist h ∷ []) (records_on len rest)
hist_ends len h rest = grind (arith, append-nil)

pub blocks_end : (len : ℕ) (blocks : List RawBlock) (rest : List ℕ) → blocks_on len blocks 0 rest ≡ behind_records (Blocks blocks ∷ []) (records_on len rest)
blocks_end len blocks rest = grind (arith, append-nil)

-- ---- the header

number_of : (header rest : List ℕ) → length header ≡ 20 → word_at (header ++ rest) 4 ≡ word_at header 4
number_of header rest whole = grind arith

header_by : (len number : ℕ) (header rest : List ℕ) → length header ≡ 20 → number ≡ word_at header 4 → (b : Bool) → not (eqb number gnu_version) ≡ b
    → header_on len (header ++ rest) ≡ cond b (Err (Version number)) (records_on len rest)
header_by len number header rest whole number_is b is =
    let long : ltb (length (header ++ rest)) 20 ≡ false = le-ltb (length (header ++ rest)) 20 (omega (arith, whole, length-append header rest)) in
    let n : word_at (header ++ rest) 4 ≡ number = number_of header rest whole ∙ sym number_is in
    (λ i. cond (long i) (Err (Short len)) (cond (not (eqb (n i) gnu_version)) (Err (Version (n i))) (records_on len (drop_at header rest 20 whole i))))
    ∙ ap (λ (c : Bool). cond c (Err (Version number)) (records_on len rest)) is

pub header_read : (len number : ℕ) (header rest : List ℕ) → length header ≡ 20 → number ≡ word_at header 4 → number ≡ gnu_version → header_on len (header ++ rest) ≡ records_on len rest
header_read len number header rest whole number_is same = header_by len number header rest whole number_is false (ap not (eq-eqb number gnu_version same))

pub header_refused : (len number : ℕ) (header rest : List ℕ) → length header ≡ 20 → number ≡ word_at header 4 → (number ≡ gnu_version → ⊥) → header_on len (header ++ rest) ≡ Err (Version number)
header_refused len number header rest whole number_is other = by (eqb number gnu_version) refl
  where
    by : (b : Bool) → eqb number gnu_version ≡ b → header_on len (header ++ rest) ≡ Err (Version number)
    by b e = grind (arith, header_by)

-- ---- fronts

after_choice : (more : List ℕ → Result (List Rec) GmonRefusal) (b : Bool) (e : GmonRefusal) (f : Front) → after_front more (if b then Refused e else f) ≡ cond b (Err e) (after_front more f)
after_choice more b e f = grind arith

pub arc_begun : (len from to count : ℕ) (front rest : List ℕ) → slice_index front 0 ≡ 1 → length front ≡ 13 → from ≡ word_at front 1 → to ≡ word_at front 5 → count ≡ word_at front 9
    → records_on len (front ++ rest) ≡ behind_records (Arc (record { from = from; to = to; count = count }) ∷ []) (records_on len rest)
arc_begun len from to count [] rest tag long from_is to_is count_is = absurd (omega arith)
arc_begun len from to count (zero ∷ body) rest tag long from_is to_is count_is = absurd (omega arith)
arc_begun len from to count (suc (suc t) ∷ body) rest tag long from_is to_is count_is = absurd (omega arith)
arc_begun len from to count (suc zero ∷ body) rest tag long from_is to_is count_is =
    let whole : length body ≡ 12 = omega arith in
    let all = body ++ rest in
    let more : List ℕ → Result (List Rec) GmonRefusal = λ (r : List ℕ). recs_from len (length all) r in
    let here : ltb (length all) 12 ≡ false = le-ltb (length all) 12 (omega (arith, whole, length-append body rest)) in
    let arc : arc_of body ≡ record { from = from; to = to; count = count } = λ i. record { from = sym from_is i; to = sym to_is i; count = sym count_is i } in
    after_choice more (ltb (length all) 12) (Short len) (Found (Arc (arc_of (take 12 all))) (drop 12 all))
    ∙ (λ i. cond (here i) (Err (Short len)) (behind_records (Arc (arc_of (take_at body rest 12 whole i)) ∷ []) (more (drop_at body rest 12 whole i))))
    ∙ (λ i. behind_records (Arc (arc i) ∷ []) (allowance len (length all) (length rest) rest (omega (arith, length-append body rest)) (omega arith) i))

pub blocks_begun : (len count : ℕ) (front rest : List ℕ) → slice_index front 0 ≡ 2 → length front ≡ 5 → count ≡ word_at front 1 → records_on len (front ++ rest) ≡ blocks_on len [] count rest
blocks_begun len count [] rest tag long count_is = absurd (omega arith)
blocks_begun len count (zero ∷ body) rest tag long count_is = absurd (omega arith)
blocks_begun len count (suc zero ∷ body) rest tag long count_is = absurd (omega arith)
blocks_begun len count (suc (suc (suc t)) ∷ body) rest tag long count_is = absurd (omega arith)
blocks_begun len count (suc (suc zero) ∷ body) rest tag long count_is =
    let whole : length body ≡ 4 = omega arith in
    let all = body ++ rest in
    let more : List ℕ → Result (List Rec) GmonRefusal = λ (r : List ℕ). recs_from len (length all) r in
    let here : ltb (length all) 4 ≡ false = le-ltb (length all) 4 (omega (arith, whole, length-append body rest)) in
    let number : word_at all 0 ≡ count = ap value_of (take-append-le 4 body rest (omega arith)) ∙ sym count_is in
    let behind_it : records_on len (drop (count * 8) rest) ≡ more (drop (count * 8) rest) = allowance len (length (drop (count * 8) rest)) (length all) (drop (count * 8) rest) (omega arith) (omega (arith, length-append body rest, length-drop (count * 8) rest)) in
    after_choice more (ltb (length all) 4) (Short len) (pairs_front len (word_at all 0) (drop 4 all))
    ∙ (λ i. cond (here i) (Err (Short len)) (after_front more (pairs_front len (number i) (drop_at body rest 4 whole i))))
    ∙ after_choice more (ltb (length rest) (count * 8)) (Short len) (Found (Blocks (items_of_text 8 block_of count rest)) (drop (count * 8) rest))
    ∙ ap (λ (o : Result (List Rec) GmonRefusal). cond (ltb (length rest) (count * 8)) (Err (Short len)) (behind_records (Blocks (items_of_text 8 block_of count rest) ∷ []) o)) (sym behind_it)

word_before : (k : ℕ) (body rest : List ℕ) → k + 4 ≤ length body → word_at (body ++ rest) k ≡ word_at body k
word_before k body rest within =
    let past : drop k (body ++ rest) ≡ drop k body ++ rest = drop-append-le k body rest (omega arith) in
    ap (λ (v : List ℕ). value_of (take 4 v)) past ∙ ap value_of (take-append-le 4 (drop k body) rest (omega (arith, length-drop k body)))

last_one : (tail rest : List ℕ) → length tail ≡ 1 → (slice_index (tail ++ rest) 0 ≡ slice_index tail 0) × (drop 1 (tail ++ rest) ≡ rest)
last_one [] rest one = absurd (omega arith)
last_one (x ∷ []) rest one = (refl, refl)
last_one (x ∷ y ∷ ys) rest one = absurd (let f : suc (suc (length ys)) ≡ 1 = one in omega (arith, f))

-- the fields of a histogram are those of its front
hist_fields : (len at low high count rate short : ℕ) (dim body rest : List ℕ) → length body ≡ 32 → low ≡ word_at body 0 → high ≡ word_at body 4 → count ≡ word_at body 8 → rate ≡ word_at body 12
    → dim ≡ take 15 (drop 16 body) → short ≡ slice_index body 31 → at ≡ len - suc (length (body ++ rest))
    → records_on len (0 ∷ (body ++ rest)) ≡ after_front (λ (r : List ℕ). recs_from len (length (body ++ rest)) r) (hist_of_fields len at low high count rate dim short rest)
hist_fields len at low high count rate short dim body rest whole low_is high_is count_is rate_is dim_is short_is at_is =
    let all = body ++ rest in
    let more : List ℕ → Result (List Rec) GmonRefusal = λ (r : List ℕ). recs_from len (length all) r in
    let there = len - suc (length all) in
    let here : ltb (length all) 32 ≡ false = le-ltb (length all) 32 (omega (arith, whole, length-append body rest)) in
    let tail = drop 15 (drop 16 body) in
    let one : length tail ≡ 1 = omega (arith, whole, length-drop 15 (drop 16 body), length-drop 16 body) in
    let past : drop 16 all ≡ drop 16 body ++ rest = drop-append-le 16 body rest (omega arith) in
    let tail_is : drop 15 (drop 16 all) ≡ tail ++ rest = ap (drop 15) past ∙ drop-append-le 15 (drop 16 body) rest (omega (arith, whole, length-drop 16 body)) in
    let parts = last_one tail rest one in
    let name : take 15 (drop 16 all) ≡ dim = ap (take 15) past ∙ take-append-le 15 (drop 16 body) rest (omega (arith, whole, length-drop 16 body)) ∙ sym dim_is in
    let at_31 : slice_index tail 0 ≡ slice_index body 31 = get_or-drop 15 (drop 16 body) 0 0 ∙ get_or-drop 16 body 15 0 in
    grind (arith, slice_index, word_before, after_choice, ltb)

pub hist_refused : (len at low high count : ℕ) (front rest : List ℕ) → slice_index front 0 ≡ 0 → length front ≡ 33 → low ≡ word_at front 1 → high ≡ word_at front 5 → count ≡ word_at front 9
    → at ≡ len - length (front ++ rest) → 0 < count → high ≤ low → records_on len (front ++ rest) ≡ Err (Range at low high)
hist_refused len at low high count front rest tag long low_is high_is count_is at_is some order = grind (arith, hist_fields)

pub hist_begun : (len at low high count rate short : ℕ) (dim front rest : List ℕ) → slice_index front 0 ≡ 0 → length front ≡ 33 → low ≡ word_at front 1 → high ≡ word_at front 5 → count ≡ word_at front 9 → rate ≡ word_at front 13
    → dim ≡ take 15 (drop 17 front) → short ≡ slice_index front 32 → at ≡ len - length (front ++ rest) → (ltb 0 count && leb high low) ≡ false
    → records_on len (front ++ rest) ≡ hist_on len (record { low = low; high = high; unit = record { rate = rate; dim = dim; «abbrev» = short }; counters = [] }) count rest
hist_begun len at low high count rate short dim [] rest tag long low_is high_is count_is rate_is dim_is short_is at_is good = absurd (omega arith)
hist_begun len at low high count rate short dim (suc t ∷ body) rest tag long low_is high_is count_is rate_is dim_is short_is at_is good = absurd (omega arith)
hist_begun len at low high count rate short dim (zero ∷ body) rest tag long low_is high_is count_is rate_is dim_is short_is at_is good =
    let all = body ++ rest in
    let more : List ℕ → Result (List Rec) GmonRefusal = λ (r : List ℕ). recs_from len (length all) r in
    let hist : Rec = Hist (record { low = low; high = high; unit = record { rate = rate; dim = dim; «abbrev» = short }; counters = items_of_text 2 value_of count rest }) in
    let found : Front = if nat_lt (length rest) (count * 2) then Refused (Short len) else Found hist (drop (count * 2) rest) in
    let behind_it : records_on len (drop (count * 2) rest) ≡ more (drop (count * 2) rest) = allowance len (length (drop (count * 2) rest)) (length all) (drop (count * 2) rest) (omega arith) (omega (arith, length-append body rest, length-drop (count * 2) rest)) in
    hist_fields len at low high count rate short dim body rest (omega arith) low_is high_is count_is rate_is dim_is short_is at_is
    ∙ after_choice more (ltb 0 count && leb high low) (Range at low high) found
    ∙ ap (λ (b : Bool). cond b (Err (Range at low high)) (after_front more found)) good
    ∙ after_choice more (ltb (length rest) (count * 2)) (Short len) (Found hist (drop (count * 2) rest))
    ∙ ap (λ (o : Result (List Rec) GmonRefusal). cond (ltb (length rest) (count * 2)) (Err (Short len)) (behind_records (hist ∷ []) o)) (sym behind_it)
