-- What a reader has read, as it takes one item after the other.
use Rattle.std.proofs.Common.{◌≡◌, ℕ, ◌+◌, ◌-◌, ◌*◌, ◌/◌, ◌<◌, ◌≤◌, List, [], ◌∷◌, ◌++◌, length, take, drop, map, get_or, slice_index, length-drop, length-append, refl, sym, ap, subst, ◌∙◌, append_assoc, arith}
use Rattle.std.specs.List.{AllByRecursion, flat_map}
use Rattle.std.proofs.Math.ListN.{get_or-append}
use Rattle.std.proofs.Math.Seq.{get_or-append_seam}
use Rattle.std.proofs.lemmas.List.Concat.{flat_map-append}
use Rattle.gp_base.specs.declared.records.RawArc.{RawArc}
use Rattle.std.proofs.lemmas.List.{map-append, take_all, drop_all, take-append-le, drop-append-le, take-append-drop}
use Rattle.gp_base.specs.declared.records.RawBlock.{RawBlock}
use Rattle.gp_base.specs.declared.records.Rec.{Rec}
use Rattle.gp_base.specs.declared.records.Rec.TheVariants.{Hist, Arc, Blocks}
use Rattle.gp_base.specs.declared.refusal.GmonRefusal.TheVariants.{Version}
use Rattle.gp_base.specs.Bytes.{value_of, word_at, items_of_text}
use Rattle.gmon_cells.specs.Cells.{cells_of, torn_of}
use Rattle.gp_base.specs.Fields.{block_of}
use Rattle.gmon_gnu.specs.Fields.{gnu_version}
use Rattle.gmon_gnu.specs.declared.state.HistFields.{HistFields}
use Rattle.gmon_gnu.specs.declared.state.Entry.{Entry}
use Rattle.gmon_gnu.specs.declared.state.Body.{Body}
use Rattle.gmon_gnu.specs.declared.state.Body.TheVariants as body
use Rattle.gmon_gnu.specs.declared.state.Part.{Part}
use Rattle.gmon_gnu.specs.declared.state.State.{State}
use Rattle.gmon_gnu.specs.declared.state.Begun.{Begun}
use Rattle.gmon_gnu.specs.declared.state.Begun.TheVariants as begun
use Rattle.gmon_gnu.specs.Reading.{behind_records}
use Rattle.gmon_gnu.specs.Going.{Open, InHeader, Between, InHist, InBlocks, Stopped, records_on, hist_on, blocks_on, Reads}
use Rattle.gmon_gnu.specs.Held.{hist_with, no_fields, rec_of, entry_recs, recs_in, IsBodyWithin, IsWithin, recs_of, open_of, rest_of, width_of, IsFront, IsPartial, Goes}
use Rattle.gmon_gnu.specs.Begun.{begun_on, Follows}
use Rattle.gmon_gnu.specs.Taking.{HoldsSame, KeepsItems}
use Rattle.gmon_gnu.proofs.GoingLemmas.{behind_both, reads_then, reads_same, header_read, header_refused, hist_ends, blocks_end, counters_on, pairs_on}

-- ---- by the part

pub goes_at : (whole : List ℕ) (s : State) (rest : List ℕ) (p : Part) → s.part ≡ p → Goes whole s rest
    → Reads whole (recs_of s) (open_of p s.counters.cells.items s.pairs.cells.items) (rest_of p s.torn s.counters.torn s.pairs.torn ++ rest)
goes_at whole s rest p is goes = grind arith

pub reads_rest : (whole : List ℕ) (recs : List Rec) (now : Open) (rest left : List ℕ) → rest ≡ left → Reads whole recs now rest → Reads whole recs now left
reads_rest whole recs now rest left is reads = subst (λ (v : List ℕ). Reads whole recs now v) is reads

-- ---- the header

pub header_goes : (whole : List ℕ) (recs : List Rec) (number : ℕ) (header rest taken : List ℕ) → length header ≡ 20 → header ++ rest ≡ taken → number ≡ word_at header 4 → number ≡ gnu_version
    → Reads whole recs InHeader taken → Reads whole recs Between rest
header_goes whole recs number header rest taken whole_header taken_is number_is same reads = grind (arith, append_assoc, header_read)

pub header_stops : (whole : List ℕ) (recs : List Rec) (number : ℕ) (header rest taken left : List ℕ) → length header ≡ 20 → header ++ rest ≡ taken → number ≡ word_at header 4 → (number ≡ gnu_version → ⊥)
    → Reads whole recs InHeader taken → Reads whole recs (Stopped (Version number)) left
header_stops whole recs number header rest taken left whole_header taken_is number_is other reads = grind (arith, append_assoc, header_refused)

-- ---- fronts

pub front_long : (tag : ℕ) (front : List ℕ) → IsFront front → slice_index front 0 ≡ tag → length front ≡ width_of tag
front_long tag front is tag_is = grind arith

pub follows_front : (whole : List ℕ) (recs : List Rec) (front rest taken : List ℕ) (b : Begun) (at : ℕ) → front ++ rest ≡ taken → at ≡ length whole - length (front ++ rest)
    → ((len : ℕ) (r : List ℕ) → at ≡ len - length (front ++ r) → records_on len (front ++ r) ≡ begun_on len b r) → Reads whole recs Between taken → Follows whole recs b rest
follows_front whole recs front rest taken b at taken_is at_is says reads = grind (arith, length-append, append_assoc)

pub begins_hist : (whole : List ℕ) (recs : List Rec) (f : HistFields) (start count : ℕ) (counters half rest : List ℕ) → half ≡ [] → start ≡ length counters
    → Follows whole recs (begun.Hist f count) rest → Reads whole recs (InHist (hist_with f (drop start counters)) count) (half ++ rest)
begins_hist whole recs f start count counters half rest half_is start_is follows = λ more.
    let none : drop start counters ≡ [] = drop_all start counters (omega (arith, start_is)) in
    follows more ∙ (λ i. behind_records recs (hist_on (length (whole ++ more)) (hist_with f (sym none i)) count ((sym half_is i ++ rest) ++ more)))

pub begins_blocks : (whole : List ℕ) (recs : List Rec) (start count : ℕ) (pairs : List RawBlock) (pair rest : List ℕ) → pair ≡ [] → start ≡ length pairs
    → Follows whole recs (begun.Blocks count) rest → Reads whole recs (InBlocks (drop start pairs) count) (pair ++ rest)
begins_blocks whole recs start count pairs pair rest pair_is start_is follows = λ more.
    let none : drop start pairs ≡ [] = drop_all start pairs (omega (arith, start_is)) in
    follows more ∙ (λ i. behind_records recs (blocks_on (length (whole ++ more)) (sym none i) count ((sym pair_is i ++ rest) ++ more)))

-- ---- a record ends

all_of : {X : Type 0} (start end : ℕ) (xs : List X) → end ≡ length xs → take (end - start) (drop start xs) ≡ drop start xs
all_of start end xs end_is = take_all (end - start) (drop start xs) (omega (arith, length-drop start xs, end_is))

-- an entry more, with the arcs that have come since the last one
entry_more : (fs : List HistFields) (counters : List ℕ) (pairs : List RawBlock) (arcs : List RawArc) (es es1 : List Entry) (run run1 last : ℕ) (b : Body) (rec : Rec)
    → last ≡ length arcs → run1 ≡ length arcs → es1 ≡ es ++ record { first = run; last = last; body = b } ∷ [] → rec ≡ rec_of fs counters pairs b
    → recs_in fs counters pairs arcs es run ++ rec ∷ [] ≡ recs_in fs counters pairs arcs es1 run1
entry_more fs counters pairs arcs es es1 run run1 last b rec last_is run1_is es_are rec_is =
    grind (arith, drop_all, append_assoc, all_of, flat_map-append)

-- the fields of the others stay where those of one more come behind them
fields_more : (fs fs1 : List HistFields) (f : HistFields) (counters : List ℕ) (pairs : List RawBlock) (b : Body) → fs1 ≡ fs ++ f ∷ [] → IsBodyWithin (length fs) (length counters) (length pairs) b
    → rec_of fs1 counters pairs b ≡ rec_of fs counters pairs b
fields_more fs fs1 f counters pairs b is within = grind (arith, get_or-append)

entries_same : (fs fs1 : List HistFields) (f : HistFields) (counters : List ℕ) (pairs : List RawBlock) (arcs : List RawArc) → fs1 ≡ fs ++ f ∷ []
    → (es : List Entry) → AllByRecursion (IsWithin (length fs) (length counters) (length pairs) (length arcs)) es → flat_map (entry_recs fs counters pairs arcs) es ≡ flat_map (entry_recs fs1 counters pairs arcs) es
entries_same fs fs1 f counters pairs arcs is [] within = refl
entries_same fs fs1 f counters pairs arcs is (e ∷ es) within =
    λ i. (map Arc (take (e.last - e.first) (drop e.first arcs)) ++ sym (fields_more fs fs1 f counters pairs e.body is within.0.2) i ∷ []) ++ entries_same fs fs1 f counters pairs arcs is es within.1 i

pub hist_ended : (whole : List ℕ) (fs fs1 : List HistFields) (counters : List ℕ) (pairs : List RawBlock) (arcs : List RawArc) (es es1 : List Entry) (run run1 last : ℕ) (f : HistFields) (number start end left : ℕ) (half torn rest : List ℕ)
    → AllByRecursion (IsWithin (length fs) (length counters) (length pairs) (length arcs)) es
    → left ≡ 0 → half ≡ [] → torn ≡ [] → number ≡ length fs → fs1 ≡ fs ++ f ∷ [] → end ≡ length counters → last ≡ length arcs → run1 ≡ length arcs
    → es1 ≡ es ++ record { first = run; last = last; body = body.Hist number start end } ∷ []
    → Reads whole (recs_in fs counters pairs arcs es run) (InHist (hist_with f (drop start counters)) left) (half ++ rest) → Reads whole (recs_in fs1 counters pairs arcs es1 run1) Between (torn ++ rest)
hist_ended whole fs fs1 counters pairs arcs es es1 run run1 last f number start end left half torn rest within none half_is torn_is number_is fs_are end_is last_is run1_is es_are reads =
    let h = hist_with f (drop start counters) in
    let recs = recs_in fs counters pairs arcs es run in
    let own : f ≡ get_or fs1 number no_fields = sym (ap (λ (v : List HistFields). get_or v number no_fields) fs_are ∙ ap (λ (n : ℕ). get_or (fs ++ f ∷ []) n no_fields) number_is ∙ get_or-append_seam fs f [] no_fields) in
    let same : Hist h ≡ rec_of fs1 counters pairs (body.Hist number start end) = λ i. Hist (hist_with (own i) (sym (all_of start end counters end_is) i)) in
    let stay : recs ≡ recs_in fs1 counters pairs arcs es run = ap (λ (v : List Rec). v ++ map Arc (drop run arcs)) (entries_same fs fs1 f counters pairs arcs fs_are es within) in
    let more_recs : recs ++ Hist h ∷ [] ≡ recs_in fs1 counters pairs arcs es1 run1 =
    ap (λ (v : List Rec). v ++ Hist h ∷ []) stay ∙ entry_more fs1 counters pairs arcs es es1 run run1 last (body.Hist number start end) (Hist h) last_is run1_is es_are same in
    subst (λ (v : List Rec). Reads whole v Between (torn ++ rest)) more_recs
    (reads_then whole recs (Hist h ∷ []) (InHist h left) Between (half ++ rest) (torn ++ rest)
    (λ more. (λ i. hist_on (length (whole ++ more)) h (none i) ((half_is i ++ rest) ++ more)) ∙ hist_ends (length (whole ++ more)) h (rest ++ more) ∙ (λ i. behind_records (Hist h ∷ []) (records_on (length (whole ++ more)) ((sym torn_is i ++ rest) ++ more))))
    reads)

pub blocks_ended : (whole : List ℕ) (fs : List HistFields) (counters : List ℕ) (pairs : List RawBlock) (arcs : List RawArc) (es es1 : List Entry) (run run1 last start end left : ℕ) (pair torn rest : List ℕ)
    → left ≡ 0 → pair ≡ [] → torn ≡ [] → end ≡ length pairs → last ≡ length arcs → run1 ≡ length arcs → es1 ≡ es ++ record { first = run; last = last; body = body.Blocks start end } ∷ []
    → Reads whole (recs_in fs counters pairs arcs es run) (InBlocks (drop start pairs) left) (pair ++ rest) → Reads whole (recs_in fs counters pairs arcs es1 run1) Between (torn ++ rest)
blocks_ended whole fs counters pairs arcs es es1 run run1 last start end left pair torn rest none pair_is torn_is end_is last_is run1_is es_are reads =
    let blocks = drop start pairs in
    let recs = recs_in fs counters pairs arcs es run in
    let same : Blocks blocks ≡ rec_of fs counters pairs (body.Blocks start end) = ap (λ (v : List RawBlock). Blocks v) (sym (all_of start end pairs end_is)) in
    let more_recs : recs ++ Blocks blocks ∷ [] ≡ recs_in fs counters pairs arcs es1 run1 = entry_more fs counters pairs arcs es es1 run run1 last (body.Blocks start end) (Blocks blocks) last_is run1_is es_are same in
    subst (λ (v : List Rec). Reads whole v Between (torn ++ rest)) more_recs
    (reads_then whole recs (Blocks blocks ∷ []) (InBlocks blocks left) Between (pair ++ rest) (torn ++ rest)
    (λ more. (λ i. blocks_on (length (whole ++ more)) blocks (none i) ((pair_is i ++ rest) ++ more)) ∙ blocks_end (length (whole ++ more)) blocks (rest ++ more) ∙ (λ i. behind_records (Blocks blocks ∷ []) (records_on (length (whole ++ more)) ((sym torn_is i ++ rest) ++ more))))
    reads)

-- the entry was added, and all else is as before
pub added_goes : (whole rest : List ℕ) (s n : State) → KeepsItems s n
    → Reads whole (recs_in n.fields.items s.counters.cells.items s.pairs.cells.items s.arcs.items n.entries.items n.run) Between (s.torn ++ rest) → Reads whole (recs_of n) Between (n.torn ++ rest)
added_goes whole rest s n k reads = grind arith

-- ---- cells come

part_stays : {X : Type 0} (start end : ℕ) (xs more : List X) → start ≤ end → end ≤ length xs → take (end - start) (drop start (xs ++ more)) ≡ take (end - start) (drop start xs)
part_stays start end xs more order within = grind (arith, drop-append-le, take-append-le, length-drop)

-- each part of a list is the same part of a longer one
record Stays {X : Type 0} (xs ys : List X) : Type 0 where
  part : (start end : ℕ) → start ≤ end → end ≤ length xs → take (end - start) (drop start ys) ≡ take (end - start) (drop start xs)

same_stays : {X : Type 0} (xs : List X) → Stays xs xs
same_stays xs = record { part = λ start end order within. refl }

more_stays : {X : Type 0} (xs ys more : List X) → ys ≡ xs ++ more → Stays xs ys
more_stays {X} xs ys more is = subst (λ (v : List X). Stays xs v) (sym is) (record { part = λ start end order within. part_stays start end xs more order within })

body_stays : (fs : List HistFields) (counters counters1 : List ℕ) (pairs pairs1 : List RawBlock) → Stays counters counters1 → Stays pairs pairs1 → (b : Body) → IsBodyWithin (length fs) (length counters) (length pairs) b
    → rec_of fs counters1 pairs1 b ≡ rec_of fs counters pairs b
body_stays fs counters counters1 pairs pairs1 c p b within = grind arith

entries_stay : (fs : List HistFields) (counters counters1 : List ℕ) (pairs pairs1 : List RawBlock) (arcs arcs1 : List RawArc) → Stays counters counters1 → Stays pairs pairs1 → Stays arcs arcs1
    → (es : List Entry) → AllByRecursion (IsWithin (length fs) (length counters) (length pairs) (length arcs)) es → flat_map (entry_recs fs counters1 pairs1 arcs1) es ≡ flat_map (entry_recs fs counters pairs arcs) es
entries_stay fs counters counters1 pairs pairs1 arcs arcs1 c p a [] within = refl
entries_stay fs counters counters1 pairs pairs1 arcs arcs1 c p a (e ∷ es) within =
    let w = within.0 in
    λ i. (map Arc (a.part e.first e.last w.0 w.1 i) ++ body_stays fs counters counters1 pairs pairs1 c p e.body w.2 i ∷ []) ++ entries_stay fs counters counters1 pairs pairs1 arcs arcs1 c p a es within.1 i

-- an arc comes
pub arc_came : (whole : List ℕ) (fs : List HistFields) (counters : List ℕ) (pairs : List RawBlock) (arcs arcs1 : List RawArc) (es : List Entry) (run : ℕ) (arc : RawArc) (torn rest : List ℕ)
    → AllByRecursion (IsWithin (length fs) (length counters) (length pairs) (length arcs)) es → run ≤ length arcs → arcs1 ≡ arcs ++ arc ∷ [] → torn ≡ []
    → Follows whole (recs_in fs counters pairs arcs es run) (begun.Arc arc) rest → Reads whole (recs_in fs counters pairs arcs1 es run) Between (torn ++ rest)
arc_came whole fs counters pairs arcs arcs1 es run arc torn rest within order arcs_are torn_is follows = λ more.
    let recs = recs_in fs counters pairs arcs es run in
    let records = entry_recs fs counters pairs arcs in
    let entries = entries_stay fs counters counters pairs pairs arcs arcs1 (same_stays counters) (same_stays pairs) (more_stays arcs arcs1 (arc ∷ []) arcs_are) es within in
    let now : recs ++ Arc arc ∷ [] ≡ recs_in fs counters pairs arcs1 es run =
    append_assoc (flat_map records es) (map Arc (drop run arcs)) (Arc arc ∷ [])
    ∙ ap (λ (v : List Rec). flat_map records es ++ v) (sym (map-append Arc (drop run arcs) (arc ∷ [])))
    ∙ ap (λ (v : List RawArc). flat_map records es ++ map Arc v) (sym (drop-append-le run arcs (arc ∷ []) order))
    ∙ ap (λ (v : List RawArc). flat_map records es ++ map Arc (drop run v)) (sym arcs_are)
    ∙ ap (λ (v : List Rec). v ++ map Arc (drop run arcs1)) (sym entries) in
    let l = length (whole ++ more) in
    follows more
    ∙ behind_both recs (Arc arc ∷ []) (records_on l (rest ++ more))
    ∙ (λ i. behind_records (now i) (records_on l ((sym torn_is i ++ rest) ++ more)))

-- the piece, behind what had come before
in_two : (n : ℕ) (before piece mine rest more : List ℕ) → mine ≡ take n piece → rest ≡ drop n piece → (before ++ piece) ++ more ≡ (before ++ mine) ++ (rest ++ more)
in_two n before piece mine rest more mine_is rest_is =
    let parts : mine ++ rest ≡ piece = (λ i. mine_is i ++ rest_is i) ∙ take-append-drop n piece in
    ap (λ (v : List ℕ). (before ++ v) ++ more) (sym parts) ∙ ap (λ (v : List ℕ). v ++ more) (sym (append_assoc before mine rest)) ∙ append_assoc (before ++ mine) rest more

pub counters_came : (whole : List ℕ) (fs : List HistFields) (counters counters1 : List ℕ) (pairs : List RawBlock) (arcs : List RawArc) (es : List Entry) (run : ℕ) (f : HistFields) (n start left came : ℕ) (half half1 piece mine rest : List ℕ)
    → AllByRecursion (IsWithin (length fs) (length counters) (length pairs) (length arcs)) es → start ≤ length counters → counters1 ≡ counters ++ cells_of 2 value_of (half ++ mine) → half1 ≡ torn_of 2 (half ++ mine)
    → mine ≡ take n piece → rest ≡ drop n piece → came ≡ (length half + length mine) / 2 → came ≤ left
    → Reads whole (recs_in fs counters pairs arcs es run) (InHist (hist_with f (drop start counters)) left) (half ++ piece)
    → Reads whole (recs_in fs counters1 pairs arcs es run) (InHist (hist_with f (drop start counters1)) (left - came)) (half1 ++ rest)
counters_came whole fs counters counters1 pairs arcs es run f n start left came half half1 piece mine rest within order counters_are half_is mine_is rest_is came_is few reads =
    let t = half ++ mine in
    let k : length t / 2 ≡ came = ap (λ (m : ℕ). m / 2) (length-append half mine) ∙ sym came_is in
    let cells : counters1 ≡ counters ++ items_of_text 2 value_of came t = counters_are ∙ ap (λ (m : ℕ). counters ++ items_of_text 2 value_of m t) k in
    let torn : half1 ≡ drop (came * 2) t = half_is ∙ ap (λ (m : ℕ). drop (m * 2) t) k in
    let now : drop start counters1 ≡ drop start counters ++ items_of_text 2 value_of came t = ap (drop start) cells ∙ drop-append-le start counters (items_of_text 2 value_of came t) order in
    let entries = entries_stay fs counters counters1 pairs pairs arcs arcs (more_stays counters counters1 (items_of_text 2 value_of came t) cells) (same_stays pairs) (same_stays arcs) es within in
    let recs : recs_in fs counters pairs arcs es run ≡ recs_in fs counters1 pairs arcs es run = ap (λ (v : List Rec). v ++ map Arc (drop run arcs)) (sym entries) in
    let long : came * 2 ≤ length t = omega (arith, k) in
    let h = hist_with f (drop start counters) in
    subst (λ (v : List Rec). Reads whole v (InHist (hist_with f (drop start counters1)) (left - came)) (half1 ++ rest)) recs
    (reads_same whole (recs_in fs counters pairs arcs es run) (InHist h left) (InHist (hist_with f (drop start counters1)) (left - came)) (half ++ piece) (half1 ++ rest)
    (λ more.
    let l = length (whole ++ more) in
    ap (hist_on l h left) (in_two n half piece mine rest more mine_is rest_is)
    ∙ counters_on l h left came t (rest ++ more) few long
    ∙ (λ i. hist_on l (hist_with f (sym now i)) (left - came) (sym torn i ++ (rest ++ more)))
    ∙ ap (hist_on l (hist_with f (drop start counters1)) (left - came)) (sym (append_assoc half1 rest more)))
    reads)

pub pairs_came : (whole : List ℕ) (fs : List HistFields) (counters : List ℕ) (pairs pairs1 : List RawBlock) (arcs : List RawArc) (es : List Entry) (run n start left came : ℕ) (pair pair1 piece mine rest : List ℕ)
    → AllByRecursion (IsWithin (length fs) (length counters) (length pairs) (length arcs)) es → start ≤ length pairs → pairs1 ≡ pairs ++ cells_of 8 block_of (pair ++ mine) → pair1 ≡ torn_of 8 (pair ++ mine)
    → mine ≡ take n piece → rest ≡ drop n piece → came ≡ (length pair + length mine) / 8 → came ≤ left
    → Reads whole (recs_in fs counters pairs arcs es run) (InBlocks (drop start pairs) left) (pair ++ piece)
    → Reads whole (recs_in fs counters pairs1 arcs es run) (InBlocks (drop start pairs1) (left - came)) (pair1 ++ rest)
pairs_came whole fs counters pairs pairs1 arcs es run n start left came pair pair1 piece mine rest within order pairs_are pair_is mine_is rest_is came_is few reads =
    let t = pair ++ mine in
    let k : length t / 8 ≡ came = ap (λ (m : ℕ). m / 8) (length-append pair mine) ∙ sym came_is in
    let cells : pairs1 ≡ pairs ++ items_of_text 8 block_of came t = pairs_are ∙ ap (λ (m : ℕ). pairs ++ items_of_text 8 block_of m t) k in
    let torn : pair1 ≡ drop (came * 8) t = pair_is ∙ ap (λ (m : ℕ). drop (m * 8) t) k in
    let now : drop start pairs1 ≡ drop start pairs ++ items_of_text 8 block_of came t = ap (drop start) cells ∙ drop-append-le start pairs (items_of_text 8 block_of came t) order in
    let entries = entries_stay fs counters counters pairs pairs1 arcs arcs (same_stays counters) (more_stays pairs pairs1 (items_of_text 8 block_of came t) cells) (same_stays arcs) es within in
    let recs : recs_in fs counters pairs arcs es run ≡ recs_in fs counters pairs1 arcs es run = ap (λ (v : List Rec). v ++ map Arc (drop run arcs)) (sym entries) in
    let long : came * 8 ≤ length t = omega (arith, k) in
    let blocks = drop start pairs in
    subst (λ (v : List Rec). Reads whole v (InBlocks (drop start pairs1) (left - came)) (pair1 ++ rest)) recs
    (reads_same whole (recs_in fs counters pairs arcs es run) (InBlocks blocks left) (InBlocks (drop start pairs1) (left - came)) (pair ++ piece) (pair1 ++ rest)
    (λ more.
    let l = length (whole ++ more) in
    ap (blocks_on l blocks left) (in_two n pair piece mine rest more mine_is rest_is)
    ∙ pairs_on l blocks left came t (rest ++ more) few long
    ∙ (λ i. blocks_on l (sym now i) (left - came) (sym torn i ++ (rest ++ more)))
    ∙ ap (blocks_on l (drop start pairs1) (left - came)) (sym (append_assoc pair1 rest more)))
    reads)

pub partial_less : (torn : List ℕ) → IsPartial torn → 0 < length torn → length torn < width_of (slice_index torn 0)
partial_less torn partial some = grind arith

-- ---- a state that holds the same

pub goes_moved : (whole rest : List ℕ) (a b : State) → HoldsSame a b → Goes whole a rest → Goes whole b rest
goes_moved whole rest a b h goes = grind arith
