-- The profile of what was read is the same where its histograms come first, in another order.
use Rattle.std.proofs.Common.{◌≡◌, ℕ, ◌+◌, ◌-◌, ◌<◌, List, [], ◌∷◌, ◌++◌, length, map, take, drop, get_or, slice_get, Option, Some, None, if◌then◌else◌, append_assoc, refl, sym, ap, subst, ◌∙◌}
use Rattle.std.specs.List.{AllByRecursion, flat_map}
use Rattle.std.specs.List.Sorted.{IsPermutation}
use Rattle.std.proofs.lemmas.Grind.{flat_map-append}
use Rattle.std.proofs.lemmas.List.{append-nil, map-append, take-append-drop}
use Rattle.std.proofs.lemmas.List.Concat.{flat_map-cons}
use Rattle.std.proofs.lemmas.List.Elements.{filter-append, filter_map-append, All-from_recursion, recursion_from_All}
use Rattle.std.proofs.lemmas.List.Sorted.{All-permutation, IsPermutation-append_left, IsPermutation-map}
use Rattle.gp_base.specs.declared.records.RawArc.{RawArc}
use Rattle.gp_base.specs.declared.records.RawBlock.{RawBlock}
use Rattle.gp_base.specs.declared.records.Rec.{Rec}
use Rattle.gp_base.specs.declared.records.Rec.TheVariants as raw
use Rattle.gp_base.specs.declared.records.Unit as units
use Rattle.gp_base.specs.Spans.{HasRange}
use Rattle.gmon_data.specs.declared.hist.Hist.{Hist}
use Rattle.gmon_data.specs.Content.{Content, WideRec, IsAdded, conflict_of, IsWithin, HasSpan, empty_content, hist_over, wide_arc, wide_block, wide_record, wide_records, with_records}
use Rattle.gmon_data.specs.Hists.{IsUnlike}
use Rattle.gmon_data.specs.declared.refusal.AddRefusal.{AddRefusal}
use Rattle.gmon_data.specs.declared.refusal.Unlike.{Unlike}
use Rattle.gmon_data.specs.Order.{hist_pair, hist_record, hists_in, is_other, others_in}
use Rattle.std.proofs.lemmas.Option.{slice_get-get_or}
use Rattle.gmon_data.proofs.LoopLemmas.{IsInTurn, joined}
use Rattle.gmon_data.proofs.RecordLemmas.{added_both, arcs_added, within_first, within_second}
use Rattle.gmon_data.proofs.OrderLemmas.{conflict_behind, reordered, reordered_within}
use Rattle.gmon_gnu.specs.declared.profile.Placed.{Placed}
use Rattle.gmon_gnu.specs.declared.state.Body.{Body}
use Rattle.gmon_gnu.specs.declared.state.Body.TheVariants as body
use Rattle.gmon_gnu.specs.declared.state.Entry.{Entry}
use Rattle.gmon_gnu.specs.declared.state.HistFields.{HistFields}
use Rattle.gmon_gnu.specs.declared.state.State.{State}
use Rattle.gmon_gnu.specs.Held.{entry_recs, entries_recs, held_rec, no_entry, no_fields, rec_of, recs_in}
use Rattle.gmon_gnu.specs.Making.{IsOrderOf, block_recs, body_recs, hist_recs, hists_among, is_hist, later_recs, other_recs, place_of, placed_entries, placed_recs}
use Rattle.gmon_gnu.proofs.AddingLemmas.{all_widened, entry_widened, rest_of_slice}

-- ---- the list of histograms

-- one entry more
pub next_hist : (fields : List HistFields) (entries : List Entry) (order : List Placed) (i : ℕ) (e : Entry) → slice_get entries i ≡ Some e → take (i + 1) entries ≡ take i entries ++ e ∷ []
    → placed_entries entries order ≡ map Some (hists_among (take i entries)) → placed_entries entries (order ++ place_of fields e.body i) ≡ map Some (hists_among (take (i + 1) entries))
next_hist fields entries order i e at more before =
    let some : Entry → Option Entry = λ x. Some x in
    map-append (λ (p : Placed). slice_get entries p.entry) order (place_of fields e.body i)
    ∙ (λ k. before k ++ last e.body k)
    ∙ sym (map-append some (hists_among (take i entries)) (hists_among (e ∷ [])))
    ∙ ap (map some) (sym (filter-append (λ x. is_hist x.body) (take i entries) (e ∷ [])))
    ∙ ap (λ (l : List Entry). map some (hists_among l)) (sym more)
  where
    last : (b : Body) → placed_entries entries (place_of fields b i) ≡ map Some (if is_hist b then e ∷ [] else [])
    last (body.Hist f s t) = ap (λ (o : Option Entry). o ∷ []) at
    last (body.Blocks s t) = refl

-- the places of an entry are within a number above its own
pub places_below : (fields : List HistFields) (b : Body) (i n : ℕ) → i < n → AllByRecursion (λ p. p.entry < n) (place_of fields b i)
places_below fields (body.Hist f s t) i n lt = (lt, tt)
places_below fields (body.Blocks s t) i n lt = tt

pub all_joined : {X : Type 0} (P : X → Type 0) (xs ys : List X) → AllByRecursion P xs → AllByRecursion P ys → AllByRecursion P (xs ++ ys)
all_joined P [] ys all more = more
all_joined P (x ∷ xs) ys all more = (all.0, all_joined P xs ys all.1 more)

pub all_reordered : {X : Type 0} (P : X → Type 0) (xs ys : List X) → IsPermutation xs ys → AllByRecursion P xs → AllByRecursion P ys
all_reordered P xs ys same all = recursion_from_All P ys (All-permutation P xs ys same (All-from_recursion P xs all))

pub order_of : (entries : List Entry) (xs ys : List Placed) → IsPermutation xs ys → placed_entries entries xs ≡ map Some (hists_among entries) → IsOrderOf entries ys
order_of entries xs ys same is =
    subst (λ (l : List (Option Entry)). IsPermutation l (placed_entries entries ys)) is (IsPermutation-map (λ (p : Placed). slice_get entries p.entry) xs ys same)

order_as : {entries entries' : List Entry} {order order' : List Placed} → entries ≡ entries' → order ≡ order' → IsOrderOf entries order' → IsOrderOf entries' order
order_as {entries' = entries'} {order' = order'} entries_are order_is same =
    subst (λ (o : List Placed). IsOrderOf entries' o) (sym order_is) (subst (λ (es : List Entry). IsOrderOf es order') entries_are same)

-- all entries in two parts, the histograms of the first ones in an order, and a content to which nothing was added
pub record IsInParts (entries first later : List Entry) (order : List Placed) (start : Content) : Type 0 where
  pub parts : first ++ later ≡ entries
  pub same : IsOrderOf first order
  pub empty : start ≡ empty_content

pub in_parts : {entries slice first later : List Entry} {order listed : List Placed} {start : Content} (n : ℕ) → slice ≡ entries → first ≡ take n slice → later ≡ drop n slice
    → order ≡ listed → IsOrderOf (take n slice) listed → start ≡ empty_content → IsInParts entries first later order start
in_parts {slice = slice} n entries_are first_is later_is order_is same empty = record {
  parts = (λ i. first_is i ++ later_is i) ∙ take-append-drop n slice ∙ entries_are;
  same = order_as (sym first_is) order_is same;
  empty = empty;
}

-- ---- histograms and other records among those that were read

abbrev nothing : Hist × units.Unit
nothing = (hist_over 0 0 [], record { rate = 0; dim = []; «abbrev» = 0 })

abbrev pair_of : List HistFields → List ℕ → Body → Hist × units.Unit
pair_of fields counters (body.Hist f start end) = (hist_over (get_or fields f no_fields).low (get_or fields f no_fields).high (take (end - start) (drop start counters)), (get_or fields f no_fields).«unit»)
pair_of fields counters (body.Blocks start end) = nothing

abbrev pair_at : List HistFields → List ℕ → Option Entry → Hist × units.Unit
pair_at fields counters None = nothing
pair_at fields counters (Some e) = pair_of fields counters e.body

hists_in-arcs : (arcs : List RawArc) → hists_in (map wide_arc arcs) ≡ []
hists_in-arcs [] = refl
hists_in-arcs (a ∷ arcs) = hists_in-arcs arcs

hists_in-blocks : (blocks : List RawBlock) → hists_in (map wide_block blocks) ≡ []
hists_in-blocks [] = refl
hists_in-blocks (b ∷ blocks) = hists_in-blocks blocks

others_in-arcs : (arcs : List RawArc) → others_in (map wide_arc arcs) ≡ map wide_arc arcs
others_in-arcs [] = refl
others_in-arcs (a ∷ arcs) = ap (λ (l : List WideRec). wide_arc a ∷ l) (others_in-arcs arcs)

others_in-blocks : (blocks : List RawBlock) → others_in (map wide_block blocks) ≡ map wide_block blocks
others_in-blocks [] = refl
others_in-blocks (b ∷ blocks) = ap (λ (l : List WideRec). wide_block b ∷ l) (others_in-blocks blocks)

spans_of_arcs : (arcs : List RawArc) → AllByRecursion HasSpan (map wide_arc arcs)
spans_of_arcs [] = tt
spans_of_arcs (a ∷ arcs) = (tt, spans_of_arcs arcs)

spans_of_blocks : (blocks : List RawBlock) → AllByRecursion HasSpan (map wide_block blocks)
spans_of_blocks [] = tt
spans_of_blocks (b ∷ blocks) = (tt, spans_of_blocks blocks)

spans_of_record : (r : Rec) → HasRange r → AllByRecursion HasSpan (wide_record r)
spans_of_record (raw.Hist h) range = (range, tt)
spans_of_record (raw.Arc a) range = (tt, tt)
spans_of_record (raw.Blocks blocks) range = spans_of_blocks blocks

module _ (fields : List HistFields) (counters : List ℕ) (pairs : List RawBlock) (arcs : List RawArc) where
  abbrev own_recs : Entry → List WideRec
  own_recs e = wide_record (rec_of fields counters pairs e.body)

  abbrev arcs_before : Entry → List RawArc
  arcs_before e = take (e.last - e.first) (drop e.first arcs)

  hists_of_entry : (e : Entry) → hists_in (own_recs e) ≡ map (pair_at fields counters) (map Some (hists_among (e ∷ [])))
  hists_of_entry e = by e.body refl
    where
      by : (b : Body) → e.body ≡ b → hists_in (wide_record (rec_of fields counters pairs b)) ≡ map (pair_at fields counters) (map Some (if is_hist b then e ∷ [] else []))
      by (body.Hist f s t) q = ap (λ (b : Body). pair_of fields counters b ∷ []) (sym q)
      by (body.Blocks s t) q = hists_in-blocks (take (t - s) (drop s pairs))

  others_of_entry : (e : Entry) → others_in (own_recs e) ≡ block_recs pairs e.body
  others_of_entry e = by e.body
    where
      by : (b : Body) → others_in (wide_record (rec_of fields counters pairs b)) ≡ block_recs pairs b
      by (body.Hist f s t) = refl
      by (body.Blocks s t) = others_in-blocks (take (t - s) (drop s pairs))

  pub entries_next : (e : Entry) (entries : List Entry) → entries_recs fields counters pairs arcs (e ∷ entries) ≡ (map wide_arc (arcs_before e) ++ own_recs e) ++ entries_recs fields counters pairs arcs entries
  entries_next e entries =
      ap wide_records (flat_map-cons (entry_recs fields counters pairs arcs) e entries)
      ∙ flat_map-append wide_record (entry_recs fields counters pairs arcs e) (flat_map (entry_recs fields counters pairs arcs) entries)
      ∙ ap (λ (l : List WideRec). l ++ entries_recs fields counters pairs arcs entries) (entry_widened fields counters pairs arcs e)

  hists_read : (entries : List Entry) → hists_in (entries_recs fields counters pairs arcs entries) ≡ map (pair_at fields counters) (map Some (hists_among entries))
  hists_read [] = refl
  hists_read (e ∷ entries) =
      let before = map wide_arc (arcs_before e) in
      let rest = entries_recs fields counters pairs arcs entries in
      let first = filter_map-append hist_pair before (own_recs e) ∙ (λ k. hists_in-arcs (arcs_before e) k ++ hists_of_entry e k) in
      ap hists_in (entries_next e entries) ∙ filter_map-append hist_pair (before ++ own_recs e) rest ∙ (λ k. first k ++ hists_read entries k) ∙ by e.body
    where
      by : (b : Body) → map (pair_at fields counters) (map Some (if is_hist b then e ∷ [] else [])) ++ map (pair_at fields counters) (map Some (hists_among entries)) ≡ map (pair_at fields counters) (map Some (if is_hist b then e ∷ hists_among entries else hists_among entries))
      by (body.Hist f s t) = refl
      by (body.Blocks s t) = refl

  others_read : (entries : List Entry) → others_in (entries_recs fields counters pairs arcs entries) ≡ flat_map (other_recs pairs arcs) entries
  others_read [] = refl
  others_read (e ∷ entries) =
      let before = map wide_arc (arcs_before e) in
      let rest = entries_recs fields counters pairs arcs entries in
      let first = filter-append is_other before (own_recs e) ∙ (λ k. others_in-arcs (arcs_before e) k ++ others_of_entry e k) in
      ap others_in (entries_next e entries) ∙ filter-append is_other (before ++ own_recs e) rest ∙ (λ k. first k ++ others_read entries k) ∙ sym (flat_map-cons (other_recs pairs arcs) e entries)

  spans_of_entries : (entries : List Entry) → AllByRecursion (λ e. HasRange (rec_of fields counters pairs e.body)) entries → AllByRecursion HasSpan (entries_recs fields counters pairs arcs entries)
  spans_of_entries [] all = tt
  spans_of_entries (e ∷ entries) all = search (all_joined, spans_of_arcs, spans_of_record, entries_next, spans_of_entries entries all.1, all.0, all.1)

  pub read_spans : (entries : List Entry) (run : ℕ) → AllByRecursion (λ e. HasRange (rec_of fields counters pairs e.body)) entries → AllByRecursion HasSpan (wide_records (recs_in fields counters pairs arcs entries run))
  read_spans entries run ranges = search (all_widened, all_joined, spans_of_entries, spans_of_arcs)

  -- ---- what is added in an order of the histograms

  abbrev IsPaired : Option Entry → Type 0
  IsPaired o = body_recs fields counters pairs o ≡ hist_record (pair_at fields counters o) ∷ []

  all_paired : (entries : List Entry) → AllByRecursion IsPaired (map Some (hists_among entries))
  all_paired [] = tt
  all_paired (e ∷ entries) = by e.body refl (all_paired entries)
    where
      by : (b : Body) → e.body ≡ b → AllByRecursion IsPaired (map Some (hists_among entries)) → AllByRecursion IsPaired (map Some (if is_hist b then e ∷ hists_among entries else hists_among entries))
      by (body.Hist f s t) q others =
          let one : wide_record (rec_of fields counters pairs e.body) ≡ wide_record (rec_of fields counters pairs (body.Hist f s t)) = ap (λ (b : Body). wide_record (rec_of fields counters pairs b)) q in
          let two : wide_record (rec_of fields counters pairs (body.Hist f s t)) ≡ hist_record (pair_of fields counters e.body) ∷ [] = ap (λ (b : Body). hist_record (pair_of fields counters b) ∷ []) (sym q) in
          (one ∙ two, others)
      by (body.Blocks s t) q others = others

  paired : (os : List (Option Entry)) → AllByRecursion IsPaired os → flat_map (body_recs fields counters pairs) os ≡ map hist_record (map (pair_at fields counters) os)
  paired [] all = refl
  paired (o ∷ os) all = flat_map-cons (body_recs fields counters pairs) o os ∙ (λ k. all.0 k ++ paired os all.1 k)

  -- the histograms of entries as they stand
  later_hists : (entries : List Entry) → later_recs fields counters pairs entries ≡ map hist_record (map (pair_at fields counters) (map Some (hists_among entries)))
  later_hists [] = refl
  later_hists (e ∷ entries) = flat_map-cons (λ (x : Entry). hist_recs fields counters pairs x.body) e entries ∙ by e.body refl (later_hists entries)
    where
      by : (b : Body) → e.body ≡ b → later_recs fields counters pairs entries ≡ map hist_record (map (pair_at fields counters) (map Some (hists_among entries)))
          → hist_recs fields counters pairs b ++ later_recs fields counters pairs entries ≡ map hist_record (map (pair_at fields counters) (map Some (if is_hist b then e ∷ hists_among entries else hists_among entries)))
      by (body.Hist f s t) q others =
          let own : hist_record (pair_of fields counters (body.Hist f s t)) ≡ hist_record (pair_of fields counters e.body) = ap (λ (b : Body). hist_record (pair_of fields counters b)) (sym q) in
          λ k. own k ∷ others k
      by (body.Blocks s t) q others = others

  -- the histograms of the first entries in an order, then those of the later ones, and then all other records
  module _ (entries first later : List Entry) (parts : first ++ later ≡ entries) (run : ℕ) (order : List Placed) (same : IsOrderOf first order) where
    abbrev last_arcs : List WideRec
    last_arcs = map wide_arc (drop run arcs)

    abbrev others : List WideRec
    others = flat_map (other_recs pairs arcs) entries

    abbrev placed : List WideRec
    placed = placed_recs fields counters pairs first order

    abbrev laters : List WideRec
    laters = later_recs fields counters pairs later

    abbrev behind : List WideRec
    behind = laters ++ (others ++ last_arcs)

    abbrev all : List WideRec
    all = wide_records (recs_in fields counters pairs arcs entries run)

    abbrev hists_first : List (Hist × units.Unit)
    hists_first = map (pair_at fields counters) (map Some (hists_among first))

    abbrev hists_placed : List (Hist × units.Unit)
    hists_placed = map (pair_at fields counters) (placed_entries first order)

    abbrev hists_later : List (Hist × units.Unit)
    hists_later = map (pair_at fields counters) (map Some (hists_among later))

    abbrev some : Entry → Option Entry
    some e = Some e

    all_hists : hists_in all ≡ hists_first ++ hists_later
    all_hists =
        ap hists_in (all_widened fields counters pairs arcs entries run) ∙ filter_map-append hist_pair (entries_recs fields counters pairs arcs entries) last_arcs
        ∙ (λ k. hists_read entries k ++ hists_in-arcs (drop run arcs) k) ∙ append-nil (map (pair_at fields counters) (map some (hists_among entries)))
        ∙ ap (λ (es : List Entry). map (pair_at fields counters) (map some (hists_among es))) (sym parts)
        ∙ ap (λ (es : List Entry). map (pair_at fields counters) (map some es)) (filter-append (λ e. is_hist e.body) first later)
        ∙ ap (map (pair_at fields counters)) (map-append some (hists_among first) (hists_among later))
        ∙ map-append (pair_at fields counters) (map some (hists_among first)) (map some (hists_among later))

    first_permuted : IsPermutation hists_first hists_placed
    first_permuted = IsPermutation-map (pair_at fields counters) (map Some (hists_among first)) (placed_entries first order) same

    permuted : IsPermutation (hists_in all) (hists_placed ++ hists_later)
    permuted = subst (λ (l : List (Hist × units.Unit)). IsPermutation l (hists_placed ++ hists_later)) (sym all_hists) (IsPermutation-append_left hists_later hists_first hists_placed first_permuted)

    placed_hists : map hist_record hists_placed ≡ placed
    placed_hists = search (paired, all_reordered, all_paired)

    in_order : map hist_record (hists_placed ++ hists_later) ++ others_in all ≡ placed ++ behind
    in_order = search (map-append, placed_hists, later_hists, append_assoc, all_widened, filter-append, others_read, others_in-arcs)

    placed_within : IsWithin (with_records all empty_content) → IsWithin (with_records (placed ++ behind) empty_content)
    placed_within fits = subst (λ (l : List WideRec). IsWithin (with_records l empty_content)) in_order (reordered_within all (hists_placed ++ hists_later) permuted empty_content fits)

    module _ (start : Content) (empty : start ≡ empty_content) where
      pub hists_within : IsWithin (with_records all empty_content) → IsWithin (with_records placed start)
      hists_within fits = subst (λ (c : Content). IsWithin (with_records placed c)) (sym empty) (within_first placed behind empty_content (placed_within fits))

      module _ (mid : Content) (one : IsAdded placed start mid) where
        hists_added : IsAdded placed empty_content mid
        hists_added = subst (λ (c : Content). IsAdded placed c mid) empty one

        pub behind_within : IsWithin (with_records all empty_content) → IsWithin (with_records behind mid)
        behind_within fits = within_second placed behind empty_content mid hists_added (placed_within fits)

        pub all_added : (new : Content) → AllByRecursion (λ e. HasRange (rec_of fields counters pairs e.body)) entries → IsAdded behind mid new → IsAdded all empty_content new
        all_added new ranges two = search (added_both, hists_added, reordered, read_spans, permuted, in_order)

        -- the conflict of all is that of the histograms of the others
        pub conflict_told : (refusal : AddRefusal) → AllByRecursion (λ e. HasRange (rec_of fields counters pairs e.body)) entries → IsUnlike refusal (conflict_of mid laters) → IsUnlike refusal (conflict_of empty_content all)
        conflict_told refusal ranges told =
            let added = subst (λ (l : List WideRec). IsAdded l empty_content mid) (sym placed_hists) hists_added in
            let is = conflict_behind all hists_first hists_placed hists_later mid (read_spans entries run ranges) all_hists first_permuted added ∙ ap (conflict_of mid) (sym (later_hists later)) in
            subst (λ (o : Option Unlike). IsUnlike refusal o) (sym is) told

  -- ---- the histograms of later entries, the others, and the arcs behind them

  module _ (entries later : List Entry) (run : ℕ) where
    abbrev later_hist_recs : List WideRec
    later_hist_recs = later_recs fields counters pairs later

    abbrev other_entry_recs : List WideRec
    other_entry_recs = flat_map (other_recs pairs arcs) entries

    abbrev arcs_last : List WideRec
    arcs_last = map wide_arc (drop run arcs)

    module _ (old : Content) (fits : IsWithin (with_records (later_hist_recs ++ (other_entry_recs ++ arcs_last)) old)) where
      pub later_within : IsWithin (with_records later_hist_recs old)
      later_within = within_first later_hist_recs (other_entry_recs ++ arcs_last) old fits

      module _ (mid : Content) (one : IsAdded later_hist_recs old mid) where
        rest_within : IsWithin (with_records (other_entry_recs ++ arcs_last) mid)
        rest_within = within_second later_hist_recs (other_entry_recs ++ arcs_last) old mid one fits

        pub others_within : IsWithin (with_records other_entry_recs mid)
        others_within = within_first other_entry_recs arcs_last mid rest_within

        module _ (next : Content) (two : IsAdded other_entry_recs mid next) (slice : List RawArc) (slice_is : slice ≡ arcs) where
          abbrev rest_arcs : List RawArc
          rest_arcs = take (length slice - run) (drop run slice)

          pub arcs_within : IsWithin (with_records (map wide_arc rest_arcs) next)
          arcs_within = subst (λ (rest : List RawArc). IsWithin (with_records (map wide_arc rest) next)) (sym (rest_of_slice slice arcs run slice_is)) (within_second other_entry_recs arcs_last mid next two rest_within)

          pub behind_added : (new : Content) → new ≡ with_records (map wide_arc rest_arcs) next → IsAdded (later_hist_recs ++ (other_entry_recs ++ arcs_last)) old new
          behind_added new is = search (added_both, arcs_added, rest_of_slice)

-- ---- what a reader holds

pub later_in_turn : (s : State) → IsInTurn Entry (λ e. hist_recs s.fields.items s.counters.cells.items s.pairs.cells.items e.body) (later_recs s.fields.items s.counters.cells.items s.pairs.cells.items)
later_in_turn s = joined (λ (e : Entry). hist_recs s.fields.items s.counters.cells.items s.pairs.cells.items e.body)

-- what the entries with these numbers stand for
module _ (s : State) (entries : List Entry) where
  pub placed_in_turn : IsInTurn Placed (λ p. body_recs s.fields.items s.counters.cells.items s.pairs.cells.items (slice_get entries p.entry)) (placed_recs s.fields.items s.counters.cells.items s.pairs.cells.items entries)
  placed_in_turn = record { none = refl; more = λ p order. flat_map-cons (body_recs s.fields.items s.counters.cells.items s.pairs.cells.items) (slice_get entries p.entry) (placed_entries entries order) }

  pub placed_body : (p : Placed) → p.entry < length entries → body_recs s.fields.items s.counters.cells.items s.pairs.cells.items (slice_get entries p.entry) ≡ wide_record (held_rec s (get_or entries p.entry no_entry).body)
  placed_body p inside = ap (body_recs s.fields.items s.counters.cells.items s.pairs.cells.items) (slice_get-get_or entries p.entry no_entry inside)
