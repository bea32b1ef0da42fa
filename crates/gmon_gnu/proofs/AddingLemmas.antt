-- What a reader adds to a profile, entry by entry.
use Rattle.std.proofs.Common.{◌≡◌, ℕ, ◌-◌, ◌<◌, Some, get_or, slice_get, List, [], ◌∷◌, ◌++◌, length, map, take, drop, append_assoc, length-drop, sym, ap, subst, ◌∙◌, arith}
use Rattle.std.specs.List.{AllByRecursion, flat_map}
use Rattle.std.proofs.lemmas.Grind.{flat_map-append}
use Rattle.std.proofs.lemmas.List.{append-nil, take_all}
use Rattle.std.proofs.lemmas.Option.{slice_get-get_or}
use Rattle.std.proofs.lemmas.List.Concat.{flat_map-cons}
use Rattle.gp_base.specs.declared.records.RawArc.{RawArc}
use Rattle.gp_base.specs.declared.records.RawBlock.{RawBlock}
use Rattle.gp_base.specs.declared.records.Rec.{Rec}
use Rattle.gp_base.specs.declared.records.Rec.TheVariants.{Arc}
use Rattle.gp_base.specs.Spans.{HasRange}
use Rattle.gmon_data.specs.declared.refusal.AddRefusal.{AddRefusal}
use Rattle.gmon_data.specs.Content.{Content, WideRec, IsAdded, IsStopped, IsWithin, wide_arc, wide_record, wide_records, with_records}
use Rattle.gmon_data.proofs.LoopLemmas.{IsInTurn}
use Rattle.gmon_data.proofs.RecordLemmas.{added_both, arcs_added, arcs_widened, stopped_first, stopped_second, within_first, within_second}
use Rattle.gmon_gnu.specs.declared.state.Entry.{Entry}
use Rattle.gmon_gnu.specs.declared.state.HistFields.{HistFields}
use Rattle.gmon_gnu.specs.declared.state.State.{State}
use Rattle.gmon_gnu.specs.Held.{arcs_before, entry_recs, held_rec, held_recs, rec_of, recs_in, entries_recs}

last_all : (xs ys : List Rec) → AllByRecursion HasRange (xs ++ ys) → AllByRecursion HasRange ys
last_all [] ys all = all
last_all (x ∷ xs) ys all = last_all xs ys all.1

-- the arcs from a number on
pub rest_of_slice : (slice items : List RawArc) (run : ℕ) → slice ≡ items → take (length slice - run) (drop run slice) ≡ drop run items
rest_of_slice slice items run is = take_all (length slice - run) (drop run slice) (omega (arith, length-drop run slice)) ∙ ap (drop run) is

-- item i of a slice of all
pub item_at : {X : Type 0} (d : X) (i : ℕ) {slice items : List X} → slice ≡ items → i < length slice → slice_get items i ≡ Some (get_or slice i d)
item_at {X} d i {slice} same within = subst (λ (xs : List X). slice_get xs i ≡ Some (get_or slice i d)) same (slice_get-get_or slice i d within)

-- ---- arcs that come as a slice, and other records behind them

module _ (more : List WideRec) (old : Content) {arcs slice : List RawArc} {all : List WideRec} (is : all ≡ map wide_arc arcs ++ more) (same : slice ≡ arcs) where
  pub front_within : IsWithin (with_records all old) → IsWithin (with_records (map wide_arc slice) old)
  front_within fits = grind (arith, within_first)

  pub front_stopped : {refusal : AddRefusal} {new : Content} → IsStopped refusal (map wide_arc slice) old new → IsStopped refusal all old new
  front_stopped {refusal} {new} stopped = grind (arith, stopped_first)

  module _ {mid : Content} (added : mid ≡ with_records (map wide_arc slice) old) where
    front : IsAdded (map wide_arc arcs) old mid
    front = arcs_added same old mid added

    pub more_within : IsWithin (with_records all old) → IsWithin (with_records more mid)
    more_within fits = within_second (map wide_arc arcs) more old mid front (subst (λ (recs : List WideRec). IsWithin (with_records recs old)) is fits)

    pub more_added : {new : Content} → IsAdded more mid new → IsAdded all old new
    more_added {new} two = subst (λ (recs : List WideRec). IsAdded recs old new) (sym is) (added_both (map wide_arc arcs) more old mid front new two)

    pub more_stopped : {refusal : AddRefusal} {new : Content} → IsStopped refusal more mid new → IsStopped refusal all old new
    more_stopped {refusal} {new} stopped = subst (λ (recs : List WideRec). IsStopped refusal recs old new) (sym is) (stopped_second (map wide_arc arcs) more old mid front refusal new stopped)

module _ (fields : List HistFields) (counters : List ℕ) (pairs : List RawBlock) (arcs : List RawArc) where
  -- an entry is its arcs, and the record behind them
  pub entry_widened : (e : Entry) → wide_records (entry_recs fields counters pairs arcs e) ≡ map wide_arc (arcs_before arcs e) ++ wide_record (rec_of fields counters pairs e.body)
  entry_widened e = search (flat_map-append, arcs_widened, flat_map-cons, append-nil)

  -- what was read is the entries, and the arcs behind them
  pub all_widened : (entries : List Entry) (run : ℕ) → wide_records (recs_in fields counters pairs arcs entries run) ≡ entries_recs fields counters pairs arcs entries ++ map wide_arc (drop run arcs)
  all_widened entries run = search (flat_map-append, arcs_widened)

  pub entries_in_turn : IsInTurn Entry (λ e. wide_records (entry_recs fields counters pairs arcs e)) (entries_recs fields counters pairs arcs)
  entries_in_turn = search (flat_map-cons, flat_map-append)

  -- the histograms of entries have ranges where all do
  pub entries_ranges : (entries : List Entry) (rest : List Rec) → AllByRecursion HasRange (flat_map (entry_recs fields counters pairs arcs) entries ++ rest) → AllByRecursion (λ e. HasRange (rec_of fields counters pairs e.body)) entries
  entries_ranges [] rest all = tt
  entries_ranges (e ∷ entries) rest all =
      let before = map Arc (arcs_before arcs e) in
      let r = rec_of fields counters pairs e.body in
      let others = flat_map (entry_recs fields counters pairs arcs) entries in
      let split : flat_map (entry_recs fields counters pairs arcs) (e ∷ entries) ++ rest ≡ before ++ (r ∷ (others ++ rest)) =
      ap (λ (v : List Rec). v ++ rest) (flat_map-cons (entry_recs fields counters pairs arcs) e entries)
      ∙ append_assoc (before ++ r ∷ []) others rest
      ∙ append_assoc before (r ∷ []) (others ++ rest) in
      let behind = last_all before (r ∷ (others ++ rest)) (subst (λ (v : List Rec). AllByRecursion HasRange v) split all) in
      (behind.0, entries_ranges entries rest behind.1)

  -- ---- entries, and then the arcs behind them

  module _ (entries : List Entry) (run : ℕ) (old start : Content) (same : start ≡ old) where
    abbrev all : List WideRec
    all = wide_records (recs_in fields counters pairs arcs entries run)

    abbrev first : List WideRec
    first = entries_recs fields counters pairs arcs entries

    abbrev last : List WideRec
    last = map wide_arc (drop run arcs)

    widened : all ≡ first ++ last
    widened = all_widened entries run

    split_within : IsWithin (with_records all old) → IsWithin (with_records (first ++ last) old)
    split_within = subst (λ (recs : List WideRec). IsWithin (with_records recs old)) widened

    pub entries_within : IsWithin (with_records all old) → IsWithin (with_records first start)
    entries_within fits = subst (λ (c : Content). IsWithin (with_records first c)) (sym same) (within_first first last old (split_within fits))

    pub entries_stopped : (refusal : AddRefusal) (new : Content) → IsStopped refusal first start new → IsStopped refusal all old new
    entries_stopped refusal new stopped = grind (arith, widened, stopped_first)

    module _ (mid : Content) (one : IsAdded first start mid) (slice : List RawArc) (slice_is : slice ≡ arcs) where
      first_added : IsAdded first old mid
      first_added = subst (λ (c : Content). IsAdded first c mid) same one

      abbrev behind : List RawArc
      behind = take (length slice - run) (drop run slice)

      pub last_within : IsWithin (with_records all old) → IsWithin (with_records (map wide_arc behind) mid)
      last_within fits =
          subst (λ (rest : List RawArc). IsWithin (with_records (map wide_arc rest) mid)) (sym (rest_of_slice slice arcs run slice_is)) (within_second first last old mid first_added (split_within fits))

      pub last_stopped : (refusal : AddRefusal) (new : Content) → IsStopped refusal (map wide_arc behind) mid new → IsStopped refusal all old new
      last_stopped refusal new stopped = grind (arith, widened, stopped_second, rest_of_slice)

      pub last_added : (new : Content) → new ≡ with_records (map wide_arc behind) mid → IsAdded all old new
      last_added new is = search (widened, added_both, first_added, arcs_added, rest_of_slice)

-- the records of a reader's entries
pub held_in_turn : (s : State) → IsInTurn Entry (λ e. wide_records (held_recs s e)) (entries_recs s.fields.items s.counters.cells.items s.pairs.cells.items s.arcs.items)
held_in_turn s = entries_in_turn s.fields.items s.counters.cells.items s.pairs.cells.items s.arcs.items

pub held_widened : (s : State) (e : Entry) → wide_records (held_recs s e) ≡ map wide_arc (arcs_before s.arcs.items e) ++ wide_record (held_rec s e.body)
held_widened s = entry_widened s.fields.items s.counters.cells.items s.pairs.cells.items s.arcs.items
