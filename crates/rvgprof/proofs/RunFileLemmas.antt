-- The file of a run is read as what happened in it.
use Rattle.std.proofs.Common.{◌≡◌, ℕ, zero, suc, ◌+◌, ◌*◌, ◌^◌, ◌<◌, ◌≤◌, Bool, true, false, eqb, cond, List, [], ◌∷◌, ◌++◌, map, fold, length, slice_get, slice_index, filter_map, Option, Some, None, unwrap_or, append-nil, refl, sym, ap, subst, ◌∙◌, true≢false, if◌then◌else◌, arith}
use Rattle.std.specs.Prelude.{not, IsSome, nat_eq}
use Rattle.std.specs.List.{AllByRecursion, cons_option, range_with_len}
use Rattle.std.specs.Map.{lookup}
use Rattle.std.proofs.lemmas.Bool.{eq-eqb, eqb-true}
use Rattle.std.proofs.lemmas.Bool.Decides.{nat_tests}
use Rattle.std.proofs.lemmas.List.Concat.{flat_map-append}
use Rattle.std.proofs.lemmas.List.Elements.{filter_map-append}
use Rattle.std.proofs.lemmas.List.FromFn.{get_or-map-range_with_len, length-map-range_with_len}
use Rattle.std.proofs.lemmas.List.Sums.{count_by-le-length}
use Rattle.elf32_syms.specs.Image.{image_of}
use Rattle.gp_base.specs.declared.records.Form.{Form}
use Rattle.gp_base.specs.declared.records.Form.TheVariants.{Bsd, Gnu}
use Rattle.gp_base.specs.declared.records.RawArc.{RawArc}
use Rattle.gp_base.specs.declared.records.RawBlock.{RawBlock}
use Rattle.gp_base.specs.declared.records.Rec.{Rec}
use Rattle.gp_base.specs.declared.records.Rec.TheVariants as recs
use Rattle.gp_base.specs.declared.records.Unit as units
use Rattle.settings.specs.declared.setup.Setup.{Setup}
use Rattle.settings.specs.Setup.{IsSetup}
use Rattle.gmon_cells.specs.RunRecords.{log_recs}
use Rattle.gmon_bsd.specs.Run.{bsd_run_text}
use Rattle.gmon_bsd.proofs.RunReadBack.{run_read_back as bsd_read_back}
use Rattle.gmon_data.specs.declared.hist.Hist.{Hist}
use Rattle.gmon_data.specs.Content.{Content, WideRec, arc_in, block_in, content_of, hist_in, runs_at, same_ends, unit_in, wide_block, wide_record, wide_records}
use Rattle.gmon_data.specs.Hists.{put_hist}
use Rattle.gmon_data.specs.Tally.{sums_by_key, tally}
use Rattle.gmon_data.proofs.ContentLemmas.{same-self}
use Rattle.gmon_data.proofs.TallyLemmas.{sums_by_key-fold}
use Rattle.gmon_gnu.specs.Blocks.{block_at, block_record, executed_blocks}
use Rattle.gmon_gnu.specs.CountedRun.{CountsFit, block_recs, counted_text}
use Rattle.gmon_gnu.specs.ProfileText.{profile_text}
use Rattle.gmon_gnu.specs.Run.{gnu_run_text}
use Rattle.gmon_gnu.proofs.CountedReadBack.{counted_read_back}
use Rattle.gmon_gnu.proofs.ProfileReadBack.{profile_read_back}
use Rattle.mcount_arcs.specs.declared.sizes.Sizes.{Sizes}
use Rattle.mcount_arcs.specs.Arcs.{arcs_of}
use Rattle.mcount_arcs.specs.Sizes.{AreSizes}
use Rattle.prof_machine.specs.declared.summary.End.{End}
use Rattle.prof_machine.specs.declared.summary.End.TheVariants.{Budget, Exit, Trap}
use Rattle.prof_machine.specs.Executions.{executions_at, executions_in, instructions_of}
use Rattle.prof_machine.specs.Plan.{after_drive, most_turns, plan_of}
use Rattle.prof_machine.specs.Start.{machine_of}
use Rattle.prof_machine.specs.World.{World}
use Rattle.prof_machine.proofs.NotedLemmas.{as_many}
use Rattle.prof_machine.proofs.RunLemmas.{plan_ends, timed_budget, timed_exit, timed_trap}
use Rattle.gmon_files.specs.Forms.{file_records, form_of, records_in, refusal_in}
use Rattle.gmon_files.proofs.RunLemmas.{bsd_form, gnu_form}
use Rattle.courses.specs.Answer.{counts_text, profile_bytes, profile_in}
use Rattle.command_words.specs.Words.{may_count}
use Rattle.rvgprof.specs.RunFile.{FitsFile, ProfileFilesAreReadBack, RunFilesAreReadBack, SaysRun, execution_blocks, gmon_text, records_of_run, text_sizes, end_world}

-- ---- how often instructions were executed

-- no more instructions retire than the budget allows
few_retired : (program : List ℕ) (setup : Setup) → IsSetup setup → (end_world program setup).retired ≤ 2147483647
unfolding after_drive
few_retired program setup within =
    let image = image_of program in
    let m = machine_of image setup in
    let turns = plan_of m.setup (most_turns m.setup) in
    let most = within.budget in
    by turns (end_world program setup).ending refl (plan_ends image program setup within.some_every within.some_budget)
    (λ is. let e = (timed_budget image program setup turns within.some_every within.some_budget is).1 in omega arith)
    (λ status is. let e = (timed_exit image program setup turns status within.some_every within.some_budget is).1 in omega arith)
    (λ kind pc is. let e = (timed_trap image program setup turns kind pc within.some_every within.some_budget is).1 in omega arith)
  where
    by : (turns : List ℕ) (o : Option End) → (end_world program setup).ending ≡ o → IsSome (end_world program setup).ending
        → ((end_world program setup).ending ≡ Some Budget → (end_world program setup).retired ≤ 2147483647)
        → ((status : ℕ) → (end_world program setup).ending ≡ Some (Exit status) → (end_world program setup).retired ≤ 2147483647)
        → ((kind : _) (pc : ℕ) → (end_world program setup).ending ≡ Some (Trap kind pc) → (end_world program setup).retired ≤ 2147483647)
        → (end_world program setup).retired ≤ 2147483647
    by turns None is some one two three = absurd (let none : IsSome {T = End} None = subst IsSome is some in cc)
    by turns (Some Budget) is some one two three = one is
    by turns (Some (Exit status)) is some one two three = two status is
    by turns (Some (Trap kind pc)) is some one two three = three kind pc is

retired_here : (program : List ℕ) (setup : Setup) → length (end_world program setup).ran ≡ (end_world program setup).retired
unfolding after_drive
retired_here program setup = search as_many

each_below : (most : ℕ) (xs : List ℕ) → AllByRecursion (λ n. n < most) xs → 0 < most → (i : ℕ) → slice_index xs i < most
each_below most [] all some i = some
each_below most (x ∷ xs) all some zero = all.0
each_below most (x ∷ xs) all some (suc i) = each_below most xs all.1 some i

-- so the counts have four bytes
module _ (program : List ℕ) (setup : Setup) (within : IsSetup setup) where
  abbrev ran : List ℕ
  ran = (end_world program setup).ran

  count_fits : (pc : ℕ) → executions_at ran pc < 2 ^ 32
  count_fits pc = grind (arith, few_retired, retired_here, count_by-le-length)

  all_fit : (low : ℕ) (is : List ℕ) → AllByRecursion (λ n. n < 2 ^ 32) (map (λ i. executions_at ran (low + 4 * i)) is)
  all_fit low [] = tt
  all_fit low (i ∷ is) = (count_fits (low + 4 * i), all_fit low is)

  counts_fit : AreSizes (text_sizes program setup) → (blocks : Bool) → CountsFit (text_sizes program setup).low (execution_blocks blocks (text_sizes program setup) (end_world program setup))
  counts_fit sizes false = record { four_bytes = λ i. omega arith; addresses = λ i less. absurd (omega (arith, less)) }
  counts_fit sizes true =
      let z = text_sizes program setup in
      record {
        four_bytes = each_below (2 ^ 32) (executions_in z ran) (all_fit z.low (range_with_len 0 (instructions_of z))) (omega arith);
        addresses = λ i less. (let long = length-map-range_with_len (λ i. executions_at ran (z.low + 4 * i)) 0 (instructions_of z) in
            let end = sizes.end in
            let whole = sizes.counters in
            omega (arith, less, long, end, whole));
      }

-- ---- the profile of the file's records

no_hists : (bs : List RawBlock) → filter_map hist_in (map wide_block bs) ≡ []
no_hists [] = refl
no_hists (b ∷ bs) = no_hists bs

no_units : (bs : List RawBlock) → filter_map unit_in (map wide_block bs) ≡ []
no_units [] = refl
no_units (b ∷ bs) = no_units bs

no_arcs : (bs : List RawBlock) → filter_map arc_in (map wide_block bs) ≡ []
no_arcs [] = refl
no_arcs (b ∷ bs) = no_arcs bs

abbrev pair_of : RawBlock → ℕ × ℕ
pair_of b = (b.addr, b.count)

all_blocks : (bs : List RawBlock) → filter_map block_in (map wide_block bs) ≡ map pair_of bs
all_blocks [] = refl
all_blocks (b ∷ bs) = ap (λ (es : List (ℕ × ℕ)). pair_of b ∷ es) (all_blocks bs)

blocks_wide : (bs : List RawBlock) → wide_records (block_recs bs) ≡ map wide_block bs
blocks_wide [] = refl
blocks_wide (b ∷ bs) = append-nil (map wide_block (b ∷ bs))

no_blocks : (arcs : List RawArc) → filter_map block_in (wide_records (map recs.Arc arcs)) ≡ []
no_blocks [] = refl
no_blocks (arc ∷ arcs) = no_blocks arcs

module _ (front : List Rec) (bs : List RawBlock) where
  wide_more : wide_records (front ++ block_recs bs) ≡ wide_records front ++ map wide_block bs
  wide_more = flat_map-append wide_record front (block_recs bs) ∙ ap (λ (rs : List WideRec). wide_records front ++ rs) (blocks_wide bs)

  -- what is found of some kind in the front is all that is there of it
  found : {T : Type 0} (kind : WideRec → Option T) (there : List T) → filter_map kind (map wide_block bs) ≡ there → filter_map kind (wide_records (front ++ block_recs bs)) ≡ filter_map kind (wide_records front) ++ there
  found {T} kind there is = grind (arith, wide_more, filter_map-append)

-- ---- the executions at an address

-- what is found at an address once more were added there or elsewhere
abbrev runs_more : ℕ → ℕ → ℕ → ℕ
runs_more addr other n = if nat_eq addr other then n else 0

runs_in_tally : (addr other n : ℕ) (es : List (ℕ × ℕ)) → runs_at addr (tally nat_eq other n es) ≡ runs_at addr es + runs_more addr other n
runs_in_tally addr other n [] = by (eqb addr other)
  where
    by : (b : Bool) → unwrap_or (cond b (Some n) None) 0 ≡ 0 + (if b then n else 0)
    by true = let same : n ≡ 0 + n = omega arith in same
    by false = refl
runs_in_tally addr other n (e ∷ es) = by (eqb addr e.0) (eqb other e.0) (eqb addr other) refl refl refl (runs_in_tally addr other n es)
  where
    by : (a b c : Bool) → eqb addr e.0 ≡ a → eqb other e.0 ≡ b → eqb addr other ≡ c → runs_at addr (tally nat_eq other n es) ≡ runs_at addr es + (if c then n else 0)
        → unwrap_or (lookup (nat_eq addr) (if b then (e.0, e.1 + n) ∷ es else e ∷ tally nat_eq other n es)) 0 ≡ unwrap_or (cond a (Some e.1) (lookup (nat_eq addr) es)) 0 + (if c then n else 0)
    by true true true p q r more = ap (λ (b : Bool). unwrap_or (cond b (Some (e.1 + n)) (lookup (nat_eq addr) es)) 0) p
    by true true false p q r more = absurd (true≢false (sym (eq-eqb addr other (eqb-true addr e.0 p ∙ sym (eqb-true other e.0 q))) ∙ r))
    by true false true p q r more = absurd (true≢false (sym (eq-eqb other e.0 (sym (eqb-true addr other r) ∙ eqb-true addr e.0 p)) ∙ q))
    by true false false p q r more = grind arith
    by false true true p q r more = absurd (true≢false (sym (eq-eqb addr e.0 (eqb-true addr other r ∙ eqb-true other e.0 q)) ∙ p))
    by false true false p q r more = grind arith
    by false false c p q r more = ap (λ (b : Bool). unwrap_or (cond b (Some e.1) (lookup (nat_eq addr) (tally nat_eq other n es))) 0) p ∙ more

abbrev adding : List (ℕ × ℕ) → ℕ × ℕ → List (ℕ × ℕ)
adding es e = tally nat_eq e.0 e.1 es

module _ (low : ℕ) (counts : List ℕ) where
  abbrev at : ℕ → ℕ
  at i = low + 4 * i

  abbrev pairs : ℕ → ℕ → List (ℕ × ℕ)
  pairs start n = map pair_of (filter_map (block_at low counts) (range_with_len start n))

  abbrev after : ℕ → List (ℕ × ℕ) → List (ℕ × ℕ)
  after j es = if eqb (slice_index counts j) 0 then es else tally nat_eq (at j) (slice_index counts j) es

  first_pair : (start n : ℕ) (es : List (ℕ × ℕ)) → fold adding es (pairs start (suc n)) ≡ fold adding (after start es) (pairs (start + 1) n)
  first_pair start n es = by (eqb (slice_index counts start) 0)
    where
      this : RawBlock
      this = record { addr = at start; count = slice_index counts start }

      rest : List RawBlock
      rest = filter_map (block_at low counts) (range_with_len (start + 1) n)

      by : (b : Bool) → fold adding es (map pair_of (cons_option (if b then None else Some this) rest)) ≡ fold adding (if b then es else tally nat_eq (at start) (slice_index counts start) es) (map pair_of rest)
      by true = refl
      by false = refl

  after_runs : (i j : ℕ) (es : List (ℕ × ℕ)) → runs_at (at i) (after j es) ≡ runs_at (at i) es + runs_more (at i) (at j) (slice_index counts j)
  after_runs i j es = by (eqb (slice_index counts j) 0) refl
    where
      nothing : (b : Bool) → runs_at (at i) es ≡ runs_at (at i) es + (if b then 0 else 0)
      nothing true = omega arith
      nothing false = omega arith

      by : (b : Bool) → eqb (slice_index counts j) 0 ≡ b → runs_at (at i) (if b then es else tally nat_eq (at j) (slice_index counts j) es) ≡ runs_at (at i) es + runs_more (at i) (at j) (slice_index counts j)
      by true is = nothing (eqb (at i) (at j)) ∙ ap (λ (n : ℕ). runs_at (at i) es + runs_more (at i) (at j) n) (sym (eqb-true (slice_index counts j) 0 is))
      by false is = runs_in_tally (at i) (at j) (slice_index counts j) es

  elsewhere : (i j : ℕ) → i < j → eqb (at i) (at j) ≡ false
  elsewhere i j less = grind (arith, nat_tests, less)

  -- those before the first of the pairs stay
  before_pairs : (i start n : ℕ) (es : List (ℕ × ℕ)) → i < start → runs_at (at i) (fold adding es (pairs start n)) ≡ runs_at (at i) es
  before_pairs i start zero es less = refl
  before_pairs i start (suc n) es less =
      let same : runs_at (at i) es + 0 ≡ runs_at (at i) es = omega arith in
      ap (runs_at (at i)) (first_pair start n es)
      ∙ before_pairs i (start + 1) n (after start es) (omega arith)
      ∙ after_runs i start es ∙ ap (λ (b : Bool). runs_at (at i) es + (if b then slice_index counts start else 0)) (elsewhere i start less) ∙ same

  -- and each of theirs gets its count
  among_pairs : (i start n : ℕ) (es : List (ℕ × ℕ)) → start ≤ i → i < start + n → runs_at (at i) (fold adding es (pairs start n)) ≡ runs_at (at i) es + slice_index counts i
  among_pairs i start zero es from below = absurd (omega (arith, from, below))
  among_pairs i start (suc n) es from below = ap (runs_at (at i)) (first_pair start n es) ∙ by (eqb start i) refl (λ more. among_pairs i (start + 1) n (after start es) more (omega (arith, below)))
    where
      by : (b : Bool) → eqb start i ≡ b → (start + 1 ≤ i → runs_at (at i) (fold adding (after start es) (pairs (start + 1) n)) ≡ runs_at (at i) (after start es) + slice_index counts i)
          → runs_at (at i) (fold adding (after start es) (pairs (start + 1) n)) ≡ runs_at (at i) es + slice_index counts i
      by true is later = grind (arith, before_pairs, after_runs)
      by false is later = grind (arith, after_runs)

  runs_counted : (i : ℕ) → i < length counts → runs_at (at i) (sums_by_key nat_eq (map pair_of (executed_blocks low counts))) ≡ slice_index counts i
  runs_counted i below =
      let same : 0 + slice_index counts i ≡ slice_index counts i = omega arith in
      ap (runs_at (at i)) (sums_by_key-fold nat_eq same-self eqb-true (map pair_of (executed_blocks low counts))) ∙ among_pairs i 0 (length counts) [] (omega arith) (omega (arith, below)) ∙ same

-- ---- what the file says

module _ (form : Form) (program : List ℕ) (setup : Setup) (fits : FitsFile form program setup) where
  abbrev z : Sizes
  z = text_sizes program setup

  abbrev w : World
  w = end_world program setup

  abbrev front : List Rec
  front = log_recs z w.log setup.rate

  abbrev blocks : List RawBlock
  blocks = executed_blocks z.low (execution_blocks setup.blocks z w)

  rate_fits : setup.rate < 2 ^ 32
  rate_fits = let most = fits.within.0.rate in omega arith

  -- the text and its records, by its form
  record IsText (f : Form) (text : List ℕ) : Type 0 where
    form_is : form_of text ≡ f
    accepted : refusal_in f text ≡ None
    records : records_in f text ≡ record { form = f; recs = front ++ block_recs blocks }

  gnu_text : (b : Bool) → gnu_run_text z w.log setup.rate ++ counts_text b z w ≡ counted_text z w.log setup.rate z.low (execution_blocks b z w)
  unfolding block_record
  gnu_text false = refl
  gnu_text true = refl

  is_text : (f : Form) → may_count f setup.blocks ≡ true → IsText f (profile_bytes f setup z w)
  is_text Gnu may =
      let text = gnu_text setup.blocks in
      let read = counted_read_back z w.log setup.rate z.low (execution_blocks setup.blocks z w) fits.sizes rate_fits fits.calls (counts_fit program setup fits.within.0 fits.sizes setup.blocks) in
      record {
        form_is = gnu_form z w.log setup.rate (counts_text setup.blocks z w);
        accepted = ap (refusal_in Gnu) text ∙ read.0;
        records = ap (records_in Gnu) text ∙ read.1;
      }
  is_text Bsd may = by setup.blocks refl may
    where
      by : (b : Bool) → setup.blocks ≡ b → not b ≡ true → IsText Bsd (profile_bytes Bsd setup z w)
      by true is may = absurd cc
      by false is may =
          let text : profile_bytes Bsd setup z w ≡ bsd_run_text z w.log setup.rate = ap (λ (b : Bool). bsd_run_text z w.log setup.rate ++ counts_text b z w) is ∙ append-nil (bsd_run_text z w.log setup.rate) in
          let none : front ++ block_recs blocks ≡ front = ap (λ (b : Bool). front ++ block_recs (executed_blocks z.low (execution_blocks b z w))) is ∙ append-nil front in
          let read = bsd_read_back z w.log setup.rate fits.sizes rate_fits fits.calls in
          record {
            form_is = ap form_of text ∙ bsd_form (image_of program).text setup.hist setup.hash w.log setup.rate;
            accepted = ap (refusal_in Bsd) text ∙ read.0;
            records = ap (records_in Bsd) text ∙ read.1 ∙ ap (λ (rs : List Rec). record { form = Bsd; recs = rs }) (sym none);
          }

  no_front_blocks : filter_map block_in (wide_records front) ≡ []
  no_front_blocks = no_blocks (arcs_of z w.log)

  says : SaysRun form program setup (gmon_text form program setup)
  unfolding content_of
  says =
      let text = gmon_text form program setup in
      let is = is_text form fits.within.1 in
      let records : file_records text ≡ records_of_run form setup z w = ap (λ (f : Form). records_in f text) is.form_is ∙ is.records in
      let content : profile_in (file_records text) ≡ content_of (wide_records (front ++ block_recs blocks)) = ap profile_in records in
      let hists = ap (λ (hs : List Hist). fold (λ done h. put_hist h done) [] hs) (found front blocks hist_in [] (no_hists blocks) ∙ append-nil (filter_map hist_in (wide_records front))) in
      let arcs = found front blocks arc_in [] (no_arcs blocks) ∙ append-nil (filter_map arc_in (wide_records front)) in
      let unit_found = found front blocks unit_in [] (no_units blocks) ∙ append-nil (filter_map unit_in (wide_records front)) in
      let all = found front blocks block_in (map pair_of blocks) (all_blocks blocks) ∙ ap (λ (es : List (ℕ × ℕ)). es ++ map pair_of blocks) no_front_blocks in
      record {
        form_is = is.form_is;
        accepted = ap (λ (f : Form). refusal_in f text) is.form_is ∙ is.accepted;
        records = records;
        hists = ap (λ (c : Content). c.hists) content ∙ hists;
        arcs = ap (λ (c : Content). c.arcs) content ∙ ap (sums_by_key same_ends) arcs;
        «unit» = ap (λ (c : Content). c.«unit») content ∙ ap (λ (us : List units.Unit). slice_get us 0) unit_found;
        executions = λ counts i below.
            ap (λ (c : Content). runs_at (z.low + 4 * i) c.blocks) content ∙ ap (λ (es : List (ℕ × ℕ)). runs_at (z.low + 4 * i) (sums_by_key nat_eq es)) all
            ∙ ap (λ (b : Bool). runs_at (z.low + 4 * i) (sums_by_key nat_eq (map pair_of (executed_blocks z.low (execution_blocks b z w))))) counts
            ∙ runs_counted z.low (executions_in z w.ran) i (subst (λ (n : ℕ). i < n) (sym (length-map-range_with_len (λ j. executions_at w.ran (z.low + 4 * j)) 0 (instructions_of z))) below)
            ∙ get_or-map-range_with_len (λ j. executions_at w.ran (z.low + 4 * j)) 0 (instructions_of z) i i 0 below (omega arith);
      }

pub run_files_read_back : RunFilesAreReadBack
run_files_read_back form program setup fits = says form program setup fits

profile_form : (p : Content) → form_of (profile_text p) ≡ Gnu
unfolding form_of profile_text
profile_form p = refl

pub profile_files_read_back : ProfileFilesAreReadBack
profile_files_read_back p is =
    let text = profile_text p in
    let read = profile_read_back p is in
    record {
      form_is = profile_form p;
      accepted = ap (λ (f : Form). refusal_in f text) (profile_form p) ∙ read.0;
      content = ap (λ (f : Form). profile_in (records_in f text)) (profile_form p) ∙ read.1;
    }
