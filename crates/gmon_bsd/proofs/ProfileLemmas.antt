-- The profile of a run: that it is small enough, and that it is what the run's file gives.
use Rattle.std.proofs.Common.{◌≡◌, ℕ, ◌+◌, ◌*◌, ◌^◌, ◌<◌, ◌≤◌, Bool, true, false, List, [], ◌∷◌, length, map, sum, unwrap_or, Some, refl, sym, ap, subst, ◌∙◌, if◌then◌else◌, arith}
use Rattle.std.specs.List.{All}
use Rattle.std.proofs.lemmas.List.Elements.{All-head, All-tail}
use Rattle.std.proofs.lemmas.List.Sums.{sum_by-cons}
use Rattle.gp_base.specs.declared.records.RawArc.{RawArc}
use Rattle.gp_base.specs.declared.records.Records.{Records}
use Rattle.gp_base.specs.declared.records.Unit as units
use Rattle.gmon_data.specs.declared.hist.Hist.{Hist}
use Rattle.gmon_data.specs.Hists.{has_counters, kept_unit, put_hist}
use Rattle.gmon_data.specs.Content.{Content, IsWithin, content_of, empty_content, wide_arc, wide_records, with_arc, with_hist, with_records}
use Rattle.gmon_data.proofs.BoundLemmas.{tally_at_most}
use Rattle.gmon_data.proofs.RecordLemmas.{arcs_widened}
use Rattle.gmon_data.proofs.TallyLemmas.{sum-tally}
use Rattle.mcount_arcs.specs.Arcs.{CallFits}
use Rattle.mcount_arcs.specs.Log.{LogEntry}
use Rattle.mcount_arcs.specs.Sizes.{AreSizes}
use Rattle.mcount_arcs.specs.Value.{GmonValue, StandsFor}
use Rattle.gmon_cells.specs.RunRecords.{log_recs}
use Rattle.gmon_bsd.specs.Profile.{IsOfRun, run_profile, runtime_records}
use Rattle.gmon_bsd.proofs.RunReadBack.{run_read_back}

pub counters_sum : (counters : List ℕ) → All (λ n. n < 2 ^ 16) counters → sum counters ≤ length counters * 65536
counters_sum [] small = omega arith
counters_sum (n ∷ counters) small =
    let here = All-head (λ n. n < 2 ^ 16) n counters small in
    omega (arith, here, counters_sum counters (All-tail (λ n. n < 2 ^ 16) n counters small), sum_by-cons (λ (k : ℕ). k) n counters)

-- the profile of a run's counters alone
pub one_hist : (h : Hist) (u : units.Unit) → All (λ n. n < 2 ^ 16) h.counters → length h.counters ≤ 2 ^ 23 → IsOfRun 0 (with_hist h u empty_content)
one_hist h u small few = by (has_counters h)
  where
    by : (b : Bool) → IsOfRun 0 (if b then record empty_content { hists = put_hist h []; «unit» = Some (unwrap_or empty_content.«unit» (kept_unit u)) } else empty_content)
    by true = grind (arith, counters_sum)
    by false = record { samples = omega arith; counters = omega arith; calls = omega arith; pairs = omega arith; runs = refl; addresses = refl }

-- one arc more
one_arc : (from to count : ℕ) (c : Content) (n : ℕ) → count < 2 ^ 32 → IsOfRun n c → IsOfRun (n + 1) (with_arc from to count c)
one_arc from to count c n few of = grind (arith, sum-tally, tally_at_most)

-- many arcs more
pub many_arcs : (arcs : List RawArc) (c : Content) (n : ℕ) → All CallFits arcs → IsOfRun n c → IsOfRun (n + length arcs) (with_records (map wide_arc arcs) c)
many_arcs [] c n fit of = subst (λ (m : ℕ). IsOfRun m c) (omega arith) of
many_arcs (arc ∷ arcs) c n fit of =
    let one = one_arc arc.from arc.to arc.count c n (All-head CallFits arc arcs fit).count of in
    subst (λ (m : ℕ). IsOfRun m (with_records (map wide_arc arcs) (with_arc arc.from arc.to arc.count c))) (omega arith) (many_arcs arcs (with_arc arc.from arc.to arc.count c) (n + 1) (All-tail CallFits arc arcs fit) one)

-- the arcs of a run are few
pub within_bounds : (n : ℕ) (c : Content) → n ≤ 65535 → IsOfRun n c → IsWithin c
within_bounds n c few of = grind arith

-- it is the profile of what was logged ..
pub of_what_is_logged : (v : GmonValue) (log : List LogEntry) (rate : ℕ) → StandsFor log v
    → content_of (runtime_records v rate) ≡ content_of (wide_records (log_recs v.sizes log rate))
of_what_is_logged v log rate stands = grind (arith, arcs_widened)

-- .. which the run's file gives
pub of_its_file : (v : GmonValue) (log : List LogEntry) (rate : ℕ) → AreSizes v.sizes → rate < 2 ^ 32 → All CallFits v.arcs → StandsFor log v
    → content_of (runtime_records v rate) ≡ run_profile v.sizes log rate
of_its_file v log rate sizes small fits stands =
    let read = (run_read_back v.sizes log rate sizes small (subst (All CallFits) stands.arcs fits)).1 in
    of_what_is_logged v log rate stands ∙ ap (λ (r : Records). content_of (wide_records r.recs)) (sym read)
