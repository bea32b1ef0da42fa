-- What a profile that was read from so many bytes holds at most.
use Rattle.std.proofs.Common.{◌≡◌, ℕ, ◌+◌, ◌*◌, ◌^◌, ◌<◌, ◌≤◌, Bool, List, [], ◌∷◌, length, map, sum, unwrap_or, Some, subst, if◌then◌else◌, arith}
use Rattle.std.specs.List.{AllByRecursion}
use Rattle.std.proofs.lemmas.List.Sums.{sum_by-cons}
use Rattle.gp_base.specs.declared.records.Unit as units
use Rattle.gp_base.specs.declared.records.RawArc.{RawArc}
use Rattle.gp_base.specs.declared.records.RawBlock.{RawBlock}
use Rattle.gp_base.specs.Fields.{ArcFits, BlockFits}
use Rattle.gmon_data.specs.declared.hist.Hist.{Hist}
use Rattle.gmon_data.specs.Hists.{has_counters, kept_unit, put_hist}
use Rattle.gmon_data.specs.Content.{Content, IsWithin, empty_content, wide_arc, wide_block, with_arc, with_block, with_hist, with_records}
use Rattle.gmon_data.specs.Sizes.{IsOfBytes}
use Rattle.gmon_data.proofs.BoundLemmas.{counters_at_most, tally_at_most}
use Rattle.gmon_data.proofs.HistLemmas.{samples-put}
use Rattle.gmon_data.proofs.TallyLemmas.{sum-tally}

pub of_nothing : IsOfBytes 0 empty_content
of_nothing = record { samples = omega arith; counters = omega arith; calls = omega arith; runs = omega arith; pairs = omega arith; addresses = omega arith }

pub within_limits : (n : ℕ) (c : Content) → IsOfBytes n c → n ≤ 67108864 → IsWithin c
within_limits n c of le = grind arith

-- ---- one record more

pub one_hist : (h : Hist) (u : units.Unit) (c : Content) (n : ℕ) → sum h.counters ≤ length h.counters * 65536 → IsOfBytes n c → IsOfBytes (n + 2 * length h.counters) (with_hist h u c)
one_hist h u c n few of = by (has_counters h)
  where
    by : (b : Bool) → IsOfBytes (n + 2 * length h.counters) (if b then record c { hists = put_hist h c.hists; «unit» = Some (unwrap_or c.«unit» (kept_unit u)) } else c)
    by b = grind (arith, samples-put, counters_at_most)

pub one_arc : (from to count : ℕ) (c : Content) (n : ℕ) → count < 2 ^ 32 → IsOfBytes n c → IsOfBytes (n + 12) (with_arc from to count c)
one_arc from to count c n few of = grind (arith, sum-tally, tally_at_most)

pub one_block : (addr count : ℕ) (c : Content) (n : ℕ) → count < 2 ^ 32 → IsOfBytes n c → IsOfBytes (n + 8) (with_block addr count c)
one_block addr count c n few of = grind (arith, sum-tally, tally_at_most)

pub all_blocks : (blocks : List RawBlock) (c : Content) (n : ℕ) → AllByRecursion BlockFits blocks → IsOfBytes n c → IsOfBytes (n + 8 * length blocks) (with_records (map wide_block blocks) c)
all_blocks [] c n fit of = let e : n ≡ n + 8 * 0 = omega arith in subst (λ (m : ℕ). IsOfBytes m c) e of
all_blocks (b ∷ blocks) c n fit of =
    let rest = all_blocks blocks (with_block b.addr b.count c) (n + 8) fit.1 (one_block b.addr b.count c n fit.0.count of) in
    grind arith

pub all_arcs : (arcs : List RawArc) (c : Content) (n : ℕ) → AllByRecursion ArcFits arcs → IsOfBytes n c → IsOfBytes (n + 12 * length arcs) (with_records (map wide_arc arcs) c)
all_arcs [] c n fit of = let e : n ≡ n + 12 * 0 = omega arith in subst (λ (m : ℕ). IsOfBytes m c) e of
all_arcs (a ∷ arcs) c n fit of =
    let rest = all_arcs arcs (with_arc a.from a.to a.count c) (n + 12) fit.1 (one_arc a.from a.to a.count c n fit.0.count of) in
    grind arith

pub counters_sum : (counters : List ℕ) → AllByRecursion (λ c. c < 2 ^ 16) counters → sum counters ≤ length counters * 65536
counters_sum [] fit = omega arith
counters_sum (c ∷ counters) fit = omega (arith, fit.0, counters_sum counters fit.1, sum_by-cons (λ (n : ℕ). n) c counters)

pub more_bytes : (m n : ℕ) (c : Content) → m ≤ n → IsOfBytes m c → IsOfBytes n c
more_bytes m n c le of = grind arith
