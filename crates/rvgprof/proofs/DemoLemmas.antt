-- The numbers of a demo's summary.
use Rattle.std.proofs.Common.{◌≡◌, ◌<◌, ◌≤◌, ◌+◌, ℕ, suc, Bool, true, false, cond, List, [], ◌∷◌, ◌++◌, slice_index, sym, ap, ◌∙◌, arith, add-one}
use Rattle.std.proofs.lemmas.Bool.{eq-eqb}
use Rattle.std.specs.List.{count_by}
use Rattle.std.proofs.lemmas.List.{map-id}
use Rattle.std.proofs.lemmas.List.Sums.{sum_by_push}
use Rattle.std.proofs.lemmas.List.FromFn.{map-range_with_len_more}
use Rattle.call_cycles.specs.Graph.{GraphValue, component_count, entering_of}
use Rattle.call_cycles.specs.Flow.{FlowValue, is_root, time_of, time_of_roots}
use Rattle.call_cycles.specs.Sums.{numbers_below, sum_below, when}
use Rattle.call_cycles.proofs.SumLemmas.{sum_front_le}
use Rattle.elf32_syms.specs.declared.image.Image.{Image}
use Rattle.gmon_data.specs.Content.{Content}
use Rattle.mcount_arcs.specs.declared.sizes.Sizes.{Sizes}
use Rattle.mcount_arcs.specs.Log.{distinct_count, kept_calls}
use Rattle.prof_machine.specs.Value.{RunValue, StandsFor, summary_of}
use Rattle.prof_machine.specs.World.{World}
use Rattle.command_reports.specs.declared.findings.Findings.{Findings}
use Rattle.courses.specs.Answer.{logged_profile}
use Rattle.command_reports.specs.Findings.{AreFindings}
use Rattle.courses.specs.Reports.{demo_summary, profile_sources}
use Rattle.rvgprof.specs.Demonstrating.{SumsUp}

numbers_more : (n : ℕ) → numbers_below (n + 1) ≡ numbers_below n ++ n ∷ []
numbers_more n = sym (map-id (numbers_below (n + 1))) ∙ map-range_with_len_more (λ (k : ℕ). k) 0 n n (omega arith) ∙ ap (λ (ks : List ℕ). ks ++ n ∷ []) (map-id (numbers_below n))

-- how many of the numbers up to n pass
pub count_more : (p : ℕ → Bool) (n : ℕ) → count_by p (numbers_below (n + 1)) ≡ count_by p (numbers_below n) + cond (p n) 1 0
count_more p n = ap (count_by p) (numbers_more n) ∙ sum_by_push (λ (k : ℕ). cond (p k) 1 0) (numbers_below n) n

pub count_yes : (p : ℕ → Bool) (n count : ℕ) → count ≡ count_by p (numbers_below n) → p n ≡ true → count + 1 ≡ count_by p (numbers_below (n + 1))
count_yes p n count is yes_it = let one : ◌≡◌ {A = ℕ} (cond (p n) 1 0) 1 = ap (λ (b : Bool). cond {A = ℕ} b 1 0) yes_it in omega (arith, is, one, count_more p n)

pub count_no : (p : ℕ → Bool) (n count : ℕ) → count ≡ count_by p (numbers_below n) → p n ≡ false → count ≡ count_by p (numbers_below (n + 1))
count_no p n count is no_it = let none : ◌≡◌ {A = ℕ} (cond (p n) 1 0) 0 = ap (λ (b : Bool). cond {A = ℕ} b 1 0) no_it in omega (arith, is, none, count_more p n)

-- the roots up to one more have no more than all roots
root_fits : (g : GraphValue) (t : FlowValue) (c : ℕ) → c < component_count g → is_root g c ≡ true → sum_below c (λ d. when (is_root g d) (time_of t d)) + time_of t c ≤ time_of_roots g t
root_fits g t c below root =
    let f : ℕ → ℕ = λ d. when (is_root g d) (time_of t d) in
    let here : f c ≡ time_of t c = ap (λ (b : Bool). when b (time_of t c)) root in
    omega (arith, here, sum_front_le (suc c) (component_count g) f (omega arith))

module _ (g : GraphValue) (t : FlowValue) (c grains entering : ℕ) (so_far : grains ≡ sum_below c (λ d. when (is_root g d) (time_of t d))) (calls : entering ≡ entering_of g c) where
  abbrev part : ℕ → ℕ
  part d = when (is_root g d) (time_of t d)

  one_more : sum_below (c + 1) part ≡ sum_below c part + part c
  one_more = ap (λ (k : ℕ). sum_below k part) (add-one c)

  root : entering ≡ 0 → is_root g c ≡ true
  root none = eq-eqb (entering_of g c) 0 (sym calls ∙ none)

  pub grains_fit : (self child : ℕ) → c < component_count g → entering ≡ 0 → self ≡ slice_index t.self c → child ≡ slice_index t.child c → grains + (self + child) ≤ time_of_roots g t
  grains_fit self child below none is_self is_child = omega (arith, so_far, is_self, is_child, root_fits g t c below (root none))

-- the summary of a run that stands for a world is the one that is due
pub summary_due : (functions : ℕ) (image : Image) (run : RunValue) (s : Findings) (total : Content) (rate : ℕ) (line : List ℕ) (z : Sizes) (w : World) → AreFindings image total s → SumsUp functions run s line → StandsFor w run → run.machine.sizes ≡ z
    → total ≡ logged_profile z w.log rate
    → (let due = profile_sources image (logged_profile z w.log rate) in line ≡ demo_summary functions (distinct_count (kept_calls z w.log)) due.graph due.flow due.shares (summary_of z w))
summary_due functions image run s total rate line z w are sums stands same written = grind arith
