-- Calls between functions, one arc of the profile after another.
use Rattle.std.proofs.Common.{length-set, subst, ◌≡◌, ◌≢◌, ◌<◌, ◌≤◌, ℕ, ◌+◌, ◌&&◌, Bool, true, false, List, [], ◌∷◌, ◌++◌, length, take, get_or, Some, ap, sym, ◌∙◌, ⊎_elim, arith}
use Rattle.std.specs.Prelude.{◌==◌, replicate, slice_index, slice_set}
use Rattle.std.specs.List.{All}
use Rattle.std.proofs.lemmas.Bool.{cases_eq, cases_lt}
use Rattle.std.proofs.lemmas.Bool.Decides.{nat_tests}
use Rattle.std.proofs.lemmas.Grind.{get_or-set_at}
use Rattle.std.proofs.lemmas.List.{get_or-set_other, get_or-replicate, get_or_past, length-replicate}
use Rattle.std.proofs.lemmas.List.Quantifiers.{position-Some}
use Rattle.std.proofs.lemmas.List.Elements.{All-nil, All-push}
use Rattle.std.proofs.lemmas.List.FromFn.{fill_by_all}
use Rattle.std.proofs.lemmas.List.Sums.{sum_by_more, sum_by_more_le_part}
use Rattle.elf32_syms.specs.declared.image.Symbol.{Symbol}
use Rattle.elf32_syms.specs.Owners.{owns, owner_of}
use Rattle.gmon_data.specs.Tally.{tally_total}
use Rattle.call_cycles.specs.declared.graphs.FunArc.{FunArc}
use Rattle.call_cycles.specs.Sums.{when, list_of}
use Rattle.call_cycles.specs.Arcs.{IsArcBelow}
use Rattle.call_cycles.specs.Calls.{HaveCalls, arcs_among, calls_of, calls_between, calls_in, function_arcs}
use Rattle.call_cycles.proofs.ListLemmas.{list_at, list_long}
use Rattle.call_cycles.proofs.MergeLemmas.{arcs_same, calls_in_more, calls_in_none}

pub owner_low : (symbols : List Symbol) (address f : ℕ) → owner_of symbols address ≡ Some f → f < length symbols
owner_low symbols address f is = (position-Some (owns address) symbols f nobody is).0
  where
    nobody : Symbol
    nobody = record { addr = 0; end = 0; name = [] }

-- ---- the calls of one arc

module _ (symbols : List Symbol) (from to count : ℕ) where
  -- the calls of an arc whose owners are known
  module _ (a b : ℕ) (caller : owner_of symbols from ≡ Some a) (callee : owner_of symbols to ≡ Some b) where
    pub owned_calls : (f g : ℕ) → calls_of symbols ((from, to), count) f g ≡ when (a == f && b == g) count
    owned_calls f g = grind arith

-- ---- what was found

module _ (n : ℕ) (calls more : ℕ → ℕ → ℕ) (arcs : List FunArc) (selves : List ℕ) (have : HaveCalls n calls arcs selves) where
  -- calls from function a to function b
  module _ (a b count : ℕ) (is : (f g : ℕ) → more f g ≡ when (a == f && b == g) count) where
    pub self_calls_more : a ≡ b → a < n → (now : ℕ) → now ≡ slice_index selves a + count → HaveCalls n (λ f g. calls f g + more f g) arcs (slice_set selves a now)
    self_calls_more same low now sum = record {
      between = λ f g apart.
          let before = have.between f g apart in
          let other : (a == f && b == g) ≡ false = by_other f g apart in
          let none : more f g ≡ 0 = is f g ∙ ap (λ (t : Bool). when t count) other in
          omega arith;
      own = fill_by_all (λ f. calls f f + more f f) (slice_set selves a now) n 0 (length-set selves a now ∙ long)
          (λ k below.
          let was = list_at n (λ f. calls f f) selves have.own k below in
          let new = is k k in
          ⊎_elim
          (λ (at : k ≡ a).
          let here : (a == k && b == k) ≡ true = grind (arith, nat_tests) in
          let all : when (a == k && b == k) count ≡ count = ap (λ (t : Bool). when t count) here in
          let old : slice_index selves k ≡ slice_index selves a = ap (slice_index selves) at in
          let got : get_or (slice_set selves a now) k 0 ≡ now = get_or-set_at selves a k now 0 at (omega (arith, long)) in
          omega arith)
          (λ (apart : k ≢ a).
          let elsewhere : (a == k && b == k) ≡ false = grind (arith, nat_tests) in
          let none : when (a == k && b == k) count ≡ 0 = ap (λ (t : Bool). when t count) elsewhere in
          let got : get_or (slice_set selves a now) k 0 ≡ get_or selves k 0 = get_or-set_other selves a k now 0 apart in
          omega arith)
          (cases_eq k a));
      below = have.below;
    }
      where
        long : length selves ≡ n
        long = list_long n (λ f. calls f f) selves have.own

        by_other : (f g : ℕ) → f ≢ g → (a == f && b == g) ≡ false
        by_other f g apart = grind (arith, nat_tests)

    pub arc_more : a ≢ b → a < n → b < n → 0 < count → HaveCalls n (λ f g. calls f g + more f g) (arcs ++ record { caller = a; callee = b; count = count } ∷ []) selves
    arc_more apart low_a low_b some = record {
      between = λ f g other.
          let before = have.between f g other in
          let new = is f g in
          let all = calls_in_more arcs (record { caller = a; callee = b; count = count }) f g in
          omega arith;
      own = have.own ∙ (λ i. list_of n (λ f. same f i));
      below = All-push (IsArcBelow n) arcs (record { caller = a; callee = b; count = count }) have.below (record { caller = low_a; callee = low_b; called = some; apart = apart });
    }
      where
        same : (f : ℕ) → calls f f ≡ calls f f + more f f
        same f = grind arith

-- ---- the calls of a profile's arcs

pub no_calls : (symbols : List Symbol) (n : ℕ) (arcs : List FunArc) (selves : List ℕ) → arcs ≡ [] → selves ≡ replicate n 0 → HaveCalls n (calls_between [] symbols) arcs selves
unfolding calls_between
no_calls symbols n arcs selves empty zeros = subst (λ (xs : List FunArc). HaveCalls n (λ f g. 0) xs selves) (sym empty) (record {
  between = λ f g apart. calls_in_none f g;
  own = fill_by_all (λ f. 0) selves n 0 (ap length zeros ∙ length-replicate n 0) (λ k below. ap (λ (xs : List ℕ). get_or xs k 0) zeros ∙ get_or-replicate n k 0 0 below);
  below = All-nil (IsArcBelow n);
})

pub selves_long : (n : ℕ) (calls : ℕ → ℕ → ℕ) (arcs : List FunArc) (selves : List ℕ) → HaveCalls n calls arcs selves → length selves ≡ n
selves_long n calls arcs selves have = list_long n (λ f. calls f f) selves have.own

module _ (arcs : List ((ℕ × ℕ) × ℕ)) (symbols : List Symbol) (i : ℕ) (below : i < length arcs) (entry : (ℕ × ℕ) × ℕ) (at : get_or arcs i ((0, 0), 0) ≡ entry) where
  pub calls_more : (f g : ℕ) → calls_between (take (i + 1) arcs) symbols f g ≡ calls_between (take i arcs) symbols f g + calls_of symbols entry f g
  unfolding calls_between
  calls_more f g = grind (arith, sum_by_more)

  pub calls_fit : (f g : ℕ) → calls_between (take i arcs) symbols f g + entry.1 ≤ tally_total arcs
  unfolding calls_between
  calls_fit f g = grind (arith, sum_by_more_le_part)

  pub total_more : tally_total (take (i + 1) arcs) ≡ tally_total (take i arcs) + entry.1
  total_more = sum_by_more (λ (e : (ℕ × ℕ) × ℕ). e.1) arcs i ((0, 0), 0) below ∙ ap (λ (e : (ℕ × ℕ) × ℕ). tally_total (take i arcs) + e.1) at

  -- with this arc's calls
  pub found_more : (n : ℕ) (between : List FunArc) (selves : List ℕ) → HaveCalls n (λ f g. calls_between (take i arcs) symbols f g + calls_of symbols entry f g) between selves
      → HaveCalls n (calls_between (take (i + 1) arcs) symbols) between selves
  found_more n between selves = subst (λ (calls : ℕ → ℕ → ℕ). HaveCalls n calls between selves) (λ j. λ f g. sym (calls_more f g) j)

  pub selves_fit : (n : ℕ) (between : List FunArc) (selves : List ℕ) → HaveCalls n (calls_between (take i arcs) symbols) between selves → (f : ℕ) → slice_index selves f + entry.1 ≤ tally_total arcs
  selves_fit n between selves have f =
      ⊎_elim
      (λ (low : f < n).
      let at = list_at n (λ k. calls_between (take i arcs) symbols k k) selves have.own f low in
      let fit = calls_fit f f in
      omega arith)
      (λ (high : n ≤ f).
      let long = selves_long n (calls_between (take i arcs) symbols) between selves have in
      let none : slice_index selves f ≡ 0 = get_or_past selves f 0 (omega arith) in
      let fit = calls_fit f f in
      omega arith)
      (cases_lt f n)

-- ---- the parts of a profile's graph

module _ (es : List ((ℕ × ℕ) × ℕ)) (symbols : List Symbol) (between : List FunArc) (selves : List ℕ) (have : HaveCalls (length symbols) (calls_between es symbols) between selves) where
  pub made_function_arcs : (arcs : List FunArc) → ((n : ℕ) → All (IsArcBelow n) between → arcs ≡ arcs_among n (calls_in between)) → arcs ≡ function_arcs es symbols
  made_function_arcs arcs made = made (length symbols) have.below ∙ arcs_same (length symbols) (calls_in between) (calls_between es symbols) have.between
