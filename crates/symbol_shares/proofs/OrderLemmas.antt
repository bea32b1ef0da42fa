-- Symbols and histograms in order.
use Rattle.std.proofs.Common.{◌≡◌, ℕ, zero, suc, ◌+◌, ◌<◌, ◌≤◌, List, [], ◌∷◌, length, get_or, Some, slice_get, subst, arith, ⊎_elim}
use Rattle.std.specs.List.{AllByRecursion}
use Rattle.std.proofs.lemmas.Bool.{cases_lt}
use Rattle.gmon_data.specs.declared.hist.Hist.{Hist}
use Rattle.gmon_data.specs.Hists.{IsApart}
use Rattle.elf32_syms.specs.declared.image.Symbol.{Symbol}
use Rattle.elf32_syms.specs.Owners.{IsAscending}

-- each symbol ends at or below the addresses of those behind it
pub ends-below : (symbols : List Symbol) → IsAscending symbols → (k j : ℕ) (d : Symbol) → k < j → j < length symbols → (get_or symbols k d).end ≤ (get_or symbols j d).addr
ends-below symbols h k zero d less below = absurd (omega arith)
ends-below symbols h k (suc j) d less below =
    let one : j + 1 ≡ suc j = omega arith in
    let next = rw one at (h.apart j d (omega arith)) in
    let each = h.each j d (omega arith) in
    ⊎_elim
    (λ (before : k < j). let e = ends-below symbols h k j d before (omega arith) in
    let g : (get_or symbols k d).end ≤ (get_or symbols (suc j) d).addr = omega (arith, e, next, each) in g)
    (λ (here : j ≤ k). let same : k ≡ j = omega arith in rw same next)
    (cases_lt k j)

-- the symbols behind the first are in order
pub ascending-tail : (s : Symbol) (symbols : List Symbol) → IsAscending (s ∷ symbols) → IsAscending symbols
ascending-tail s symbols h = record {
  each = λ k d below. h.each (suc k) d (omega arith);
  apart = λ k d below. let one : suc k + 1 ≡ suc (k + 1) = omega arith in rw one at (h.apart (suc k) d (omega arith));
}

-- what holds of each histogram holds of the one at a place
pub hist-at : (P : Hist → Type 0) (hists : List Hist) (j : ℕ) (k : Hist) → AllByRecursion P hists → slice_get hists j ≡ Some k → P k
hist-at P [] j k a at = absurd cc
hist-at P (h ∷ hists) zero k a at = let same : h ≡ k = cc in subst P same a.0
hist-at P (h ∷ hists) (suc j) k a at = hist-at P hists j k a.1 at

-- each histogram ends at or below the begin of those behind it
pub hists-apart : (hists : List Hist) (i j : ℕ) (h k : Hist) → IsApart hists → i < j → slice_get hists i ≡ Some h → slice_get hists j ≡ Some k → h.high ≤ k.low
hists-apart [] i j h k apart less at at' = absurd cc
hists-apart (g ∷ hists) i zero h k apart less at at' = absurd (omega arith)
hists-apart (g ∷ hists) zero (suc j) h k apart less at at' = grind (arith, hist-at)
hists-apart (g ∷ hists) (suc i) (suc j) h k apart less at at' = hists-apart hists i j h k apart.1 (omega arith) at at'
