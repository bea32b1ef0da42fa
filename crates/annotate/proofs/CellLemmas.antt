-- The cells of a symbol follow one another, from its address to its end.
use Rattle.std.proofs.Common.{◌≡◌, ℕ, zero, suc, ◌+◌, ◌*◌, ◌/◌, ◌<◌, ◌≤◌, max, min, List, [], ◌∷◌, length, map, get_or, refl, sym, ◌∙◌, arith}
use Rattle.std.specs.List.{range_with_len, sum_by}
use Rattle.std.proofs.lemmas.List.FromFn.{get_or-map-range_with_len, length-map-range_with_len, sum_by-map-range_with_len_more}
use Rattle.std.proofs.lemmas.List.Sums.{sum_by-cons, sum-map}
use Rattle.gp_base.specs.declared.records.Span.{Span}
use Rattle.elf32_syms.specs.declared.image.Symbol.{Symbol}
use Rattle.elf32_syms.specs.Owners.{IsAscending}
use Rattle.gmon_data.specs.declared.hist.Hist.{Hist}
use Rattle.symbol_shares.specs.Ranges.{grains_of_range}
use Rattle.symbol_shares.specs.Shares.{attributed_of, share_of, shares_of}
use Rattle.symbol_shares.proofs.OrderLemmas.{ascending-tail}
use Rattle.symbol_shares.proofs.RangeLemmas.{ranges-follow}
use Rattle.annotate.specs.Cells.{cells_of, part_in, word_count}

-- where the first m cells end
abbrev border : Symbol → ℕ → ℕ
border s m = min s.end (max s.addr (4 * (s.addr / 4 + m)))

module _ (hists : List Hist) where
  abbrev grains : Span → ℕ
  grains cell = grains_of_range hists cell.low cell.high

  no-grains : (a : ℕ) → grains_of_range hists a a ≡ 0
  no-grains a = let twice = ranges-follow hists a a a (omega arith) (omega arith) in omega (arith, twice)

  front-cells : (s : Symbol) (m : ℕ) → s.addr ≤ s.end → m ≤ word_count s → sum_by grains (map (part_in s) (range_with_len (s.addr / 4) m)) ≡ grains_of_range hists s.addr (border s m)
  front-cells s zero order inside = grind (arith, no-grains)
  front-cells s (suc m) order inside =
      let one : m + 1 ≡ suc m = omega arith in
      let front = front-cells s m order (omega (arith, inside)) in
      let low : max s.addr (4 * (s.addr / 4 + m)) ≡ border s m = omega (arith, order, inside) in
      let high : min s.end (4 * (s.addr / 4 + m) + 4) ≡ border s (suc m) = omega (arith, order, inside) in
      let cell : grains (part_in s (s.addr / 4 + m)) ≡ grains_of_range hists (border s m) (border s (suc m)) = λ i. grains_of_range hists (low i) (high i) in
      let more = rw one at (sum_by-map-range_with_len_more grains (part_in s) (s.addr / 4) m (s.addr / 4 + m) refl) in
      let from : s.addr ≤ border s m = omega (arith, order) in
      let to : border s m ≤ border s (suc m) = omega arith in
      omega (arith, front, cell, more, ranges-follow hists s.addr (border s m) (border s (suc m)) from to)

  pub symbol-cells : (s : Symbol) → s.addr ≤ s.end → sum_by grains (cells_of s) ≡ share_of hists s
  symbol-cells s order = grind (arith, front-cells)

  all-cells : (symbols : List Symbol) → IsAscending symbols → sum_by (λ (s : Symbol). sum_by grains (cells_of s)) symbols ≡ sum_by (share_of hists) symbols
  all-cells [] ascending = refl
  all-cells (s ∷ symbols) ascending =
      let each = ascending.each 0 s (omega arith) in
      let first = symbol-cells s (let le : s.addr ≤ s.end = omega (arith, each) in le) in
      let rest = all-cells symbols (ascending-tail s symbols ascending) in
      omega (arith, first, rest, sum_by-cons (λ (s : Symbol). sum_by grains (cells_of s)) s symbols, sum_by-cons (share_of hists) s symbols)

  pub listing-cells : (symbols : List Symbol) → IsAscending symbols → sum_by (λ (s : Symbol). sum_by grains (cells_of s)) symbols ≡ attributed_of (shares_of hists symbols)
  listing-cells symbols ascending = all-cells symbols ascending ∙ sym (sum-map (share_of hists) symbols)

-- ---- one of the cells

pub cell_inside : (s : Symbol) (k : ℕ) → k < word_count s → k < length (cells_of s)
cell_inside s k below = omega (arith, below, length-map-range_with_len (part_in s) (s.addr / 4) (word_count s))

pub cell_at : (s : Symbol) (k : ℕ) (cell : Span) → k < word_count s → cell ≡ part_in s (s.addr / 4 + k) → cell ≡ get_or (cells_of s) k cell
cell_at s k cell below is = is ∙ sym (get_or-map-range_with_len (part_in s) (s.addr / 4) (word_count s) k (s.addr / 4 + k) cell below refl)

pub cells_end : (s : Symbol) (k : ℕ) → word_count s ≤ k → length (cells_of s) ≤ k
cells_end s k le = omega (arith, le, length-map-range_with_len (part_in s) (s.addr / 4) (word_count s))
