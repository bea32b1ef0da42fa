-- The executions at an address: adding some is adding them to its own.
use Rattle.std.proofs.Common.{◌≡◌, ℕ, ◌+◌, Bool, nat_eq, cond, List, [], ◌∷◌, Some, None, unwrap_or, filter_map, refl, ap, if◌then◌else◌, arith}
use Rattle.std.proofs.lemmas.List.Sums.{sum_by-cons}
use Rattle.gmon_data.specs.Tally.{tally, sum_at}
use Rattle.gmon_data.specs.Content.{WideRec, WideHist, WideArc, WideBlock, Content, block_in, content_of, runs_at, with_hist, with_records}
use Rattle.gmon_data.proofs.RecordLemmas.{content-more}

abbrev more_at : ℕ → ℕ → ℕ → ℕ
more_at k q n = if nat_eq k q then n else 0

pub runs-tally : (k q n : ℕ) (es : List (ℕ × ℕ)) → runs_at k (tally nat_eq q n es) ≡ runs_at k es + more_at k q n
runs-tally k q n [] = by (nat_eq k q)
  where
    by : (b : Bool) → unwrap_or (cond b (Some n) None) 0 ≡ 0 + (if b then n else 0)
    by b = grind arith
runs-tally k q n (e ∷ es) = by (nat_eq q e.0) refl (runs-tally k q n es)
  where
    by : (b : Bool) → nat_eq q e.0 ≡ b → runs_at k (tally nat_eq q n es) ≡ runs_at k es + more_at k q n → runs_at k (if b then (e.0, e.1 + n) ∷ es else e ∷ tally nat_eq q n es) ≡ runs_at k (e ∷ es) + more_at k q n
    by b is others = grind arith

runs_with : (k : ℕ) (recs : List WideRec) (c : Content) → runs_at k (with_records recs c).blocks ≡ runs_at k c.blocks + sum_at nat_eq k (filter_map block_in recs)
runs_with k [] c = omega arith
runs_with k (WideHist h u ∷ recs) c = grind (arith, runs_with k recs (with_hist h u c))
runs_with k (WideArc from to count ∷ recs) c = runs_with k recs _
runs_with k (WideBlock addr count ∷ recs) c =
    search (arith, nat_eq, sum_by-cons, filter_map, runs-tally, runs_with k recs (record c { blocks = tally nat_eq addr count c.blocks }))

-- those of records are all that they have there
pub runs_of_records : (recs : List WideRec) (k : ℕ) → runs_at k (content_of recs).blocks ≡ sum_at nat_eq k (filter_map block_in recs)
unfolding content_of
runs_of_records recs k =
    let all : runs_at k (content_of recs).blocks ≡ runs_at k (with_records recs (content_of [])).blocks = ap (λ (c : Content). runs_at k c.blocks) (content-more [] recs) in
    omega (arith, all, runs_with k recs (content_of []))
