-- What the table as a whole says.
use Rattle.std.proofs.Common.{◌≡◌, ℕ, zero, suc, ◌<◌, Bool, true, not, ◌&&◌, ◌==◌, List, [], ◌∷◌, Option, Some, None, bit_and, length, get_or, refl, arith, All, AllPairs, Contains, MatchOption}
use Rattle.std.specs.List.{list_all}
use Rattle.std.proofs.lemmas.Nat.{and_assoc, and_comm}
use Rattle.std.proofs.lemmas.List.Sums.{AllPass-from_list_all}
use Rattle.std.proofs.lemmas.Bool.{and_parts, eqb-false}
use Rattle.gp_base.proofs.Searching.{find_none, find_some}
use Rattle.rv_decode.specs.Table.{Row, table, row_of, Matches}

-- two rows differ in a bit that both masks have
abbrev apart : Row → Row → Bool
apart r s = not (bit_and r.bits s.mask == bit_and s.bits r.mask)

abbrev all_apart : List Row → Bool
all_apart [] = true
all_apart (r ∷ rs) = list_all (apart r) rs && all_apart rs

table_apart : all_apart table ≡ true
unfolding table
table_apart = refl

apart_at : (rs : List Row) → all_apart rs ≡ true → (i j : ℕ) (d : Row) → i < j → j < length rs → apart (get_or rs i d) (get_or rs j d) ≡ true
apart_at [] h i j d p q = absurd (omega arith)
apart_at (r ∷ rs) h zero zero d p q = absurd (omega arith)
apart_at (r ∷ rs) h zero (suc j) d p q =
    AllPass-from_list_all (apart r) rs (and_parts (list_all (apart r) rs) (all_apart rs) h).0 j d (omega arith)
apart_at (r ∷ rs) h (suc i) zero d p q = absurd (omega arith)
apart_at (r ∷ rs) h (suc i) (suc j) d p q = grind (arith, apart_at rs)

not_both : (w : ℕ) (r s : Row) → apart r s ≡ true → ¬ (Matches w r × Matches w s)
not_both w r s h m = grind (arith, and_assoc, and_comm)

-- no word matches two rows
pub one_row : (w : ℕ) → AllPairs (λ r s. ¬ (Matches w r × Matches w s)) table
one_row w i j d p q = not_both w (get_or table i d) (get_or table j d) (apart_at table table_apart i j d p q)

-- what a search tells
tells : (w : ℕ) (o : Option Row) → row_of w ≡ o → MatchOption o (All (λ r. ¬ (Matches w r)) table) (λ r. Contains table r × Matches w r)
unfolding row_of
tells w None e = λ k d l. eqb-false _ _ (find_none (λ r. bit_and w r.mask == r.bits) table e k d l)
tells w (Some r) e = grind (arith, find_some)

-- the row of a word is one that it matches, and there is none only where it matches none
pub row_tells : (w : ℕ) → MatchOption (row_of w) (All (λ r. ¬ (Matches w r)) table) (λ r. Contains table r × Matches w r)
row_tells w = tells w (row_of w) refl
