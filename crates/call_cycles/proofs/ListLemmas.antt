-- Lists of a function of the numbers below an end, and slices that are put back.
use Rattle.std.proofs.Common.{◌≡◌, ◌<◌, ℕ, List, ◌++◌, length, take, drop, ap, ◌∙◌, arith, append-nil}
use Rattle.std.specs.Prelude.{◌==◌, slice_index}
use Rattle.std.proofs.lemmas.List.{take_all, drop_all}
use Rattle.std.proofs.lemmas.List.FromFn.{length-map-range_with_len, get_or-map-range_with_len}
use Rattle.call_cycles.specs.Sums.{list_of}

pub list_long : (n : ℕ) (f : ℕ → ℕ) (xs : List ℕ) → xs ≡ list_of n f → length xs ≡ n
list_long n f xs is = ap length is ∙ length-map-range_with_len f 0 n

pub list_at : (n : ℕ) (f : ℕ → ℕ) (xs : List ℕ) → xs ≡ list_of n f → (i : ℕ) → i < n → slice_index xs i ≡ f i
list_at n f xs is i below = ap (λ (ys : List ℕ). slice_index ys i) is ∙ get_or-map-range_with_len f 0 n i i 0 below (omega arith)

-- a slice of a whole list is put back
pub whole_back : {X : Type 0} (xs ys : List X) (n : ℕ) → length xs ≡ length ys → n ≡ length xs → take n (xs ++ drop (length xs) ys) ≡ xs
whole_back {X} xs ys n same all = grind (arith, drop_all, append-nil, take_all)

-- two tests of equality that mean the same
pub same_test : (a b x y : ℕ) → (a ≡ b → x ≡ y) → (x ≡ y → a ≡ b) → (a == b) ≡ (x == y)
same_test a b x y to back = grind arith
