-- Sums, greatest values and lists of a function over the numbers below an end.
use Rattle.std.specs.Prelude.{ℕ, zero, suc, ◌+◌, max, Bool, true, false, List, map}
use Rattle.std.specs.List.{range_with_len}

abbrev pub sum_below : ℕ → (ℕ → ℕ) → ℕ
sum_below zero f = 0
sum_below (suc n) f = sum_below n f + f n

-- 0 where there is none
abbrev pub max_below : ℕ → (ℕ → ℕ) → ℕ
max_below zero f = 0
max_below (suc n) f = max (max_below n f) (f n)

-- x where b holds, else 0
abbrev pub when : Bool → ℕ → ℕ
when true x = x
when false x = 0

-- the numbers below an end, in ascending order
abbrev pub numbers_below : ℕ → List ℕ
numbers_below n = range_with_len 0 n

-- f of each of them
abbrev pub list_of : ℕ → (ℕ → ℕ) → List ℕ
list_of n f = map f (numbers_below n)
