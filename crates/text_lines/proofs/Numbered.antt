-- Items with their numbers.
use Rattle.std.proofs.Common.{◌≡◌, ℕ, ◌<◌, List, length, get_or, ap, arith}
use Rattle.std.specs.List.{enumerate_from}
use Rattle.std.proofs.lemmas.List.FromFn.{length-enumerate_from, get_or-enumerate_from}
use Rattle.std.proofs.lemmas.List.{get_or_default}

at_own_number : (xs : List ℕ) (i : ℕ) → i < length xs → (i, get_or xs i 0) ≡ get_or (enumerate_from 0 xs) i (i, get_or xs i 0)
at_own_number xs i lt = grind (arith, get_or-enumerate_from, get_or_default)

-- a counter with its number is the item at that number
pub numbered : (xs items : List ℕ) (i : ℕ) → items ≡ xs → i < length items → (i, get_or items i 0) ≡ get_or (enumerate_from 0 xs) i (i, get_or items i 0)
numbered xs items i same lt = grind (arith, at_own_number)

pub numbered_in_range : (xs items : List ℕ) (i : ℕ) → items ≡ xs → i < length items → i < length (enumerate_from 0 xs)
numbered_in_range xs items i same lt = omega (arith, ap length same, length-enumerate_from 0 xs)
