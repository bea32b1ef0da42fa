-- Numbers as lists of bytes, the lowest byte first.
use Rattle.std.specs.Prelude.{ℕ, zero, suc, ◌+◌, ◌*◌, ◌/◌, ◌%◌, ◌<◌, List, [], ◌∷◌, ◌++◌, length, take, drop, slice_index}

-- the number that bytes stand for: the sum of byte j times 256 ^ j
abbrev pub value_of : List ℕ → ℕ
value_of [] = 0
value_of (b ∷ bs) = b + 256 * value_of bs

-- the lowest k bytes of a number
abbrev pub le : ℕ → ℕ → List ℕ
le n zero = []
le n (suc k) = n % 256 ∷ le (n / 256) k

-- each item is a byte
abbrev pub IsBytes : List ℕ → Type 0
IsBytes bs = (i : ℕ) → slice_index bs i < 256

-- the numbers in the two and in the four bytes at an offset
abbrev pub half_at : List ℕ → ℕ → ℕ
half_at bs at = value_of (take 2 (drop at bs))

abbrev pub word_at : List ℕ → ℕ → ℕ
word_at bs at = value_of (take 4 (drop at bs))

-- the first n items of a text in which each takes w bytes
abbrev pub items_of_text : {X : Type 0} → ℕ → (List ℕ → X) → ℕ → List ℕ → List X
items_of_text w item zero bs = []
items_of_text w item (suc n) bs = item (take w bs) ∷ items_of_text w item n (drop w bs)

-- a list with `piece` in place of as many items from `at` on
abbrev pub with_piece_at : {X : Type 0} → ℕ → List X → List X → List X
with_piece_at at piece xs = take at xs ++ (piece ++ drop (at + length piece) xs)
