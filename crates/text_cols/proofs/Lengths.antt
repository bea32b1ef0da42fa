-- How many bytes a column or a number takes.
use Rattle.std.proofs.Common.{◌≡◌, ℕ, ◌+◌, ◌-◌, ◌*◌, ◌/◌, ◌^◌, ◌%◌, ◌<◌, ◌≤◌, max, ◌∷◌, ◌++◌, List, length, decimal, ap, refl, arith, length-append}
use Rattle.std.proofs.lemmas.List.{length-replicate}
use Rattle.std.proofs.lemmas.Fmt.{length-decimal-le_wide}
use Rattle.text_cols.specs.Columns.{left_of, right_of, spaces, hex8_of, hundredths_of, rounded_quotient, two_digits}

pub length-spaces : (n : ℕ) → length (spaces n) ≡ n
length-spaces n = length-replicate n 32

-- a column takes its width, or what the text needs
pub length-left_of : (text : List ℕ) (width : ℕ) → length (left_of text width) ≡ max width (length text)
unfolding left_of
length-left_of text width = grind (arith, length-append, length-spaces)

pub length-right_of : (text : List ℕ) (width : ℕ) → length (right_of text width) ≡ max width (length text + 1)
unfolding right_of
length-right_of text width = grind (arith, length-append, length-spaces)

pub length-hex8_of : (n : ℕ) → length (hex8_of n) ≡ 8
unfolding hex8_of
length-hex8_of n = refl

-- decimal digits of numbers of 16, 32, 64 and 128 bits
pub length-decimal_16 : (n : ℕ) → n < 2 ^ 16 → length (decimal n) ≤ 5
length-decimal_16 n h = length-decimal-le_wide 5 n (omega arith) (omega arith) (omega arith)

pub length-decimal_32 : (n : ℕ) → n < 2 ^ 32 → length (decimal n) ≤ 10
length-decimal_32 n h = length-decimal-le_wide 10 n (omega arith) (omega arith) (omega arith)

pub length-decimal_64 : (n : ℕ) → n < 2 ^ 64 → length (decimal n) ≤ 20
length-decimal_64 n h = length-decimal-le_wide 20 n (omega arith) (omega arith) (omega arith)

pub length-decimal_128 : (n : ℕ) → n < 2 ^ 128 → length (decimal n) ≤ 39
length-decimal_128 n h = length-decimal-le_wide 39 n (omega arith) (omega arith) (omega arith)

-- a point and two digits follow the whole ones
pub length-hundredths_of : (num den : ℕ) → length (hundredths_of num den) ≡ length (decimal (rounded_quotient num den / 100)) + 3
unfolding hundredths_of
length-hundredths_of num den = length-append (decimal (rounded_quotient num den / 100)) _

-- what stands at the right of its column: spaces, the whole ones, a point and two digits
pub right_of-hundredths : (num den width : ℕ) → right_of (hundredths_of num den) width ≡ spaces (max (width - (length (decimal (rounded_quotient num den / 100)) + 3)) 1) ++ (decimal (rounded_quotient num den / 100) ++ 46 ∷ two_digits (rounded_quotient num den % 100))
unfolding right_of hundredths_of
right_of-hundredths num den width = search (max, length-hundredths_of)

-- two numbers with a sign between them at the right of their column
pub right_of-pair : (first second : List ℕ) (sign width : ℕ) → right_of (first ++ sign ∷ second) width ≡ spaces (max (width - (length first + length second + 1)) 1) ++ (first ++ sign ∷ second)
unfolding right_of
right_of-pair first second sign width =
    ap (λ (n : ℕ). spaces (max (width - n) 1) ++ (first ++ sign ∷ second)) (length-pair first second sign)
  where
    length-pair : (a b : List ℕ) (x : ℕ) → length (a ++ x ∷ b) ≡ length a + length b + 1
    length-pair a b x = omega (arith, length-append a (x ∷ b))

-- what a quotient that meets the conditions of `hundredths` takes at most
pub length-hundredths_of-le : (num den : ℕ) → 200 * num + den < 2 ^ 128 → length (hundredths_of num den) ≤ 42
length-hundredths_of-le num den h = grind (arith, length-hundredths_of, length-decimal_128)

-- what the calls of a line ask of its room
pub ruleset lengths = (length-left_of, length-right_of, length-hex8_of, length-decimal_16, length-decimal_32, length-decimal_64, length-decimal_128, length-hundredths_of-le)
