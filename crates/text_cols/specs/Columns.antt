-- Columns and numbers of a printed line, as lists of bytes.
use Rattle.std.specs.Prelude.{ℕ, zero, suc, ◌+◌, ◌-◌, ◌*◌, ◌/◌, ◌%◌, ◌^◌, max, List, [], ◌∷◌, ◌++◌, length, replicate, nat_lt, if◌then◌else◌}
pub use Rattle.std.specs.Fmt.{decimal}

-- n spaces
abbrev pub spaces : ℕ → List ℕ
spaces n = replicate n 32

-- a text at the left of its column, which spaces fill
unfoldable pub left_of : List ℕ → ℕ → List ℕ
left_of text width = text ++ spaces (width - length text)

-- a text at the right of its column, with at least one space before it
unfoldable pub right_of : List ℕ → ℕ → List ℕ
right_of text width = spaces (max (width - length text) 1) ++ text

-- the character of a hexadecimal digit, in lower case
abbrev pub hex_digit_of : ℕ → ℕ
hex_digit_of d = if nat_lt d 10 then 48 + d else 87 + d

-- the lowest k hexadecimal digits of a number, the highest of them first
abbrev pub hex_of : ℕ → ℕ → List ℕ
hex_of zero n = []
hex_of (suc k) n = hex_digit_of (n / 16 ^ k % 16) ∷ hex_of k n

-- the eight hexadecimal digits of a number of 32 bits
unfoldable pub hex8_of : ℕ → List ℕ
hex8_of n = hex_of 8 n

-- a quotient in hundredths, rounded to the nearest, and a half up
abbrev pub rounded_quotient : ℕ → ℕ → ℕ
rounded_quotient num den = (200 * num + den) / (2 * den)

-- the two decimal digits of a number below 100
abbrev pub two_digits : ℕ → List ℕ
two_digits n = (48 + n / 10) ∷ (48 + n % 10) ∷ []

-- a number of hundredths: the whole ones, a point, and two digits
abbrev pub point_text : ℕ → List ℕ
point_text n = decimal (n / 100) ++ 46 ∷ two_digits (n % 100)

-- a quotient with two digits after the point
unfoldable pub hundredths_of : ℕ → ℕ → List ℕ
hundredths_of num den = point_text (rounded_quotient num den)
