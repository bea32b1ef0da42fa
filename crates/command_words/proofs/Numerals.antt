-- What `parse` reads of a number.
use Rattle.std.proofs.Common.{◌≡◌, ℕ, ◌^◌, ◌<◌, ◌≤◌, Bool, true, false, cond, List, [], ◌∷◌, length, None, refl, arith}
use Rattle.std.specs.Char.{is_ascii_digit, digit_value}
use Rattle.std.specs.List.{list_all}
use Rattle.std.specs.Str.Parse.{AllDigits, IsNumeral, digits_value, without_leading_plus}
use Rattle.std.proofs.lemmas.Bool.{and_parts, false≢true}
use Rattle.std.proofs.lemmas.Bool.Decides.{nat_tests}
use Rattle.command_words.specs.Numbers.{is_number, in_limits, number_within}

digit_below_ten : (c : ℕ) → is_ascii_digit c ≡ true → digit_value c < 10
digit_below_ten c digit = grind (arith, nat_tests)

all_digits : (word : List ℕ) → list_all is_ascii_digit word ≡ true → AllDigits 10 word
all_digits [] all = tt
all_digits (c ∷ cs) all =
    let parts = and_parts (is_ascii_digit c) (list_all is_ascii_digit cs) all in
    (digit_below_ten c parts.0, all_digits cs parts.1)

-- digits have no plus before them
without_plus : (word : List ℕ) → list_all is_ascii_digit word ≡ true → without_leading_plus word ≡ word
without_plus [] all = refl
without_plus (c ∷ cs) all = grind arith

pub record IsPlain (word : List ℕ) : Type 0 where
  pub some : 0 < length word
  pub digits : list_all is_ascii_digit word ≡ true

kept : (b c : Bool) → cond b false c ≡ true → c ≡ true
kept true c e = absurd (false≢true e)
kept false c e = e

plain : (word : List ℕ) → is_number word ≡ true → IsPlain word
plain word number = grind arith

-- what `parse` refuses is too large
pub too_large : (word : List ℕ) → is_number word ≡ true
    → (IsNumeral 10 (without_leading_plus word) × (digits_value 10 (without_leading_plus word) < 2 ^ 32) → ⊥) → 2 ^ 32 ≤ digits_value 10 word
too_large word number refused = grind (arith, without_plus, all_digits)

outside_limits : (low high n : ℕ) → high < n → in_limits low high n ≡ None
outside_limits low high n above = grind (arith, nat_tests)

pub not_within : (word : List ℕ) (low high : ℕ) → is_number word ≡ true → high < 2 ^ 32
    → (IsNumeral 10 (without_leading_plus word) × (digits_value 10 (without_leading_plus word) < 2 ^ 32) → ⊥) → number_within low high word ≡ None
not_within word low high number fits refused = grind (arith, outside_limits, too_large)
