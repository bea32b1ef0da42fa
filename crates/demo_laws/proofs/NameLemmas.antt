-- The names of symbols, as they stand in the strings.
use Rattle.std.proofs.Common.{◌≡◌, ℕ, ◌+◌, Bool, true, false, not, ◌||◌, cond, nat_lt, List, [], ◌∷◌, ◌++◌, length, None, refl, sym, ap, ◌∙◌, arith, append_assoc, length-append}
use Rattle.std.specs.List.{AllByRecursion, find, filter, flat_map, list_any, before_first}
use Rattle.std.proofs.lemmas.Bool.Decides.{nat_tests}
use Rattle.std.proofs.lemmas.List.{drop_at, take_all}
use Rattle.std.proofs.lemmas.List.Sums.{take_while-cons}
use Rattle.elf32_syms.specs.Names.{is_zero, name_at, name_ends}
use Rattle.elf32_syms.specs.Symbols.{has_endless_name, has_name}
use Rattle.demo_elf.specs.Elf.{string_text}
use Rattle.demo_laws.specs.Programs.{IsName, IsNamed}
use Rattle.demo_laws.proofs.Reading.{Entry}
use Rattle.demo_laws.proofs.SymbolLemmas.{entry_of, entries_from}

or_true : (b : Bool) → (b || true) ≡ true
or_true true = refl
or_true false = refl

zero_inside : (name more : List ℕ) → list_any is_zero ((name ++ 0 ∷ []) ++ more) ≡ true
zero_inside [] more = refl
zero_inside (c ∷ name) more = ap (λ (b : Bool). is_zero c || b) (zero_inside name more) ∙ or_true (is_zero c)

before_zero : (name more : List ℕ) → AllByRecursion (λ c. is_zero c ≡ false) name → before_first is_zero ((name ++ 0 ∷ []) ++ more) ≡ name
before_zero [] more whole = refl
before_zero (c ∷ name) more whole =
    take_while-cons (λ (b : ℕ). not (is_zero b)) c ((name ++ 0 ∷ []) ++ more)
    ∙ ap (λ (b : Bool). cond (not b) (c ∷ before_first is_zero ((name ++ 0 ∷ []) ++ more)) []) whole.0
    ∙ ap (λ (xs : List ℕ). c ∷ xs) (before_zero name more whole.1)

module _ (front name more : List ℕ) (at : ℕ) (long : length front ≡ at) where
  pub name_has_end : name_ends (front ++ ((name ++ 0 ∷ []) ++ more)) at ≡ true
  unfolding name_ends
  name_has_end = ap (list_any is_zero) (drop_at front ((name ++ 0 ∷ []) ++ more) at long) ∙ zero_inside name more

  pub name_read : IsName name → name_at (front ++ ((name ++ 0 ∷ []) ++ more)) at ≡ name
  unfolding name_at
  name_read is = search (drop_at, before_zero, take_all)

-- one name further on
pub regroup : (front : List ℕ) (s : List ℕ × ℕ) (symbols : List (List ℕ × ℕ)) → front ++ flat_map string_text (s ∷ symbols) ≡ (front ++ string_text s) ++ flat_map string_text symbols
regroup front s symbols = sym (append_assoc front (string_text s) (flat_map string_text symbols))

pub longer : (front : List ℕ) (s : List ℕ × ℕ) (at : ℕ) → length front ≡ at → length (front ++ string_text s) ≡ at + (length s.0 + 1)
longer front s at long = omega (arith, length-append front (string_text s), length-append s.0 (0 ∷ []))

-- every name has an end
pub names_end : (front : List ℕ) (number at : ℕ) (symbols : List (List ℕ × ℕ)) → length front ≡ at
    → find (has_endless_name (front ++ flat_map string_text symbols)) (entries_from number at symbols) ≡ None
unfolding entry_of
names_end front number at [] long = refl
names_end front number at (s ∷ symbols) long =
    rw (name_has_end front s.0 (flat_map string_text symbols) at long)
    (ap (λ (strings : List ℕ). find (has_endless_name strings) (entries_from (number + 1) (at + (length s.0 + 1)) symbols)) (regroup front s symbols)
    ∙ names_end (front ++ string_text s) (number + 1) (at + (length s.0 + 1)) symbols (longer front s at long))

-- and none is empty
pub names_some : (front : List ℕ) (number at : ℕ) (symbols : List (List ℕ × ℕ)) → length front ≡ at → AllByRecursion IsNamed symbols
    → filter (has_name (front ++ flat_map string_text symbols)) (entries_from number at symbols) ≡ entries_from number at symbols
unfolding entry_of
names_some front number at [] long named = refl
names_some front number at (s ∷ symbols) long named =
    let first = named.0 in
    let positive : nat_lt 0 (length s.0) ≡ true = let n = first.some in grind (arith, nat_tests) in
    rw (name_read front s.0 (flat_map string_text symbols) at long first, positive)
    (ap (λ (es : List Entry). entry_of number at s.1 ∷ es)
    (ap (λ (strings : List ℕ). filter (has_name strings) (entries_from (number + 1) (at + (length s.0 + 1)) symbols)) (regroup front s symbols)
    ∙ names_some (front ++ string_text s) (number + 1) (at + (length s.0 + 1)) symbols (longer front s at long) named.1))
