-- The symbol of an address, known by its index.
use Rattle.std.proofs.Common.{◌≡◌, ◌<◌, ◌≤◌, ℕ, ◌+◌, Bool, true, ◌&&◌, nat_lt, nat_le, List, length, get_or, Some, refl, ap, sym, ◌∙◌, arith}
use Rattle.std.specs.Prelude.{IsTrue}
use Rattle.std.specs.List.{position_or_len}
use Rattle.std.specs.List.Sorted.{IsNonDecreasingBy}
use Rattle.std.proofs.lemmas.Bool.{and_parts}
use Rattle.std.proofs.lemmas.Bool.Decides.{nat_tests}
use Rattle.std.proofs.lemmas.List.Quantifiers.{position-Some}
use Rattle.std.proofs.lemmas.List.Sums.{position_or_len_is}
use Rattle.std.proofs.lemmas.List.Sorted.{IsNonDecreasingBy-from_all_adjacent}
use Rattle.elf32_syms.specs.declared.image.Symbol.{Symbol}
use Rattle.elf32_syms.specs.Owners.{IsAscending, owns, owner_of}

module _ (symbols : List Symbol) (address i : ℕ) where
  pub owner_owns : (d : Symbol) → owner_of symbols address ≡ Some i → (i < length symbols) × (owns address (get_or symbols i d) ≡ true)
  owner_owns d is = let found = position-Some (owns address) symbols i d is in (found.0, found.1)

  module _ (ordered : IsAscending symbols) where
    addresses_rise : IsNonDecreasingBy (λ (s : Symbol). s.addr) symbols
    addresses_rise =
        IsNonDecreasingBy-from_all_adjacent (λ (s : Symbol). s.addr) symbols
        (λ k d below. let a = ordered.apart k d below in let e = ordered.each k d (omega arith) in omega arith)

    -- the symbols before it end at its address or before
    pub owner_at : (d : Symbol) → i < length symbols → owns address (get_or symbols i d) ≡ true → owner_of symbols address ≡ Some i
    owner_at d below here =
        let place : position_or_len (owns address) symbols ≡ i = position_or_len_is (owns address) symbols i d (omega arith)
        (λ k less.
        let a = ordered.apart k d (omega arith) in
        let up = addresses_rise (k + 1) i d (omega arith) below in
        grind (arith, nat_tests))
        (λ _. here) in
        let inside : nat_lt i (length symbols) ≡ true = grind (arith, nat_tests) in
        rw (place, inside) refl

    module _ (s : Symbol) (below : i < length symbols) (at : s ≡ get_or symbols i s) where
      found : owner_of symbols address ≡ Some i → owns address s ≡ true
      found is = ap (owns address) at ∙ (owner_owns s is).1

      -- an address from there on is tested at the end
      pub owner_by_end : s.addr ≤ address → (IsTrue (nat_lt address s.end) → owner_of symbols address ≡ Some i) × (owner_of symbols address ≡ Some i → IsTrue (nat_lt address s.end))
      owner_by_end from = (
        λ inside. let here : owns address s ≡ true = grind (arith, nat_tests) in owner_at s below (ap (owns address) (sym at) ∙ here),
        λ is. let here = found is in both (nat_le s.addr address) (nat_lt address s.end) here,
      )
        where
          both : (a b : Bool) → (a && b) ≡ true → IsTrue b
          both a b is = (and_parts a b is).1

      -- one before it lies elsewhere
      pub no_owner_before : address < s.addr → (IsTrue (nat_le s.addr address) → owner_of symbols address ≡ Some i) × (owner_of symbols address ≡ Some i → IsTrue (nat_le s.addr address))
      no_owner_before before = grind (arith, found)
