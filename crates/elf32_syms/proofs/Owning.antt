-- Bisection for the symbol in which an address lies.
use Rattle.std.proofs.Common.{◌≡◌, ◌<◌, ◌≤◌, ℕ, zero, suc, ◌+◌, true, false, nat_lt, nat_le, List, [], length, get_or, Some, None, refl, arith, ⊎_elim}
use Rattle.std.specs.List.{position_or_len}
use Rattle.std.specs.List.Sorted.{IsPartitionedBy, IsPartitionPoint, IsNonDecreasingBy}
use Rattle.std.proofs.lemmas.Bool.{cases_lt}
use Rattle.std.proofs.lemmas.Bool.Decides.{nat_tests}
use Rattle.std.proofs.lemmas.List.Sums.{position_or_len_is}
use Rattle.std.proofs.lemmas.List.Sorted.{IsPartitionedBy-leb, IsNonDecreasingBy-from_all_adjacent}
use Rattle.elf32_syms.specs.declared.image.Symbol.{Symbol}
use Rattle.elf32_syms.specs.Owners.{IsAscending, owns, owner_of}

-- the ends rise
ends_rise : (symbols : List Symbol) → IsAscending symbols → IsNonDecreasingBy (λ (s : Symbol). s.end) symbols
ends_rise symbols h =
    IsNonDecreasingBy-from_all_adjacent (λ (s : Symbol). s.end) symbols
    (λ k d below. let a = h.apart k d below in let e = h.each (k + 1) d below in omega arith)

-- so do the addresses
addresses_rise : (symbols : List Symbol) → IsAscending symbols → IsNonDecreasingBy (λ (s : Symbol). s.addr) symbols
addresses_rise symbols h =
    IsNonDecreasingBy-from_all_adjacent (λ (s : Symbol). s.addr) symbols
    (λ k d below. let a = h.apart k d below in let e = h.each k d (omega arith) in omega arith)

-- a symbol's place is at most its address
pub place_le_addr : (symbols : List Symbol) → IsAscending symbols → (i : ℕ) (d : Symbol) → i < length symbols → i ≤ (get_or symbols i d).addr
place_le_addr symbols h zero d below = omega arith
place_le_addr symbols h (suc i) d below = grind (arith, place_le_addr symbols h i d (omega arith))

pub ended_front : (symbols : List Symbol) (pc : ℕ) → IsAscending symbols → IsPartitionedBy (λ (s : Symbol). nat_le s.end pc) symbols
ended_front symbols pc h = IsPartitionedBy-leb (λ (s : Symbol). s.end) symbols pc (ends_rise symbols h)

module _ (symbols : List Symbol) (pc i : ℕ) (h : IsAscending symbols)
    (point : IsPartitionPoint (λ (s : Symbol). nat_le s.end pc ≡ true) (λ (s : Symbol). nat_le s.end pc ≡ false) symbols i) where
  not_before : (k : ℕ) (d : Symbol) → k < i → owns pc (get_or symbols k d) ≡ false
  not_before k d below = let ended = point.0 k d (omega arith) below in grind (arith, nat_tests)

  -- the symbol at the point has the address
  pub owner_here : (d : Symbol) → i < length symbols → (get_or symbols i d).addr ≤ pc → Some i ≡ owner_of symbols pc
  owner_here d below from = grind (arith, nat_tests, position_or_len_is)

  -- the address lies before it, and behind those before
  none_from : (d : Symbol) → pc < (get_or symbols i d).addr → (k : ℕ) → i ≤ k → k < length symbols → owns pc (get_or symbols k d) ≡ false
  none_from d after k above below = grind (arith, addresses_rise)

  none_all : (d : Symbol) → ((k : ℕ) → i ≤ k → k < length symbols → owns pc (get_or symbols k d) ≡ false) → None ≡ owner_of symbols pc
  none_all d none =
      let place : position_or_len (owns pc) symbols ≡ length symbols = position_or_len_is (owns pc) symbols (length symbols) d (omega arith)
      (λ k less. ⊎_elim (λ (before : k < i). not_before k d before) (λ (from : i ≤ k). none k from less) (cases_lt k i))
      (λ below. absurd (omega arith)) in
      let past : nat_lt (length symbols) (length symbols) ≡ false = grind (arith, nat_tests) in
      rw (place, past) refl

  pub no_owner_before : (d : Symbol) → pc < (get_or symbols i d).addr → None ≡ owner_of symbols pc
  no_owner_before d after = none_all d (none_from d after)

  pub no_owner_behind : length symbols ≤ i → None ≡ owner_of symbols pc
  no_owner_behind all = none_all (record { addr = 0; end = 0; name = [] }) (λ k above below. absurd (omega arith))
