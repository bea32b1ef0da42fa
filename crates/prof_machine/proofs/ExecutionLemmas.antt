-- What one more instruction does to the counts of executed instructions.
use Rattle.std.proofs.Common.{Bool, List, Option, [], ap, arith, cond, eqb, false, get_or, get_or-set_other, get_or-set_same, inl, inr, leb, length, length-set, ltb, refl, replicate, set, suc, sym, true, zero, ℕ, ◌%◌, ◌&&◌, ◌*◌, ◌++◌, ◌+◌, ◌-◌, ◌/◌, ◌<◌, ◌∙◌, ◌∷◌, ◌≡◌, ◌≤◌, if◌then◌else◌}
use Rattle.std.proofs.lemmas.Bool.{cases_eq, eq-eqb, ne_eqb}
use Rattle.std.specs.List.{filter_map, range_with_len}
use Rattle.std.proofs.lemmas.List.{get_or-replicate, length-replicate}
use Rattle.std.proofs.lemmas.List.FromFn.{fill_by_all, get_or-map-range_with_len, length-map-range_with_len}
use Rattle.std.proofs.lemmas.List.Sums.{sum_by_push}
use Rattle.gp_base.specs.declared.records.RawBlock.{RawBlock}
use Rattle.mcount_arcs.specs.Sizes.{AreSizes}
use Rattle.mcount_arcs.specs.declared.sizes.Sizes.{Sizes}
use Rattle.prof_machine.specs.Value.{AreCounts}
use Rattle.prof_machine.specs.declared.machine.Machine.{Machine}
use Rattle.prof_machine.specs.Executions.{counted_pairs, exec_counts_of, executed_pairs, executions_at, executions_in, instructions_of, with_execution}

executions_at-push : (ran : List ℕ) (pc a : ℕ) → executions_at (ran ++ pc ∷ []) a ≡ executions_at ran a + cond (eqb pc a) 1 0
executions_at-push ran pc a = sum_by_push (λ x. cond (eqb x a) 1 0) ran pc

at_own : (ran : List ℕ) (pc a : ℕ) → pc ≡ a → executions_at (ran ++ pc ∷ []) a ≡ executions_at ran a + 1
at_own ran pc a is = executions_at-push ran pc a ∙ ap (λ (b : Bool). executions_at ran a + cond b 1 0) (eq-eqb pc a is)

at_other : (ran : List ℕ) (pc a : ℕ) → (pc ≡ a → ⊥) → executions_at (ran ++ pc ∷ []) a ≡ executions_at ran a
at_other ran pc a other = executions_at-push ran pc a ∙ ap (λ (b : Bool). executions_at ran a + cond b 1 0) (ne_eqb pc a other) ∙ omega arith

-- ---- the counts, one by one

count_at : (z : Sizes) (ran : List ℕ) (i d : ℕ) → i < instructions_of z → get_or (executions_in z ran) i d ≡ executions_at ran (z.low + 4 * i)
count_at z ran i d inside = get_or-map-range_with_len (λ i. executions_at ran (z.low + 4 * i)) 0 (instructions_of z) i i d inside (omega arith)

counts_of_all : (z : Sizes) (ran xs : List ℕ) → length xs ≡ instructions_of z → ((i : ℕ) → i < instructions_of z → get_or xs i 0 ≡ executions_at ran (z.low + 4 * i)) → xs ≡ executions_in z ran
counts_of_all z ran xs long each = fill_by_all (λ i. executions_at ran (z.low + 4 * i)) xs (instructions_of z) 0 long each

length-counts : (z : Sizes) (ran : List ℕ) → length (executions_in z ran) ≡ instructions_of z
length-counts z ran = length-map-range_with_len (λ i. executions_at ran (z.low + 4 * i)) 0 (instructions_of z)

-- the test of a count, as the definition has it
abbrev is_counted : ℕ → ℕ → ℕ → Bool
is_counted low pc n = leb low pc && eqb ((pc - low) % 4) 0 && ltb ((pc - low) / 4) n

record HasCount (low pc n : ℕ) : Type 0 where
  pub below : (pc - low) / 4 < n
  pub place : pc ≡ low + 4 * ((pc - low) / 4)

has_count : (low pc n : ℕ) → is_counted low pc n ≡ true → HasCount low pc n
has_count low pc n is = grind arith

no_count : (low pc n i : ℕ) → is_counted low pc n ≡ false → i < n → pc ≡ low + 4 * i → ⊥
no_count low pc n i is below same = grind arith

by_count : (z : Sizes) (ran : List ℕ) (pc : ℕ) (b : Bool) → is_counted z.low pc (instructions_of z) ≡ b
    → (let xs = executions_in z ran in if b then set xs ((pc - z.low) / 4) (get_or xs ((pc - z.low) / 4) 0 + 1) else xs) ≡ executions_in z (ran ++ pc ∷ [])
by_count z ran pc true is =
    let xs = executions_in z ran in
    let k : ℕ = (pc - z.low) / 4 in
    let has = has_count z.low pc (instructions_of z) is in
    let v : ℕ = get_or xs k 0 + 1 in
    let long = length-counts z ran in
    counts_of_all z (ran ++ pc ∷ []) (set xs k v) (length-set xs k v ∙ long) (λ i lt.
    elim (cases_eq i k) [
      | inl e ↦ ap (λ (j : ℕ). get_or (set xs k v) j 0) e ∙ get_or-set_same xs k v 0 (omega (arith, has.below, long))
          ∙ ap (λ (n : ℕ). n + 1) (count_at z ran k 0 has.below) ∙ sym (at_own ran pc (z.low + 4 * k) has.place)
          ∙ ap (λ (j : ℕ). executions_at (ran ++ pc ∷ []) (z.low + 4 * j)) (sym e)
      | inr ne ↦ get_or-set_other xs k i v 0 ne ∙ count_at z ran i 0 lt
          ∙ sym (at_other ran pc (z.low + 4 * i) (λ same. ne (omega (arith, has.place, same))))
    ])
by_count z ran pc false is = search (counts_of_all, length-counts, count_at, at_other, no_count)

-- one more instruction has retired
pub exec_counts_of-push : (m : Machine) (ran counts : List ℕ) (pc : ℕ) → counts ≡ exec_counts_of m ran → with_execution m.sizes.low pc counts ≡ exec_counts_of m (ran ++ pc ∷ [])
unfolding exec_counts_of
exec_counts_of-push m ran counts pc is = grind (arith, length-counts, by_count)

-- none has
zeros_by : (z : Sizes) (asked : Bool) → (if asked then replicate (instructions_of z) 0 else []) ≡ (if asked then executions_in z [] else [])
zeros_by z true = counts_of_all z [] (replicate (instructions_of z) 0) (length-replicate (instructions_of z) 0) (λ i lt. get_or-replicate (instructions_of z) i 0 0 lt)
zeros_by z false = refl

pub exec_counts_of-nil : (m : Machine) (z : Sizes) (asked : Bool) → m.sizes ≡ z → m.setup.blocks ≡ asked → (if asked then replicate (instructions_of z) 0 else []) ≡ exec_counts_of m []
unfolding exec_counts_of
exec_counts_of-nil m z asked sizes blocks = grind (arith, zeros_by)

-- ---- no count is above the number of instructions

pub more_counts : (low pc n : ℕ) (xs : List ℕ) → AreCounts low n xs → AreCounts low (n + 1) (with_execution low pc xs)
more_counts low pc n xs are = grind (arith, length-set, get_or-set_same, get_or-set_other)

pub first_counts : (z : Sizes) (n : ℕ) (asked : Bool) → AreSizes z → AreCounts z.low n (if asked then replicate (instructions_of z) 0 else [])
first_counts z n asked are = grind (arith, get_or-replicate, length-replicate)

-- ---- as pairs

-- what two functions give of the numbers from k on, that agree on them
mapped_same : (f g : ℕ → Option RawBlock) (n k : ℕ) → ((i : ℕ) → k ≤ i → i < k + n → f i ≡ g i) → filter_map f (range_with_len k n) ≡ filter_map g (range_with_len k n)
mapped_same f g zero k same = refl
mapped_same f g (suc n) k same = grind (arith, mapped_same f g n (k + 1))

pub pairs_counted : (z : Sizes) (ran : List ℕ) → counted_pairs z.low (executions_in z ran) ≡ executed_pairs z ran
pairs_counted z ran = grind (arith, length-counts, mapped_same, count_at)
