-- How many looks a call takes, and what each meets in its chain.
use Rattle.std.proofs.Common.{◌≡◌, ℕ, suc, ◌<◌, ◌≤◌, true, false, eqb, List, length, Some, arith, max}
use Rattle.std.proofs.lemmas.Option.{slice_get_within}
use Rattle.std.specs.List.{slice_get}
use Rattle.mcount_arcs.specs.Log.{Pair}
use Rattle.mcount_arcs.specs.Arcs.{chain_in, looks_in}
use Rattle.mcount_arcs.proofs.DistinctLemmas.{eqb-same, has, once, has_at, position_at, position_absent}

pub looks-found : (c : List ℕ) (to k : ℕ) → once eqb c ≡ true → slice_get c k ≡ Some to → looks_in c to ≡ suc k
looks-found c to k o at = grind (arith, position_at, eqb-same)

pub looks-absent : (c : List ℕ) (to : ℕ) → has eqb to c ≡ false → looks_in c to ≡ max 1 (length c)
looks-absent c to absent = grind (arith, position_absent)

-- the looks that were made have not found it
pub not_passed : (c : List ℕ) (to place k : ℕ) → once eqb c ≡ true → place ≤ looks_in c to → slice_get c k ≡ Some to → place ≤ suc k
not_passed c to place k o le at = omega (arith, looks-found c to k o at)

-- nothing stands at the place: the slot is empty, and one look is all
pub meets_none : (c : List ℕ) (to k : ℕ) → once eqb c ≡ true → suc k ≤ looks_in c to → length c ≤ k → (has eqb to c ≡ false) × (looks_in c to ≡ suc k)
meets_none c to k o le past = grind (arith, has_at, slice_get_within)

-- another callee stands there, and none behind it
pub meets_last : (c : List ℕ) (to k x : ℕ) → once eqb c ≡ true → suc k ≤ looks_in c to → slice_get c k ≡ Some x → (x ≡ to → ⊥) → length c ≤ suc k → (has eqb to c ≡ false) × (looks_in c to ≡ suc k)
meets_last c to k x o le at other past = grind (arith, has_at, slice_get_within, not_passed)

-- another callee stands there, and one behind it: the walk goes on
pub meets_other : (c : List ℕ) (to k x : ℕ) → once eqb c ≡ true → suc k ≤ looks_in c to → slice_get c k ≡ Some x → (x ≡ to → ⊥) → suc k < length c → suc k < looks_in c to
meets_other c to k x o le at other more = grind (arith, has_at, looks-found, looks-absent)

pub looks_bounds : (ps : List Pair) (s to : ℕ) → (1 ≤ looks_in (chain_in ps s) to) × (looks_in (chain_in ps s) to ≤ max 1 (length (chain_in ps s)))
looks_bounds ps s to = grind arith
