-- The file of a profile spells its pieces.
use Rattle.std.proofs.Common.{◌≡◌, ℕ, zero, suc, ◌+◌, ◌*◌, ◌^◌, ◌<◌, ◌≤◌, Bool, ltb, List, [], ◌∷◌, ◌++◌, length, map, filter_map, Some, refl, arith}
use Rattle.std.specs.List.{flat_map, AllByRecursion}
use Rattle.std.proofs.lemmas.List.{length-map}
use Rattle.gp_base.specs.declared.records.Unit as units
use Rattle.gmon_data.specs.declared.hist.Hist.{Hist}
use Rattle.gmon_data.specs.Hists.{IsKept}
use Rattle.gp_base.specs.Fields.{CounterFits, BlockFits}
use Rattle.gmon_gnu.specs.Grammar.{RecFits}
use Rattle.gmon_gnu.specs.Splitting.{piece, pieces_of, most_samples, most_calls, largest, each_piece, hist_piece, hist_pieces, arc_piece, arc_pieces, piece_left, round_of, rounds_of, hist_rec, arc_rec, raw_block, blocks_rec}
use Rattle.gmon_data.specs.Content.{HistNumbersFit, PairFits, AddressFits, UnitFits}
use Rattle.gmon_gnu.specs.ProfileText.{profile_text, ProfilesAreSpelled}
use Rattle.gmon_gnu.proofs.SpellingLemmas.{written_spells}

pub all_append : {X : Type 0} (P : X → Type 0) (xs ys : List X) → AllByRecursion P xs → AllByRecursion P ys → AllByRecursion P (xs ++ ys)
all_append P [] ys a b = b
all_append P (x ∷ xs) ys a b = (a.0, all_append P xs ys a.1 b)

counter_pieces : (j : ℕ) (cs : List ℕ) → AllByRecursion CounterFits (map (piece most_samples j) cs)
counter_pieces j [] = tt
counter_pieces j (c ∷ cs) = (omega arith, counter_pieces j cs)

hist_piece_fits : (u : units.Unit) → UnitFits (Some u) → (h : Hist) → IsKept h → HistNumbersFit h → (j : ℕ) → RecFits (hist_rec u (hist_piece h j))
hist_piece_fits u uf h kept nums j = search (length-map, counter_pieces)

hist_pieces_fit : (u : units.Unit) → UnitFits (Some u) → (h : Hist) → IsKept h → HistNumbersFit h → (n j : ℕ) → AllByRecursion RecFits (map (hist_rec u) (each_piece (hist_piece h) j n))
hist_pieces_fit u uf h kept nums zero j = tt
hist_pieces_fit u uf h kept nums (suc n) j = (hist_piece_fits u uf h kept nums j, hist_pieces_fit u uf h kept nums n (j + 1))

map_append : {X Y : Type 0} (f : X → Y) (P : Y → Type 0) (xs ys : List X) → AllByRecursion P (map f xs) → AllByRecursion P (map f ys) → AllByRecursion P (map f (xs ++ ys))
map_append f P [] ys a b = b
map_append f P (x ∷ xs) ys a b = (a.0, map_append f P xs ys a.1 b)

hists_fit : (u : units.Unit) → UnitFits (Some u) → (hs : List Hist) → AllByRecursion IsKept hs → AllByRecursion HistNumbersFit hs → AllByRecursion RecFits (map (hist_rec u) (flat_map hist_pieces hs))
hists_fit u uf [] kept nums = tt
hists_fit u uf (h ∷ hs) kept nums = search (map_append, hist_pieces_fit, hists_fit u uf hs kept.1 nums.1)

arc_pieces_fit : (e : (ℕ × ℕ) × ℕ) → PairFits e → (n j : ℕ) → AllByRecursion RecFits (map arc_rec (each_piece (arc_piece e) j n))
arc_pieces_fit e nums zero j = tt
arc_pieces_fit e nums (suc n) j = (record { from = nums.0; to = nums.1; count = omega arith }, arc_pieces_fit e nums n (j + 1))

arcs_fit : (es : List ((ℕ × ℕ) × ℕ)) → AllByRecursion PairFits es → AllByRecursion RecFits (map arc_rec (flat_map arc_pieces es))
arcs_fit [] nums = tt
arcs_fit (e ∷ es) nums = map_append arc_rec RecFits (arc_pieces e) (flat_map arc_pieces es) (arc_pieces_fit e nums.0 (pieces_of most_calls e.1) 0) (arcs_fit es nums.1)

round_fits : (j : ℕ) (es : List (ℕ × ℕ)) → AllByRecursion AddressFits es → AllByRecursion BlockFits (map raw_block (filter_map (piece_left j) es))
round_fits j [] nums = tt
round_fits zero (e ∷ es) nums = (record { addr = nums.0; count = omega arith }, round_fits zero es nums.1)
round_fits (suc j) (e ∷ es) nums = by (ltb (suc j * most_calls) e.1) refl (round_fits (suc j) es nums.1)
  where
    by : (b : Bool) → ltb (suc j * most_calls) e.1 ≡ b → AllByRecursion BlockFits (map raw_block (filter_map (piece_left (suc j)) es)) → AllByRecursion BlockFits (map raw_block (filter_map (piece_left (suc j)) (e ∷ es)))
    by b lt rest = grind arith

round_length : (j : ℕ) (es : List (ℕ × ℕ)) → length (map raw_block (filter_map (piece_left j) es)) ≤ length es
round_length j [] = omega arith
round_length zero (e ∷ es) = omega (arith, round_length zero es)
round_length (suc j) (e ∷ es) = by (ltb (suc j * most_calls) e.1) refl (round_length (suc j) es)
  where
    by : (b : Bool) → ltb (suc j * most_calls) e.1 ≡ b → length (map raw_block (filter_map (piece_left (suc j)) es)) ≤ length es → length (map raw_block (filter_map (piece_left (suc j)) (e ∷ es))) ≤ length (e ∷ es)
    by b lt le = grind arith

rounds_fit : (es : List (ℕ × ℕ)) → AllByRecursion AddressFits es → length es < 2 ^ 32 → (n j : ℕ) → AllByRecursion RecFits (map blocks_rec (each_piece (round_of es) j n))
rounds_fit es nums few zero j = tt
rounds_fit es nums few (suc n) j = (record { number = omega (arith, few, round_length j es); each = round_fits j es nums }, rounds_fit es nums few n (j + 1))

blocks_fit : (es : List (ℕ × ℕ)) → AllByRecursion AddressFits es → length es < 2 ^ 32 → AllByRecursion RecFits (map blocks_rec (rounds_of es))
blocks_fit [] nums few = tt
blocks_fit (e ∷ es) nums few = rounds_fit (e ∷ es) nums few (pieces_of most_calls (largest (map (λ e. e.1) (e ∷ es)))) 0

pub profile_spelled : ProfilesAreSpelled
unfolding profile_text
profile_spelled p is = grind (arith, written_spells, all_append, arcs_fit, blocks_fit, hists_fit)
