-- The record of executed instructions, pair by pair.
use Rattle.std.proofs.Common.{◌≡◌, ℕ, ◌+◌, ◌*◌, ◌<◌, Bool, eqb, List, [], ◌∷◌, ◌++◌, length, take, filter_map, get_or, slice_index, Option, Some, None, refl, sym, ap, ◌∙◌, length-append, if◌then◌else◌, arith}
use Rattle.std.specs.List.{flat_map, range_with_len}
use Rattle.std.proofs.lemmas.Bool.{eq-eqb, ne_eqb}
use Rattle.std.proofs.lemmas.List.{take_more}
use Rattle.std.proofs.lemmas.List.Elements.{filter_map-append}
use Rattle.std.proofs.lemmas.List.FromFn.{length-range_with_len, get_or-range_with_len}
use Rattle.gp_base.specs.Bytes.{le}
use Rattle.gp_base.specs.declared.records.RawBlock.{RawBlock}
use Rattle.gp_base.specs.Fields.{block_bytes}
use Rattle.gmon_gnu.specs.Blocks.{block_at, block_record, executed_blocks, pair_bytes, record_of}

-- an instruction that was executed, and one that wasn't
pub pair_some : (addr count : ℕ) → (count ≡ 0 → ⊥) → le addr 4 ++ le count 4 ≡ pair_bytes addr count
pair_some addr count some = ap (λ (b : Bool). if b then [] else le addr 4 ++ le count 4) (sym (ne_eqb count 0 some))

pub pair_none : (addr count : ℕ) → count ≡ 0 → [] ≡ pair_bytes addr count
pair_none addr count none = ap (λ (b : Bool). if b then [] else le addr 4 ++ le count 4) (sym (eq-eqb count 0 none))

pairs_text : (low : ℕ) (xs is : List ℕ) → flat_map (λ i. pair_bytes (low + 4 * i) (slice_index xs i)) is ≡ flat_map block_bytes (filter_map (block_at low xs) is)
pairs_text low xs [] = refl
pairs_text low xs (i ∷ is) = by (eqb (slice_index xs i) 0) (pairs_text low xs is)
  where
    first_to : Option RawBlock → List RawBlock → List RawBlock
    first_to (Some b) bs = b ∷ bs
    first_to None bs = bs

    this : RawBlock
    this = record { addr = low + 4 * i; count = slice_index xs i }

    by : (b : Bool) → flat_map (λ i. pair_bytes (low + 4 * i) (slice_index xs i)) is ≡ flat_map block_bytes (filter_map (block_at low xs) is)
        → (if b then [] else block_bytes this) ++ flat_map (λ i. pair_bytes (low + 4 * i) (slice_index xs i)) is
        ≡ flat_map block_bytes (first_to (if b then None else Some this) (filter_map (block_at low xs) is))
    by b others = grind arith

-- the whole record
pub record_text : (low : ℕ) (xs : List ℕ) (n : ℕ) → n ≡ length (executed_blocks low xs) → (n ≡ 0 → ⊥)
    → 2 ∷ (le n 4 ++ flat_map (λ i. pair_bytes (low + 4 * i) (slice_index xs i)) (range_with_len 0 (length xs))) ≡ block_record low xs
unfolding block_record
record_text low xs n is some = grind (arith, pairs_text)

none_by : (bs : List RawBlock) → 0 ≡ length bs → record_of bs ≡ []
none_by bs is = grind arith

pub no_record : (low : ℕ) (xs : List ℕ) (n : ℕ) → n ≡ length (executed_blocks low xs) → n ≡ 0 → block_record low xs ≡ []
unfolding block_record
no_record low xs n is none = none_by (executed_blocks low xs) (sym none ∙ is)

-- one count more
pub executed_more : (low : ℕ) (xs : List ℕ) (i : ℕ) → i < length xs
    → length (filter_map (block_at low xs) (take (i + 1) (range_with_len 0 (length xs)))) ≡ length (filter_map (block_at low xs) (take i (range_with_len 0 (length xs)))) + (if eqb (slice_index xs i) 0 then 0 else 1)
executed_more low xs i within =
    ap (λ (l : List ℕ). length (filter_map (block_at low xs) l)) one_longer
    ∙ ap length (filter_map-append (block_at low xs) (take i all) (i ∷ []) ∙ ap (λ (l : List RawBlock). front ++ l) (one (block_at low xs i)))
    ∙ by (eqb (slice_index xs i) 0)
  where
    all : List ℕ
    all = range_with_len 0 (length xs)

    front : List RawBlock
    front = filter_map (block_at low xs) (take i all)

    one_longer : take (i + 1) all ≡ take i all ++ i ∷ []
    one_longer = take_more all i i (omega (arith, length-range_with_len 0 (length xs), within)) ∙ ap (λ (k : ℕ). take i all ++ k ∷ []) (let e : get_or all i i ≡ i = omega (arith, get_or-range_with_len 0 (length xs) i i within) in e)

    first : Option RawBlock → List RawBlock
    first (Some x) = x ∷ []
    first None = []

    one : (o : Option RawBlock) → filter_map (λ (x : ℕ). o) (i ∷ []) ≡ first o
    one o = grind arith

    by : (b : Bool) → length (front ++ first (if b then None else Some (record { addr = low + 4 * i; count = slice_index xs i }))) ≡ length front + (if b then 0 else 1)
    by b = grind (arith, length-append)
