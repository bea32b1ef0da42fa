-- Fields are spelled by their bytes, and read from them.
use Rattle.std.proofs.Common.{◌≡◌, ℕ, ◌^◌, ◌<◌, List, [], ◌++◌, length, drop, refl, sym, ap, subst, ◌∙◌, arith}
use Rattle.std.proofs.lemmas.List.{drop_all}
use Rattle.gp_base.specs.declared.records.RawArc.{RawArc}
use Rattle.gp_base.specs.declared.records.RawBlock.{RawBlock}
use Rattle.gp_base.specs.Bytes.{value_of, le, word_at, IsBytes}
use Rattle.gp_base.proofs.LittleEndian.{length-le, value_of-le, le-value_of, value_of-below, field_below, field_then}
use Rattle.gp_base.specs.Fields.{arc_bytes, arc_of, block_bytes, block_of, counter_bytes, ArcFits, BlockFits, CounterFits}

-- ---- from the bytes to their spelling

pub counter_spelled : (bs : List ℕ) → length bs ≡ 2 → IsBytes bs → counter_bytes (value_of bs) ≡ bs
counter_spelled bs len bytes = ap (le (value_of bs)) (sym len) ∙ le-value_of bs bytes

pub counter_fits : (bs : List ℕ) → length bs ≡ 2 → IsBytes bs → CounterFits (value_of bs)
counter_fits bs len bytes = subst (λ (m : ℕ). value_of bs < 256 ^ m) len (value_of-below bs bytes)

pub arc_spelled : (bs : List ℕ) → length bs ≡ 12 → IsBytes bs → arc_bytes (arc_of bs) ≡ bs
arc_spelled bs len bytes =
    let ended : drop 12 bs ≡ [] = drop_all 12 bs (omega arith) in
    let count : le (word_at bs 8) 4 ≡ drop 8 bs = ap (λ (v : List ℕ). le (word_at bs 8) 4 ++ v) (sym ended) ∙ field_then 4 8 bs bytes (omega arith) in
    let to : le (word_at bs 4) 4 ++ le (word_at bs 8) 4 ≡ drop 4 bs = ap (λ (v : List ℕ). le (word_at bs 4) 4 ++ v) count ∙ field_then 4 4 bs bytes (omega arith) in
    ap (λ (v : List ℕ). le (word_at bs 0) 4 ++ v) to ∙ field_then 4 0 bs bytes (omega arith)

pub arc_fits : (bs : List ℕ) → length bs ≡ 12 → IsBytes bs → ArcFits (arc_of bs)
arc_fits bs len bytes = record {
  from = field_below 4 0 bs bytes (omega arith);
  to = field_below 4 4 bs bytes (omega arith);
  count = field_below 4 8 bs bytes (omega arith);
}

pub block_spelled : (bs : List ℕ) → length bs ≡ 8 → IsBytes bs → block_bytes (block_of bs) ≡ bs
block_spelled bs len bytes =
    let ended : drop 8 bs ≡ [] = drop_all 8 bs (omega arith) in
    let count : le (word_at bs 4) 4 ≡ drop 4 bs = ap (λ (v : List ℕ). le (word_at bs 4) 4 ++ v) (sym ended) ∙ field_then 4 4 bs bytes (omega arith) in
    ap (λ (v : List ℕ). le (word_at bs 0) 4 ++ v) count ∙ field_then 4 0 bs bytes (omega arith)

pub block_fits : (bs : List ℕ) → length bs ≡ 8 → IsBytes bs → BlockFits (block_of bs)
block_fits bs len bytes = record {
  addr = field_below 4 0 bs bytes (omega arith);
  count = field_below 4 4 bs bytes (omega arith);
}

-- ---- and back

pub counter_length : (n : ℕ) → length (counter_bytes n) ≡ 2
counter_length n = length-le 2 n

pub arc_length : (arc : RawArc) → length (arc_bytes arc) ≡ 12
arc_length arc = refl

pub block_length : (block : RawBlock) → length (block_bytes block) ≡ 8
block_length block = refl

pub arc_back : (arc : RawArc) → ArcFits arc → arc_of (arc_bytes arc) ≡ arc
arc_back arc fits = λ i. record { from = value_of-le 4 arc.from fits.from i; to = value_of-le 4 arc.to fits.to i; count = value_of-le 4 arc.count fits.count i }

pub block_back : (block : RawBlock) → BlockFits block → block_of (block_bytes block) ≡ block
block_back block fits = λ i. record { addr = value_of-le 4 block.addr fits.addr i; count = value_of-le 4 block.count fits.count i }
