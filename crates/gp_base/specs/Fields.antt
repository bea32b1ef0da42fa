-- The fields that both forms of gmon.out have: each number has little-endian bytes.
use Rattle.std.specs.Prelude.{ℕ, ◌^◌, ◌<◌, List, [], ◌∷◌, ◌++◌, take, drop}
use Rattle.std.specs.List.{flat_map}
use Rattle.gp_base.specs.declared.records.RawArc.{RawArc}
use Rattle.gp_base.specs.declared.records.RawBlock.{RawBlock}
use Rattle.gp_base.specs.declared.records.Unit as units
use Rattle.gp_base.specs.Bytes.{value_of, le}

-- the usual dimension is seconds, at a rate of samples per second
abbrev pub seconds : ℕ → units.Unit
seconds rate = record {
  rate = rate;
  dim = 115 ∷ 101 ∷ 99 ∷ 111 ∷ 110 ∷ 100 ∷ 115 ∷ 0 ∷ 0 ∷ 0 ∷ 0 ∷ 0 ∷ 0 ∷ 0 ∷ 0 ∷ [];
  «abbrev» = 115;
}

-- how an arc is spelled, and read
abbrev pub arc_bytes : RawArc → List ℕ
arc_bytes arc = le arc.from 4 ++ le arc.to 4 ++ le arc.count 4

abbrev pub arc_of : List ℕ → RawArc
arc_of bytes = record {
  from = value_of (take 4 bytes);
  to = value_of (take 4 (drop 4 bytes));
  count = value_of (take 4 (drop 8 bytes));
}

-- how the count of a basic block is spelled, and read
abbrev pub block_bytes : RawBlock → List ℕ
block_bytes block = le block.addr 4 ++ le block.count 4

abbrev pub block_of : List ℕ → RawBlock
block_of bytes = record {
  addr = value_of (take 4 bytes);
  count = value_of (take 4 (drop 4 bytes));
}

-- how a counter is spelled, and counters one after the other
abbrev pub counter_bytes : ℕ → List ℕ
counter_bytes counter = le counter 2

abbrev pub counters_text : List ℕ → List ℕ
counters_text counters = flat_map counter_bytes counters

-- an arc whose numbers have four bytes each
pub record ArcFits (arc : RawArc) : Type 0 where
  pub from : arc.from < 2 ^ 32
  pub to : arc.to < 2 ^ 32
  pub count : arc.count < 2 ^ 32

-- a block whose numbers have four bytes each
pub record BlockFits (block : RawBlock) : Type 0 where
  pub addr : block.addr < 2 ^ 32
  pub count : block.count < 2 ^ 32

abbrev pub CounterFits : ℕ → Type 0
CounterFits counter = counter < 2 ^ 16
