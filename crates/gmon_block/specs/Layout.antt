-- What the block holds, and the bytes that this is laid out as.
use Rattle.std.specs.Prelude.{ℕ, ◌^◌, ◌<◌, List, [], ◌∷◌, ◌++◌}
use Rattle.std.specs.List.{flat_map, All}
use Rattle.gp_base.specs.Bytes.{le}
use Rattle.gmon_block.specs.declared.entry.Tos.{Tos}

-- three lists: entries, counters, and slots
pub record Parts : Type 0 where
  pub tos : List Tos
  pub counters : List ℕ
  pub froms : List ℕ

-- the entry that a new block has
abbrev pub no_entry : Tos
no_entry = record { selfpc = 0; count = 0; link = 0 }

-- the fields of an entry fit 4, 4 and 2 bytes
pub record EntryFits (t : Tos) : Type 0 where
  pub selfpc : t.selfpc < 2 ^ 32
  pub count : t.count < 2 ^ 32
  pub link : t.link < 2 ^ 16

-- and a counter or slot 2 bytes
abbrev pub WordFits : ℕ → Type 0
WordFits n = n < 2 ^ 16

-- each number of the three lists fits its place
pub record Fits (p : Parts) : Type 0 where
  pub tos : All EntryFits p.tos
  pub counters : All WordFits p.counters
  pub froms : All WordFits p.froms

-- an entry in 12 bytes: its fields, and two bytes that are 0
abbrev pub entry_bytes : Tos → List ℕ
entry_bytes t = le t.selfpc 4 ++ le t.count 4 ++ le t.link 2 ++ 0 ∷ 0 ∷ []

-- a counter or a slot in 2 bytes
abbrev pub word_bytes : ℕ → List ℕ
word_bytes n = le n 2

-- the entries, then the counters, then the slots
unfoldable pub layout_of : Parts → List ℕ
layout_of p = flat_map entry_bytes p.tos ++ flat_map word_bytes p.counters ++ flat_map word_bytes p.froms
