-- What a call that is entered to its end changes in the block.
-- Only private functions and invariants speak of it.
use Rattle.std.specs.Prelude.{ℕ, zero, suc, ◌+◌, nat_lt, List, length, slice_index, slice_index_or, slice_set, if◌then◌else◌}
use Rattle.gmon_block.specs.declared.entry.Tos.{Tos}
use Rattle.gmon_block.specs.Layout.{Parts, no_entry}

abbrev pub entry_at : Parts → ℕ → Tos
entry_at p i = slice_index_or p.tos i no_entry

-- the first entry of a slot, and the one that is so many links behind it
abbrev pub index_after : List Tos → ℕ → ℕ → ℕ
index_after tos front zero = front
index_after tos front (suc n) = (slice_index_or tos (index_after tos front n) no_entry).link

-- the one before it, or 0
abbrev pub index_before : List Tos → ℕ → ℕ → ℕ
index_before tos front zero = 0
index_before tos front (suc n) = index_after tos front n

-- an entry is found at the front: it is counted
abbrev pub with_front_counted : ℕ → Parts → Parts
with_front_counted at p = record p { tos = slice_set p.tos at (record (entry_at p at) { count = (entry_at p at).count + 1 }) }

-- or behind another: that one is linked past it, and it comes to the front
abbrev pub with_entry_moved : ℕ → ℕ → ℕ → Parts → Parts
with_entry_moved slot before at p = record p {
  tos = slice_set (slice_set p.tos before (record (entry_at p before) { link = (entry_at p at).link })) at
      (record { selfpc = (entry_at p at).selfpc; count = (entry_at p at).count + 1; link = slice_index p.froms slot });
  froms = slice_set p.froms slot at;
}

abbrev pub with_call_found : ℕ → ℕ → ℕ → Parts → Parts
with_call_found slot zero at p = with_front_counted at p
with_call_found slot (suc before) at p = with_entry_moved slot (suc before) at p

-- the next index is given out
abbrev pub with_next_index : Parts → Parts
with_next_index p = record p { tos = slice_set p.tos 0 (record (entry_at p 0) { link = (entry_at p 0).link + 1 }) }

-- and its entry stands in front of the slot's
abbrev pub with_new_front : ℕ → ℕ → ℕ → Parts → Parts
with_new_front slot to i p = record p {
  tos = slice_set p.tos i (record { selfpc = to; count = 1; link = slice_index p.froms slot });
  froms = slice_set p.froms slot i;
}

abbrev pub with_call_added : ℕ → ℕ → Parts → Parts
with_call_added slot to p = let i = (entry_at p 0).link + 1 in
    if nat_lt i (length p.tos) then with_new_front slot to i (with_next_index p) else with_next_index p
