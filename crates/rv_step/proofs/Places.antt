-- Bytes by their place in memory.
use Rattle.std.proofs.Common.{◌≡◌, ℕ, ◌+◌, ◌-◌, ◌≤◌, List, ◌++◌, length, take, drop, arith, length-append, length-drop, length-take}
use Rattle.std.proofs.lemmas.List.{drop-drop}
use Rattle.gp_base.specs.Bytes.{value_of}
use Rattle.rv_step.specs.Memory.{Memory, value_at, write_at}

-- the number at an address, by its place
pub value_is : (m : Memory) (at n : ℕ) (bs : List ℕ) → m.bytes ≡ bs → value_at m (m.base + at) n ≡ value_of (take n (drop at bs))
unfolding value_at
value_is m at n bs same = grind arith

-- a part of the bytes was copied over
copied_is : (at : ℕ) (bs piece : List ℕ) → take at bs ++ (piece ++ drop (at + length piece - at) (drop at bs)) ≡ take at bs ++ (piece ++ drop (at + length piece) bs)
copied_is at bs piece = grind (arith, drop-drop)

pub written_is : (base at : ℕ) (all bs was part piece : List ℕ) → all ≡ take at was ++ (part ++ drop (at + length piece - at) (drop at was)) → was ≡ bs → part ≡ piece
    → record { base = base; bytes = all } ≡ write_at (record { base = base; bytes = bs }) (base + at) piece
unfolding write_at
written_is base at all bs was part piece all_is same copied = grind (arith, copied_is)

pub length-copied : (at : ℕ) (was part piece : List ℕ) → at + length piece ≤ length was → part ≡ piece
    → length (take at was ++ (part ++ drop (at + length piece - at) (drop at was))) ≡ length was
length-copied at was part piece le copied = grind (arith, length-append, length-drop, length-take)
