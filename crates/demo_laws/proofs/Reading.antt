-- What is read at an offset stands in the part that has it.
use Rattle.std.proofs.Common.{◌≡◌, ℕ, ◌+◌, ◌^◌, ◌<◌, List, [], ◌++◌, length, take, drop, sym, ap, ◌∙◌, arith}
use Rattle.std.proofs.lemmas.List.{drop_at, drop-drop, take_at}
use Rattle.elf32_syms.specs.Header.{header_of}
use Rattle.elf32_syms.specs.Sections.{section_at}
use Rattle.elf32_syms.specs.Symbols.{entry_at}
use Rattle.gp_base.specs.Bytes.{value_of, le, half_at, word_at}
use Rattle.gp_base.proofs.LittleEndian.{value_of-le}

-- the types of headers, of sections and of symbols, which only their own crate names
abbrev type_of : {T : Type 0} → T → Type 0
type_of {T} x = T

abbrev pub Header : Type 0
Header = type_of (header_of [])

abbrev pub Section : Type 0
Section = type_of (section_at [] 0)

abbrev pub Entry : Type 0
Entry = type_of (entry_at [] 0)

-- a number below 2^32 is read as it was written
pub word_back : (n : ℕ) → n < 2 ^ 32 → value_of (le n 4) ≡ n
word_back n fits = value_of-le 4 n (omega arith)

-- what stands behind a front
pub drop_behind : {X : Type 0} (front rest : List X) (at k : ℕ) → length front ≡ at → drop (at + k) (front ++ rest) ≡ drop k rest
drop_behind front rest at k long = sym (drop-drop k at (front ++ rest)) ∙ ap (drop k) (drop_at front rest at long)

pub word_behind : (front rest : List ℕ) (at k : ℕ) → length front ≡ at → word_at (front ++ rest) (at + k) ≡ word_at rest k
word_behind front rest at k long = ap (λ (bs : List ℕ). value_of (take 4 bs)) (drop_behind front rest at k long)

pub half_behind : (front rest : List ℕ) (at k : ℕ) → length front ≡ at → half_at (front ++ rest) (at + k) ≡ half_at rest k
half_behind front rest at k long = ap (λ (bs : List ℕ). value_of (take 2 bs)) (drop_behind front rest at k long)

-- the middle one of three parts
pub middle : {X : Type 0} (front part rest : List X) (at len : ℕ) → length front ≡ at → length part ≡ len → take len (drop at (front ++ (part ++ rest))) ≡ part
middle front part rest at len long wide = ap (take len) (drop_at front (part ++ rest) at long) ∙ take_at part rest len wide
