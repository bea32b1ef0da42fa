-- The code of the demo program, in words of four bytes, and its symbols. The text begins with `_start`, `_mcount` at 32
-- and function i at 64 + 256 * i; all jumps are within it.
use Rattle.std.specs.Prelude.{ℕ, ◌+◌, ◌-◌, ◌*◌, ◌/◌, ◌%◌, ◌^◌, Bool, nat_lt, List, [], ◌∷◌, ◌++◌, map, replicate, codes, if◌then◌else◌}
use Rattle.std.specs.List.{flat_map, range_with_len}
use Rattle.std.specs.Fmt.{decimal}

-- addi x0, x0, 0
abbrev pub nop : ℕ
nop = 0x00000013

abbrev pub nops : ℕ → List ℕ
nops n = replicate n nop

-- jal x1, from an offset in the text to another: the distance is in bits 31, 19 to 12, 20 and 30 to 21, modulo 2^21
unfoldable pub call_word : ℕ → ℕ → ℕ
call_word from to =
    let distance = (to + 2 ^ 21 - from) % 2 ^ 21 in
    distance / 2 ^ 20 * 2 ^ 31 + distance / 2 % 2 ^ 10 * 2 ^ 21 + distance / 2 ^ 11 % 2 * 2 ^ 20 + distance / 2 ^ 12 % 2 ^ 8 * 2 ^ 12 + 0x000000EF

-- addi x5, x0, n
abbrev pub load_word : ℕ → ℕ
load_word n = n * 2 ^ 20 + 0x00000293

-- where function i begins
abbrev pub function_at : ℕ → ℕ
function_at i = 64 + 256 * i

-- a call of function j, where it is wanted
abbrev pub slot : ℕ → ℕ → Bool → ℕ
slot from j wanted = if wanted then call_word from (function_at j) else nop

-- it calls function 0 a hundred times, and exits with 0
unfoldable pub start_words : List ℕ
start_words = 0x06400413 ∷ call_word 4 64 ∷ 0xFFF40413 ∷ 0xFE041CE3 ∷ 0x00000513 ∷ 0x05D00893 ∷ 0x00000073 ∷ nop ∷ []

-- the hook, which returns at once where nothing is profiled
unfoldable pub mcount_words : List ℕ
mcount_words = 0x00008067 ∷ nops 7

-- Function i of n: it calls the hook, counts down from 10 to 70, calls functions 2 i + 1, 2 i + 2 and the last one,
-- as far as they are there, and returns.
unfoldable pub function_words : ℕ → ℕ → List ℕ
function_words n i =
    let at = function_at i in
    (0xFF010113 ∷ 0x00112623 ∷ 0x00008513 ∷ call_word (at + 12) 32 ∷ load_word (10 * (i % 7 + 1)) ∷ 0xFFF28293 ∷ 0xFE029EE3
    ∷ slot (at + 28) (2 * i + 1) (nat_lt (2 * i + 1) n) ∷ slot (at + 32) (2 * i + 2) (nat_lt (2 * i + 2) n) ∷ slot (at + 36) (n - 1) (nat_lt i (n - 1))
    ∷ 0x00C12083 ∷ 0x01010113 ∷ 0x00008067 ∷ []) ++ nops 51

-- the code of n functions
unfoldable pub demo_words : ℕ → List ℕ
demo_words n = (start_words ++ mcount_words) ++ flat_map (function_words n) (range_with_len 0 n)

-- a symbol: its name, and its offset in the text
unfoldable pub function_symbol : ℕ → List ℕ × ℕ
function_symbol i = (codes "f" ++ decimal i, function_at i)

unfoldable pub demo_symbols : ℕ → List (List ℕ × ℕ)
demo_symbols n = (codes "_start", 0) ∷ (codes "_mcount", 32) ∷ map function_symbol (range_with_len 0 n)
