-- The row of a word by its opcode, funct3 and funct7.
use Rattle.std.proofs.Common.{◌≡◌, ℕ, ◌+◌, ◌*◌, ◌/◌, ◌%◌, ◌^◌, ◌<◌, Bool, true, false, ◌&&◌, ◌==◌, cond, List, [], ◌∷◌, Option, Some, None, bit_and, option_map, find, refl, sym, ap, ◌∙◌, arith, lit<, ◌≢◌}
use Rattle.std.specs.List.{list_all}
use Rattle.std.proofs.lemmas.Nat.{and_mask, and_block}
use Rattle.std.proofs.lemmas.Bool.{and_parts, eqb-true, ne_eqb}
use Rattle.std.proofs.lemmas.Bool.Decides.{nat_tests}
use Rattle.rv_decode.specs.Fields.{field}
use Rattle.rv_decode.specs.declared.instruction.Instr.{Instr}
use Rattle.rv_decode.specs.Table.{Row, table, row_of, instr_of, instr_in, operand_form}

-- a word under each of the masks
masked_funct3 : (w : ℕ) → bit_and w 0x0000707F ≡ field w 12 3 * 4096 + w % 128
masked_funct3 w =
    let whole : w / 2 ^ 12 * 2 ^ 12 + w % 2 ^ 12 ≡ w = omega arith in
    let split : bit_and (w / 2 ^ 12 * 2 ^ 12 + w % 2 ^ 12) (7 * 2 ^ 12 + 127) ≡ bit_and (w / 2 ^ 12) 7 * 2 ^ 12 + bit_and (w % 2 ^ 12) 127 = and_block 12 (w / 2 ^ 12) 7 (w % 2 ^ 12) 127 (omega arith) (lit< tt) in
    let high : bit_and (w / 2 ^ 12) 7 ≡ w / 2 ^ 12 % 8 = and_mask (w / 2 ^ 12) 3 in
    let low : bit_and (w % 2 ^ 12) 127 ≡ w % 2 ^ 12 % 128 = and_mask (w % 2 ^ 12) 7 in
    ap (λ n. bit_and n 0x0000707F) (sym whole) ∙ split ∙ omega (arith, high, low)

masked_funct7 : (w : ℕ) → bit_and w 0xFE00707F ≡ field w 25 7 * 33554432 + (field w 12 3 * 4096 + w % 128)
masked_funct7 w =
    let whole : w / 2 ^ 25 * 2 ^ 25 + w % 2 ^ 25 ≡ w = omega arith in
    let split : bit_and (w / 2 ^ 25 * 2 ^ 25 + w % 2 ^ 25) (127 * 2 ^ 25 + 0x707F) ≡ bit_and (w / 2 ^ 25) 127 * 2 ^ 25 + bit_and (w % 2 ^ 25) 0x707F = and_block 25 (w / 2 ^ 25) 127 (w % 2 ^ 25) 0x707F (omega arith) (lit< tt) in
    let high : bit_and (w / 2 ^ 25) 127 ≡ w / 2 ^ 25 % 128 = and_mask (w / 2 ^ 25) 7 in
    let low = masked_funct3 (w % 2 ^ 25) in
    ap (λ n. bit_and n 0xFE00707F) (sym whole) ∙ split ∙ omega (arith, high, low)

masked_all : (w : ℕ) → w < 2 ^ 32 → bit_and w 0xFFFFFFFF ≡ w
masked_all w h = and_mask w 32 ∙ omega arith

-- a test of a word's fields against a row
abbrev pub fits : ℕ → ℕ → ℕ → ℕ → Row → Bool
fits w o f g r =
    (o == r.bits % 128)
    && cond (r.mask == 0x0000007F) true
    (cond (r.mask == 0xFFFFFFFF) (w == r.bits)
    ((f == r.bits / 4096 % 8) && cond (r.mask == 0x0000707F) true (g == r.bits / 33554432)))

-- what the table's rows have in common
abbrev sound : Row → Bool
sound r =
    cond (r.mask == 0x0000007F) (r.bits == r.bits % 128)
    (cond (r.mask == 0xFFFFFFFF) true
    (cond (r.mask == 0x0000707F) (r.bits == r.bits / 4096 % 8 * 4096 + r.bits % 128)
    ((r.mask == 0xFE00707F) && (r.bits == r.bits / 33554432 * 33554432 + (r.bits / 4096 % 8 * 4096 + r.bits % 128)))))

table_sound : list_all sound table ≡ true
unfolding table
table_sound = refl

abbrev pub instr_at : ℕ → ℕ → ℕ → ℕ → Option Instr
instr_at w o f g = option_map (λ r. instr_in (operand_form r.op) r.op w) (find (fits w o f g) table)

find_same : (p q good : Row → Bool) → ((r : Row) → good r ≡ true → p r ≡ q r) → (rs : List Row) → list_all good rs ≡ true → find p rs ≡ find q rs
find_same p q good same [] h = refl
find_same p q good same (r ∷ rs) h =
    let parts = and_parts (good r) (list_all good rs) h in
    rw (same r parts.0) (ap (λ (rest : Option Row). cond (q r) (Some r) rest) (find_same p q good same rs parts.1))

-- the tests of a row under each of the masks
by_opcode : (w b : ℕ) → b ≡ b % 128 → (bit_and w 0x0000007F == b) ≡ ((w % 128 == b % 128) && true)
by_opcode w b s = let e : bit_and w 0x0000007F ≡ w % 128 = and_mask w 7 in grind (arith, nat_tests)

by_word : (w b : ℕ) → w < 2 ^ 32 → (bit_and w 0xFFFFFFFF == b) ≡ ((w % 128 == b % 128) && (w == b))
by_word w b h = let e = masked_all w h in grind (arith, nat_tests)

by_funct3 : (w b : ℕ) → b ≡ b / 4096 % 8 * 4096 + b % 128 → (bit_and w 0x0000707F == b) ≡ ((w % 128 == b % 128) && ((field w 12 3 == b / 4096 % 8) && true))
by_funct3 w b s = let e = masked_funct3 w in grind (arith, nat_tests)

by_funct7 : (w b : ℕ) → b ≡ b / 33554432 * 33554432 + (b / 4096 % 8 * 4096 + b % 128) → (bit_and w 0xFE00707F == b) ≡ ((w % 128 == b % 128) && ((field w 12 3 == b / 4096 % 8) && (field w 25 7 == b / 33554432)))
by_funct7 w b s = let e = masked_funct7 w in grind (arith, nat_tests)

fits_is : (w : ℕ) → w < 2 ^ 32 → (r : Row) → sound r ≡ true → (bit_and w r.mask == r.bits) ≡ fits w (w % 128) (field w 12 3) (field w 25 7) r
fits_is w h r s = grind (arith, eqb-true, by_opcode, by_word, by_funct3, by_funct7)

pub instr_of_fields : (w o f g : ℕ) → w < 2 ^ 32 → bit_and w 127 ≡ o → field w 12 3 ≡ f → field w 25 7 ≡ g → instr_of w ≡ instr_at w o f g
unfolding instr_of row_of
instr_of_fields w o f g h ho hf hg =
    let low : w % 128 ≡ o = sym (and_mask w 7) ∙ ho in
    rw (← low, ← hf, ← hg) (ap (λ (r : Option Row). option_map (λ r. instr_in (operand_form r.op) r.op w) r) (find_same _ _ sound (fits_is w h) table table_sound))

-- the same where the code has read the opcode, funct3 and funct7
pub at_opcode : (w o : ℕ) → w < 2 ^ 32 → bit_and w 127 ≡ o → instr_of w ≡ instr_at w o (field w 12 3) (field w 25 7)
at_opcode w o h ho = instr_of_fields w o (field w 12 3) (field w 25 7) h ho refl refl

pub at_funct3 : (w o x f : ℕ) → w < 2 ^ 32 → bit_and w 127 ≡ o → x ≡ field w 12 3 → x ≡ f → instr_of w ≡ instr_at w o f (field w 25 7)
at_funct3 w o x f h ho hx hf = instr_of_fields w o f (field w 25 7) h ho (sym hx ∙ hf) refl

pub at_funct7 : (w o x f g : ℕ) → w < 2 ^ 32 → bit_and w 127 ≡ o → x ≡ field w 12 3 → x ≡ f → field w 25 7 ≡ g → instr_of w ≡ instr_at w o f g
at_funct7 w o x f g h ho hx hf hg = instr_of_fields w o f g h ho (sym hx ∙ hf) hg

-- fields that no row has
and_false : (x : Bool) → (x && false) ≡ false
and_false true = refl
and_false false = refl

pub no_left_shift : (w g : ℕ) → g ≢ 0x00 → instr_at w 0x13 1 g ≡ None
unfolding table
no_left_shift w g n = rw (ne_eqb g 0x00 n) refl

pub no_right_shift : (w g : ℕ) → g ≢ 0x00 → g ≢ 0x20 → instr_at w 0x13 5 g ≡ None
unfolding table
no_right_shift w g n0 n32 = rw (ne_eqb g 0x00 n0, ne_eqb g 0x20 n32) refl

pub no_funct7 : (w f g : ℕ) → g ≢ 0x00 → g ≢ 0x20 → g ≢ 0x01 → instr_at w 0x33 f g ≡ None
unfolding table
no_funct7 w f g n0 n32 n1 = simp (ne_eqb g 0x00 n0, ne_eqb g 0x20 n32, ne_eqb g 0x01 n1, and_false) refl

pub no_system : (w f g : ℕ) → w ≢ 0x00000073 → w ≢ 0x00100073 → instr_at w 0x73 f g ≡ None
unfolding table
no_system w f g n0 n1 = rw (ne_eqb w 0x00000073 n0, ne_eqb w 0x00100073 n1) refl

pub no_opcode : (w o f g : ℕ) → o ≢ 0x03 → o ≢ 0x0F → o ≢ 0x13 → o ≢ 0x17 → o ≢ 0x23 → o ≢ 0x33 → o ≢ 0x37 → o ≢ 0x63 → o ≢ 0x67 → o ≢ 0x6F → o ≢ 0x73 → instr_at w o f g ≡ None
unfolding table
no_opcode w o f g n3 n15 n19 n23 n35 n51 n55 n99 n103 n111 n115 = search ne_eqb
