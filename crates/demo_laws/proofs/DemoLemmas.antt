-- The words and the symbols of the demo program.
use Rattle.std.proofs.Common.{◌≡◌, ℕ, zero, suc, ◌+◌, ◌*◌, ◌^◌, ◌<◌, ◌≤◌, false, List, [], ◌∷◌, ◌++◌, length, map, codes, None, Some, max, refl, sym, ap, ◌∙◌, subst, arith, length-append}
use Rattle.std.specs.Fmt.{decimal}
use Rattle.std.specs.List.{AllByRecursion, flat_map, range_with_len}
use Rattle.std.proofs.lemmas.Bool.Decides.{nat_tests}
use Rattle.std.proofs.lemmas.Fmt.{decimal-digits_of, decimal_digit, length-decimal-le}
use Rattle.std.proofs.lemmas.List.{length-map}
use Rattle.std.proofs.lemmas.List.FromFn.{length-range_with_len}
use Rattle.std.specs.Int.Digits.{digits_of}
use Rattle.elf32_syms.specs.Names.{is_zero}
use Rattle.elf32_syms.specs.declared.image.Image.{Image}
use Rattle.elf32_syms.specs.Image.{image_of}
use Rattle.settings.specs.declared.setup.Setup.{Setup}
use Rattle.prof_machine.specs.Start.{start_refusal, base_of, program_end_of}
use Rattle.demo_elf.specs.Code.{function_at, start_words, mcount_words, function_words, demo_words, function_symbol, demo_symbols}
use Rattle.demo_elf.specs.Elf.{string_text, strings_text, demo_program}
use Rattle.demo_laws.specs.Programs.{IsName, IsNamed, IsProgram, AreInOrder, symbols_in_row, hook_in, program_image}
use Rattle.demo_laws.specs.Laws.{IsDemoFile, text_bytes, demo_image}
use Rattle.demo_laws.proofs.FileLemmas.{file_long}
use Rattle.demo_laws.proofs.Accepting.{file_accepted}
use Rattle.demo_laws.proofs.ImageLemmas.{image_read}

-- ---- the words

function_long : (n i : ℕ) → length (function_words n i) ≡ 64
unfolding function_words
function_long n i = refl

functions_long : (n a k : ℕ) → length (flat_map (function_words n) (range_with_len a k)) ≡ 64 * k
functions_long n a zero = refl
functions_long n a (suc k) = grind (arith, length-append, function_long, functions_long n (a + 1) k)

pub words_count : (n : ℕ) → length (demo_words n) ≡ 16 + 64 * n
unfolding demo_words start_words mcount_words
words_count n = omega (arith, functions_long n 0 n)

-- ---- the names

no_zeros : (ds : List ℕ) → AllByRecursion (λ c. is_zero c ≡ false) (map (λ d. 48 + d) ds)
no_zeros [] = tt
no_zeros (d ∷ ds) = (grind (arith, nat_tests), no_zeros ds)

decimal_whole : (i : ℕ) → i < 2 ^ 64 → AllByRecursion (λ c. is_zero c ≡ false) (decimal i)
decimal_whole zero h = subst (AllByRecursion (λ c. is_zero c ≡ false)) (sym (decimal_digit 0 (omega arith))) (no_zeros (0 ∷ []))
decimal_whole (suc i) h = subst (AllByRecursion (λ c. is_zero c ≡ false)) (sym (decimal-digits_of (suc i) (omega arith) h)) (no_zeros (digits_of 10 (suc i)))

function_named : (i : ℕ) → i < 2000 → IsName (codes "f" ++ decimal i)
function_named i h = grind (arith, length-decimal-le, decimal_whole)

functions_named : (a k : ℕ) → a + k ≤ 2000 → AllByRecursion IsNamed (map function_symbol (range_with_len a k))
unfolding function_symbol
functions_named a zero h = tt
functions_named a (suc k) h = (function_named a (omega arith), functions_named (a + 1) k (omega arith))

pub symbols_named : (n : ℕ) → n ≤ 2000 → AllByRecursion IsNamed (demo_symbols n)
unfolding demo_symbols
symbols_named n h = grind (arith, functions_named)

functions_strings : (a k : ℕ) → a + k ≤ 2000 → length (flat_map string_text (map function_symbol (range_with_len a k))) ≤ 6 * k
unfolding function_symbol
functions_strings a zero h = omega arith
functions_strings a (suc k) h =
    let name : List ℕ = codes "f" ++ decimal a in
    omega (
      arith,
      length-append (name ++ 0 ∷ []) (flat_map string_text (map function_symbol (range_with_len (a + 1) k))),
      length-append name (0 ∷ []),
      length-decimal-le 4 a (omega arith) (omega arith) (omega arith),
      functions_strings (a + 1) k (omega arith),
    )

pub strings_count : (n : ℕ) → n ≤ 2000 → length (strings_text (demo_symbols n)) ≤ 16 + 6 * n
unfolding strings_text demo_symbols
strings_count n h = omega (arith, functions_strings 0 n (omega arith))

-- ---- the order

functions_ascend : (low high a k : ℕ) → low ≤ function_at a → 64 + 256 * (a + k) ≤ high → AreInOrder low high (map function_symbol (range_with_len a k))
unfolding function_symbol
functions_ascend low high a zero from to = tt
functions_ascend low high a (suc k) from to = (omega arith, omega arith, functions_ascend (function_at a + 1) high (a + 1) k (omega arith) (omega arith))

pub symbols_ascend : (n high : ℕ) → 64 + 256 * n ≤ high → AreInOrder 0 high (demo_symbols n)
unfolding demo_symbols
symbols_ascend n high h = (omega arith, omega arith, (omega arith, omega arith, functions_ascend 33 high 0 n (omega arith) (omega arith)))

pub symbols_count : (n : ℕ) → length (demo_symbols n) ≡ n + 2
unfolding demo_symbols
symbols_count n = omega (arith, length-map (range_with_len 0 n) function_symbol, length-range_with_len 0 n)

-- so it is a program

pub demo_is_program : (n : ℕ) → n ≤ 2000 → IsProgram (demo_words n) (demo_symbols n)
demo_is_program n h = grind (arith, words_count, symbols_count, strings_count, symbols_named, symbols_ascend)

pub demo_accepted : (n : ℕ) → n ≤ 2000 → IsDemoFile n
demo_accepted n h = grind (arith, file_long, words_count, symbols_count, strings_count, file_accepted, demo_is_program)

-- ---- the image

no_function_hook : (a k : ℕ) → hook_in (codes "moncontrol") (map function_symbol (range_with_len a k)) ≡ None
unfolding function_symbol
no_function_hook a zero = refl
no_function_hook a (suc k) = no_function_hook (a + 1) k

mcount_hook : (n : ℕ) → hook_in (codes "_mcount") (demo_symbols n) ≡ Some 0x10020
unfolding demo_symbols
mcount_hook n = refl

moncontrol_hook : (n : ℕ) → hook_in (codes "moncontrol") (demo_symbols n) ≡ None
unfolding demo_symbols
moncontrol_hook n = no_function_hook 0 n

demo_image_is : (n bytes : ℕ) → 4 * length (demo_words n) ≡ bytes → bytes ≡ text_bytes n → program_image (demo_words n) (demo_symbols n) ≡ demo_image n
unfolding program_image demo_image
demo_image_is n bytes e f = rw (e, f, mcount_hook n, moncontrol_hook n) refl

pub demo_image_read : (n : ℕ) → n ≤ 2000 → image_of (demo_program n) ≡ demo_image n
demo_image_read n h = grind (arith, image_read, demo_is_program, demo_image_is, words_count)

row_long : (high : ℕ) (symbols : List (List ℕ × ℕ)) → length (symbols_in_row high symbols) ≡ length symbols
row_long high [] = refl
row_long high (s ∷ symbols) = ap suc (row_long high symbols)

image_long : (n : ℕ) → length (demo_image n).symbols ≡ n + 2
unfolding demo_image
image_long n = row_long (0x10000 + text_bytes n) (demo_symbols n) ∙ symbols_count n

pub demo_symbols_read : (n : ℕ) → n ≤ 2000 → length (image_of (demo_program n)).symbols ≡ n + 2
demo_symbols_read n h = ap (λ (image : Image). length image.symbols) (demo_image_read n h) ∙ image_long n

-- ---- the start

image_starts : (n : ℕ) (setup : Setup) → n ≤ 2000 → 4 ≤ setup.ram_mib → setup.ram_mib ≤ 256 → start_refusal (demo_image n) setup ≡ None
unfolding start_refusal base_of program_end_of demo_image
image_starts n setup h least most = grind (arith, nat_tests, max)

pub demo_run_starts : (n : ℕ) (setup : Setup) → n ≤ 2000 → 4 ≤ setup.ram_mib → setup.ram_mib ≤ 256 → start_refusal (image_of (demo_program n)) setup ≡ None
demo_run_starts n setup h least most = ap (λ (image : Image). start_refusal image setup) (demo_image_read n h) ∙ image_starts n setup h least most
