-- How long a file is.
use Rattle.std.proofs.Common.{◌≡◌, ◌≤◌, ◌^◌, ℕ, ◌+◌, ◌*◌, List, [], ◌∷◌, length, map, replicate, refl, arith, length-append}
use Rattle.std.specs.List.{flat_map}
use Rattle.std.proofs.lemmas.List.{length-replicate, length-map}
use Rattle.demo_elf.specs.declared.code.DemoSymbol.{DemoSymbol}
use Rattle.demo_elf.specs.Elf.{word, words_text, halves_text, file_header, program_header, symbol_text, symbols_from, symbols_text, names_text, section_headers, front_text, back_text, elf_file}
use Rattle.demo_elf.specs.Symbols.{symbol_of, AreSmall}
use Rattle.demo_elf.proofs.SymbolLemmas.{strings_short}

pub words_long : (words : List ℕ) → length (flat_map word words) ≡ 4 * length words
words_long [] = refl
words_long (w ∷ words) = omega (arith, words_long words)

pub file_header_long : (headers : ℕ) → length (file_header headers) ≡ 52
unfolding file_header halves_text words_text
file_header_long headers = refl

pub program_header_long : (text : ℕ) → length (program_header text) ≡ 32
unfolding program_header words_text
program_header_long text = refl

pub from_long : (at : ℕ) (symbols : List (List ℕ × ℕ)) → length (symbols_from at symbols) ≡ 16 * length symbols
unfolding symbol_text words_text
from_long at [] = refl
from_long at (s ∷ symbols) = omega (arith, from_long (at + (length s.0 + 1)) symbols)

pub section_headers_long : (text symbols strings : ℕ) → length (section_headers text symbols strings) ≡ 200
unfolding section_headers words_text
section_headers_long text symbols strings = refl

pub names_long : length names_text ≡ 33
unfolding names_text
names_long = refl

pub front_long : (words : List ℕ) (symbols strings : ℕ) → length (front_text words symbols strings) ≡ 4096 + 4 * length words
unfolding front_text words_text
front_long words symbols strings = search (replicate, length-append, file_header_long, program_header_long, length-replicate, words_long)

back_long : (text symbols strings : ℕ) → length (back_text text symbols strings) ≤ 240
unfolding back_text
back_long text symbols strings = grind (arith, length-append, names_long, length-replicate, section_headers_long)

-- a file of few words and symbols is short
pub file_short : (words : List ℕ) (symbols : List DemoSymbol) → length words ≤ 2 ^ 18 → AreSmall symbols → length (elf_file words (map symbol_of symbols)) ≤ 2 ^ 22
unfolding elf_file symbols_text
file_short words symbols few small = grind (arith, length-map, length-append, front_long, from_long, strings_short, back_long)
