-- The symbols of a file, one after another.
use Rattle.std.proofs.Common.{◌≡◌, ◌<◌, ◌≤◌, ◌^◌, ℕ, ◌+◌, ◌*◌, List, [], ◌∷◌, ◌++◌, length, drop, get_or, map, ap, ◌∙◌, arith, append_assoc, append-nil, length-append}
use Rattle.std.specs.Prelude.{string_bytes}
use Rattle.std.specs.List.{flat_map, All}
use Rattle.std.proofs.Math.Seq.{drop-cons}
use Rattle.std.proofs.lemmas.List.{drop_all}
use Rattle.std.proofs.lemmas.List.Concat.{flat_map-cons}
use Rattle.std.proofs.lemmas.List.Elements.{All-head, All-tail}
use Rattle.demo_elf.specs.declared.code.DemoSymbol.{DemoSymbol}
use Rattle.demo_elf.specs.Elf.{symbol_text, symbols_from, string_text, strings_text}
use Rattle.demo_elf.specs.Symbols.{symbol_of, IsSmall, AreSmall}

-- one symbol more was put, and the next has its name behind the name of this one
pub one_symbol : (xs : List DemoSymbol) (i at len : ℕ) (x : DemoSymbol) (before after all : List ℕ) → i < length xs → x ≡ get_or xs i x → len ≡ length (string_bytes x.name)
    → before ++ symbols_from at (map symbol_of (drop i xs)) ≡ all → after ≡ before ++ symbol_text at x.offset
    → after ++ symbols_from (at + (len + 1)) (map symbol_of (drop (i + 1) xs)) ≡ all
one_symbol xs i at len x before after all inside is long whole put = grind (arith, drop-cons, append_assoc)

-- none is left
pub all_symbols : (xs : List DemoSymbol) (i at : ℕ) (before all : List ℕ) → length xs ≤ i → before ++ symbols_from at (map symbol_of (drop i xs)) ≡ all → before ≡ all
all_symbols xs i at before all past whole = grind (arith, append-nil, drop_all)

names_short : (xs : List DemoSymbol) → All IsSmall xs → length (flat_map string_text (map symbol_of xs)) ≤ 16 * length xs
names_short [] small = omega arith
names_short (x ∷ xs) small =
    let rest = names_short xs (All-tail IsSmall x xs small) in
    let here = All-head IsSmall x xs small in
    omega (
      arith,
      ap length (flat_map-cons string_text (symbol_of x) (map symbol_of xs)),
      length-append (string_text (symbol_of x)) (flat_map string_text (map symbol_of xs)),
      length-append (string_bytes x.name) (0 ∷ []),
    )

-- the names of few symbols take little room
pub strings_short : (xs : List DemoSymbol) → AreSmall xs → length (strings_text (map symbol_of xs)) ≤ 2 ^ 20
unfolding strings_text
strings_short xs small = omega (arith, names_short xs small.each, small.few)

-- what was put first
pub put_first : (none text all : List ℕ) → none ≡ [] → all ≡ none ++ text → all ≡ text
put_first none text all empty put = put ∙ ap (λ (xs : List ℕ). xs ++ text) empty
