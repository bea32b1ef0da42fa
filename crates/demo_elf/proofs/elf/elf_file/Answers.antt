use Rattle.std.proofs.Common.{◌≡◌, map, length, ◌∙◌, ap, arith}
use Rattle.std.proofs.lemmas.List.{length-map}
use Rattle.demo_elf.specs.Elf.{elf_file, strings_text}
use Rattle.demo_elf.specs.Symbols.{symbol_of}
use Rattle.demo_elf.proofs.SymbolLemmas.{strings_short, put_first}
use Rattle.demo_elf.proofs.LengthLemmas.{file_short}
use Rattle.demo_elf.proofs.elf.elf_file.Goals as goal

-- the strings that were put are those of the symbols
strings_are : (c : goal.After-as_slice-strings) → c.as_slice-strings.result.now ≡ strings_text (map symbol_of c.args.symbols.now)
strings_are c = c.as_slice-strings.ensures.value ∙ put_first _ _ _ c.new-strings.ensures.items c.in_ok-put_strings.ensures

pub overflow_cast-parts-3 : goal.overflow_cast-parts-3
overflow_cast-parts-3 c = grind (arith, strings_short)

pub invariant_of-parts-clause-short_names : goal.invariant_of-parts-clause-short_names
invariant_of-parts-clause-short_names c = grind (arith, strings_short)

pub returns-clause-file : goal.returns-clause-file
unfolding elf_file
returns-clause-file c = grind (arith, length-map)

pub returns-clause-short : goal.returns-clause-short
returns-clause-short c = omega (arith, ap length (returns-clause-file c), file_short c.args.words.now c.args.symbols.now c.requires.words c.requires.small)
