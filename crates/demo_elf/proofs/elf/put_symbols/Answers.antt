use Rattle.std.proofs.Common.{◌≡◌, length, sym, subst, ap, append_assoc, arith}
use Rattle.demo_elf.specs.Elf.{symbols_text}
use Rattle.std.specs.Prelude.{string_bytes}
use Rattle.demo_elf.specs.Symbols.{IsSmall}
use Rattle.demo_elf.proofs.SymbolLemmas.{one_symbol, all_symbols}
use Rattle.demo_elf.proofs.elf.put_symbols.Goals as goal

pub loop-symbol-init : goal.loop-symbol-init
unfolding symbols_text
loop-symbol-init c = grind (arith, append_assoc)

pub loop-symbol-preserved : goal.loop-symbol-preserved
loop-symbol-preserved c =
    let x = c.symbol-item.result in
    let i = c.loop-symbol.symbol-index in
    let long : length c.as_bytes.result.now ≡ length (string_bytes x.name) = ap length c.as_bytes.ensures.value in
    let small : IsSmall x = subst IsSmall (sym c.symbol-item.is) (c.requires.each i x c.loop-symbol-test.true) in
    let low = c.loop-symbol.invariant.low in
    record {
      rest = one_symbol c.args.symbols.now i c.loop-symbol.name (length c.as_bytes.result.now) x _ _ _ c.loop-symbol-test.true c.symbol-item.is long c.loop-symbol.invariant.rest c.in_ok-put_symbol.ensures;
      low = omega arith;
    }

pub returns : goal.returns
returns c = all_symbols c.args.symbols.now c.loop-symbol.symbol-index c.loop-symbol.name _ _ c.loop-symbol-test.false c.loop-symbol.invariant.rest
