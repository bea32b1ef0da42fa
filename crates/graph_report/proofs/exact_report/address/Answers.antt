use Rattle.std.proofs.Common.{Option, ap, sym}
use Rattle.std.specs.Option.{option_map_or}
use Rattle.std.proofs.lemmas.Option.{slice_get-get_or}
use Rattle.elf32_syms.specs.declared.image.Symbol.{Symbol}
use Rattle.graph_report.proofs.exact_report.address.Goals as goal

pub returns : goal.returns
returns c =
    let s = c.index-symbols-f.result in
    sym (ap (λ (o : Option Symbol). option_map_or (λ (symbol : Symbol). symbol.addr) o 0) (slice_get-get_or c.args.symbols.now c.args.f s c.requires))
