use Rattle.std.proofs.Common.{sym, ◌∙◌}
use Rattle.std.proofs.lemmas.Slice.Eq.{bytes_eq-Decides}
use Rattle.elf32_syms.proofs.NameEnds.{same_cut}
use Rattle.elf32_syms.proofs.names.have_same_bytes.Goals as goal

pub returns : goal.returns
returns c = λ same.
    same_cut c.args.strings.now c.args.one c.args.other
    (sym c.cut.ensures ∙ (bytes_eq-Decides c.cut.result.now c.cut-2.result.now).0 (sym c.eq.ensures ∙ same) ∙ c.cut-2.ensures)
