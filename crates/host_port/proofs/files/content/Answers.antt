use Rattle.std.proofs.Common.{sym, ap, ◌∙◌}
use Rattle.host_port.specs.declared.files.Entry.{Entry}
use Rattle.host_port.proofs.EntryLemmas.{found_at, item_at, missing}
use Rattle.host_port.specs.Entries.{files_of}
use Rattle.host_port.proofs.files.content.Goals as goal

pub returns-in_err-i : goal.returns-in_err-i
returns-in_err-i c = rw c.from_residual.ensures ((missing c.args.name.now (files_of c.args.entries.now) (sym c.in_err-i.ensures.place)).not_there)

pub returns : goal.returns
returns c =
    let found = found_at c.args.name.now (files_of c.args.entries.now) c.in_ok-i.i (sym c.in_ok-i.ensures.place) in
    (found.there, c.as_slice.ensures.value ∙ ap (λ (x : Entry). x.bytes.items) (sym c.index-entries-i.is) ∙ item_at c.args.name.now c.args.entries.now c.in_ok-i.i c.index-entries-i.result found c.index-entries-i.is ∙ sym found.content)
