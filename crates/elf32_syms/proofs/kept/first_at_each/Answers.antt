use Rattle.std.proofs.Common.{ℕ, List, [], ◌∷◌, ◌++◌, take, get_or, sym, ◌∙◌, subst}
use Rattle.std.proofs.lemmas.List.{take_more}
use Rattle.std.specs.BTreeMap.{BTreeMap}
use Rattle.elf32_syms.specs.declared.symbols.Entry.{Entry}
use Rattle.elf32_syms.proofs.KeptLemmas.{HasFirst, first_stays, first_changes}
use Rattle.elf32_syms.proofs.kept.first_at_each.Goals as goal
use Rattle.elf32_syms.proofs.kept.first_at_each.Goals.{then-is_first+in_ok-insert, else-is_first}

pub loop-entry-preserved : goal.loop-entry-preserved
loop-entry-preserved c =
    let strings = c.args.strings.now in
    let i = c.loop-entry.entry-index in
    let cs = take i c.args.candidates.now in
    let d : Entry = record { number = 0; addr = 0; binding = 0; kind = 0; section = 0; name = 0 } in
    let e = get_or c.args.candidates.now i d in
    let P : List Entry → Type 0 = λ xs. HasFirst strings xs c.if-is_first.first in
    let Q : BTreeMap ℕ Entry → Type 0 = λ m. HasFirst strings (cs ++ e ∷ []) m in
    subst P (sym (take_more c.args.candidates.now i d c.loop-entry-test.true)) (elim c.if-is_first.branch [
      | then-is_first+in_ok-insert w ↦
          subst Q (sym w.first-is) (first_changes strings cs e c.loop-entry.first c.loop-entry.invariant w.insert.new.self (sym c.is_first.ensures ∙ w.if-is_first.true) w.in_ok-insert.ensures.updates)
      | else-is_first w ↦
          subst Q (sym w.first-is) (first_stays strings cs e c.loop-entry.first c.loop-entry.invariant (sym c.is_first.ensures ∙ w.if-is_first.false))
    ])
