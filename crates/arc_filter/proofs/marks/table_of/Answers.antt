use Rattle.std.proofs.Common.{ℕ, List, map, string_bytes, length, sym, ap, subst, ◌∙◌}
use Rattle.arc_filter.specs.declared.marks.Marks.{Marks}
use Rattle.arc_filter.specs.Marks.{AreOf, callers_marked}
use Rattle.arc_filter.proofs.MarkLemmas.{marks_long}
use Rattle.arc_filter.proofs.marks.table_of.Goals as goal

pub callers_of-requires : goal.callers_of-requires
callers_of-requires c =
    let symbols = c.args.symbols.now in
    let of = marks_long symbols (map string_bytes c.args.words.now) c.in_ok-marks.marks.items c.in_ok-marks.ensures in
    subst (λ (n : ℕ). AreOf n c.deref.result.now) (sym c.symbol_count.ensures) (subst (λ (marks : List Marks). AreOf (length symbols) marks) (sym c.deref.ensures.value) of)

pub returns-clause-callers : goal.returns-clause-callers
returns-clause-callers c =
    c.in_ok-callers.ensures
    ∙ ap (λ (n : ℕ). callers_marked n c.deref.result.now) c.symbol_count.ensures
    ∙ ap (callers_marked (length c.args.symbols.now)) c.deref.ensures.value
