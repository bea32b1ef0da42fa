use Rattle.std.proofs.Common.{◌+◌, refl, sym, ap, subst, ◌∙◌, arith}
use Rattle.std.proofs.lemmas.List.Elements.{All-nil}
use Rattle.flat_report.specs.Rows.{IsRowOf, sources_of}
use Rattle.flat_report.proofs.FunctionLemmas.{functions_to_all}
use Rattle.flat_report.proofs.RowLemmas.{AreRowsTo, row_shown, row_hidden}
use Rattle.flat_report.proofs.rows.rows_with_lines.Goals as goal
use Rattle.flat_report.proofs.rows.rows_with_lines.Goals.{then-is_shown+in_ok-push, else-is_shown}

pub loop-f-init : goal.loop-f-init
loop-f-init c = rw c.new-rows.ensures.items (record { rows_of = All-nil (IsRowOf (sources_of c.args.sources.now)); functions = refl })

pub loop-f-preserved : goal.loop-f-preserved
loop-f-preserved c =
    let s = sources_of c.args.sources.now in
    let row = c.row_of-row.result in
    elim c.if-is_shown.branch [
      | then-is_shown+in_ok-push w ↦
          subst (AreRowsTo s (c.loop-f.f + 1)) (sym (ap (λ v. v.items) w.rows-is ∙ w.in_ok-push.ensures.items))
          (row_shown s c.loop-f.f c.loop-f.rows.items row c.loop-f.invariant c.row_of-row.ensures.function c.row_of-row.ensures.number (sym c.is_shown.ensures ∙ w.if-is_shown.true))
      | else-is_shown w ↦
          subst (AreRowsTo s (c.loop-f.f + 1)) (sym (ap (λ v. v.items) w.rows-is))
          (row_hidden s c.loop-f.f c.loop-f.rows.items row c.loop-f.invariant c.row_of-row.ensures.function c.row_of-row.ensures.number (sym c.is_shown.ensures ∙ w.if-is_shown.false))
    ]

pub returns-clause-functions : goal.returns-clause-functions
returns-clause-functions c = c.loop-f.invariant.functions ∙ functions_to_all (sources_of c.args.sources.now) c.loop-f.f (omega arith)
