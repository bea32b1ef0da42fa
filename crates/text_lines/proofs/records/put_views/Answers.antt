use Rattle.std.proofs.Common.{List, [], ◌∷◌, ◌++◌, refl, sym, ap, ◌∙◌, append_assoc}
use Rattle.std.proofs.lemmas.Result.{err_from_is_err_and}
use Rattle.gp_base.specs.declared.records.Rec.{Rec}
use Rattle.host_port.specs.declared.side.Side.TheVariants.{Output}
use Rattle.host_port.proofs.BufferLemmas.{adds_nothing, adds_item, adds_until}
use Rattle.gmon_cells.specs.Views.{rec_viewed}
use Rattle.gmon_files.specs.Viewed.{recs_left}
use Rattle.text_lines.specs.Lines.{rec_text}
use Rattle.text_lines.proofs.records.put_views.Goals as goal

pub loop-view-init : goal.loop-view-init
loop-view-init g c = ([], refl, adds_nothing Output _ _ tt)

pub returns-in_err-put_view-in-Some : goal.returns-in_err-put_view-in-Some
returns-in_err-put_view-in-Some g c =
    let p = err_from_is_err_and c.from_residual.result c.from_residual.ensures.1 in
    let so_far = c.loop-view.invariant in
    let all = ap (λ (recs : List Rec). so_far.0 ++ recs) (sym c.in-Some.ensures.first) ∙ so_far.1 in
    rw p.1 (adds_until Output (rec_text c.args.form) so_far.0 (rec_viewed c.in-Some.view) (recs_left c.next.new.self) (recs_left c.args.views) _ _ _ _ _ _ tt _ all so_far.2 c.in_err-put_view-in-Some.ensures)

pub loop-view-preserved : goal.loop-view-preserved
loop-view-preserved g c =
    let so_far = c.loop-view.invariant in
    let rec = rec_viewed c.in-Some.view in
    let rest = recs_left c.next.new.self in
    let all = append_assoc so_far.0 (rec ∷ []) rest ∙ ap (λ (recs : List Rec). so_far.0 ++ recs) (sym c.in-Some.ensures.first) ∙ so_far.1 in
    (so_far.0 ++ rec ∷ [], all, adds_item Output (rec_text c.args.form) so_far.0 rec _ _ _ _ _ _ tt _ so_far.2 c.in_ok-put_view-in-Some.ensures)
