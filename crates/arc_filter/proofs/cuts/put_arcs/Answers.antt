use Rattle.std.proofs.Common.{◌≡◌, ℕ, ◌+◌, false, map, string_bytes, sym, subst, ◌∙◌, arith}
use Rattle.gmon_data.specs.Content.{Content}
use Rattle.gmon_data.proofs.RecordLemmas.{IsUnderway}
use Rattle.arc_filter.specs.Cuts.{is_cut}
use Rattle.arc_filter.proofs.MarkLemmas.{marks_long}
use Rattle.arc_filter.proofs.ProfileLemmas.{all_left, cut_next, kept_next, kept_within, left_from}
use Rattle.arc_filter.proofs.cuts.put_arcs.Goals as goal
use Rattle.arc_filter.proofs.cuts.put_arcs.Goals.{then-not-is_cut+in_ok-add_calls, else-not-is_cut}

pub is_cut-requires-clause-marks : goal.is_cut-requires-clause-marks
is_cut-requires-clause-marks c = marks_long c.args.symbols.now (map string_bytes c.args.cuts.now) c.in_ok-table.table.marks.items c.in_ok-table.ensures.marks

pub add_calls-requires : goal.add_calls-requires
add_calls-requires c =
    let words = map string_bytes c.args.cuts.now in
    let arc : (ℕ × ℕ) × ℕ = ((c.arc-from.result.0, c.arc-from.result.1), c.arc-from.result.2) in
    let are = c.in_ok-table.ensures.marks in
    let stays : is_cut c.args.symbols.now words arc.0.0 arc.0.1 ≡ false = sym (c.is_cut.ensures words are) ∙ c.if-not-is_cut.true in
    kept_within c.args.symbols.now words c.args.profile.now.arcs c.loop-i.i c.args.left.now c.loop-i.left c.loop-i.invariant arc (omega arith) c.arc-from.ensures stays c.requires.within

pub loop-i-preserved : goal.loop-i-preserved
loop-i-preserved c =
    let symbols = c.args.symbols.now in
    let words = map string_bytes c.args.cuts.now in
    let arcs = c.args.profile.now.arcs in
    let arc : (ℕ × ℕ) × ℕ = ((c.arc-from.result.0, c.arc-from.result.1), c.arc-from.result.2) in
    let are = c.in_ok-table.ensures.marks in
    let said = c.is_cut.ensures words are in
    elim c.if-not-is_cut.branch [
      | then-not-is_cut+in_ok-add_calls w ↦
          kept_next symbols words arcs c.loop-i.i c.args.left.now c.loop-i.left c.loop-i.invariant arc (omega arith) c.arc-from.ensures (sym said ∙ w.if-not-is_cut.true)
          c.if-not-is_cut.left (w.left-is ∙ w.in_ok-add_calls.ensures.added)
      | else-not-is_cut w ↦
          subst (λ (now : Content). IsUnderway (all_left symbols words arcs) (left_from symbols words arcs (c.loop-i.i + 1)) c.args.left.now now) (sym w.left-is)
          (cut_next symbols words arcs c.loop-i.i c.args.left.now c.loop-i.left c.loop-i.invariant arc (omega arith) c.arc-from.ensures (sym said ∙ w.if-not-is_cut.false))
    ]
