use Rattle.std.proofs.Common.{◌≡◌, ℕ, ◌+◌, ◌*◌, ◌-◌, List, [], ◌∷◌, ◌++◌, map, subst, sym, ap, ◌∙◌, append-nil, arith}
use Rattle.std.proofs.lemmas.Grind.{flat_map-append}
use Rattle.std.proofs.lemmas.List.{map_push}
use Rattle.std.proofs.lemmas.List.Elements.{All-cons, All-nil, All-push}
use Rattle.gp_base.specs.Spans.{HasRange}
use Rattle.gp_base.specs.declared.records.RawBlock.{RawBlock}
use Rattle.gp_base.specs.declared.records.Rec.{Rec}
use Rattle.gp_base.specs.declared.records.Rec.TheVariants.{Arc, Blocks}
use Rattle.gmon_data.specs.Content.{Content, WideRec, empty_content, wide_block, wide_record, wide_records, with_records}
use Rattle.test_profiles.specs.AtMost.{IsAtMost}
use Rattle.test_profiles.proofs.AtMostLemmas.{more_at_most, one_call_more, one_run_more, within_at_most}
use Rattle.gmon_data.proofs.RecordLemmas.{with_records-append}
use Rattle.test_profiles.proofs.tests.contents.many_records.Goals as goal

abbrev Few : List WideRec → ℕ → Type 0
Few recs n = IsAtMost (with_records recs empty_content) n

one_block : (blocks : List RawBlock) (addr n : ℕ) → Few (map wide_block blocks) n → Few (map wide_block (blocks ++ record { addr = addr; count = 1 } ∷ [])) (n + 1)
one_block blocks addr n few =
    let block : RawBlock = record { addr = addr; count = 1 } in
    let same : with_records (map wide_block (blocks ++ block ∷ [])) empty_content ≡ with_records (wide_block block ∷ []) (with_records (map wide_block blocks) empty_content) =
    ap (λ rs. with_records rs empty_content) (map_push wide_block blocks block) ∙ with_records-append (map wide_block blocks) (wide_block block ∷ []) empty_content in
    subst (λ (c : Content). IsAtMost c (n + 1)) (sym same) (one_run_more addr (with_records (map wide_block blocks) empty_content) n few)

one_arc : (recs : List Rec) (from to n : ℕ) → Few (wide_records recs) n → Few (wide_records (recs ++ Arc (record { from = from; to = to; count = 1 }) ∷ [])) (n + 1)
one_arc recs from to n few =
    let arc = Arc (record { from = from; to = to; count = 1 }) in
    let same : with_records (wide_records (recs ++ arc ∷ [])) empty_content ≡ with_records (wide_record arc) (with_records (wide_records recs) empty_content) =
    ap (λ rs. with_records rs empty_content) (flat_map-append wide_record recs (arc ∷ [])) ∙ with_records-append (wide_records recs) (wide_record arc) empty_content in
    subst (λ (c : Content). IsAtMost c (n + 1)) (sym same) (one_call_more from to (with_records (wide_records recs) empty_content) n few)

pub loop-i-preserved : goal.loop-i-preserved
loop-i-preserved c =
    rw c.in_ok-push.ensures.added (one_block c.loop-i.blocks (65536 + 4 * c.loop-i.i) c.loop-i.i c.loop-i.invariant)

pub loop-k-init : goal.loop-k-init
loop-k-init c =
    let added = c.in_ok-push-2.ensures.added ∙ ap (λ rs. rs ++ Blocks c.loop-i.blocks ∷ []) c.new-recs.ensures in
    rw added (record {
      few = subst (λ (rs : List WideRec). Few rs 100000) (sym (append-nil (map wide_block c.loop-i.blocks))) (more_at_most _ c.loop-i.i 100000 (omega arith) c.loop-i.invariant);
      ranges = All-cons HasRange (Blocks c.loop-i.blocks) [] tt (All-nil HasRange);
    })

pub loop-k-preserved : goal.loop-k-preserved
loop-k-preserved c =
    let arc = Arc (record { from = 8388608 - 4 * c.loop-k.k; to = 65536; count = 1 }) in
    rw c.in_ok-push-3.ensures.added (record {
      few = more_at_most _ (100000 + c.loop-k.k + 1) (100000 + (c.loop-k.k + 1)) (omega arith) (one_arc c.loop-k.recs (8388608 - 4 * c.loop-k.k) 65536 (100000 + c.loop-k.k) c.loop-k.invariant.few);
      ranges = All-push HasRange c.loop-k.recs arc c.loop-k.invariant.ranges tt;
    })

pub returns : goal.returns
returns c = record {
  ranges = c.loop-k.invariant.ranges;
  within = within_at_most _ (100000 + c.loop-k.k) c.loop-k.invariant.few (omega arith);
}
