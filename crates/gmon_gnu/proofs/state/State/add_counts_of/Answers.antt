use Rattle.std.proofs.Common.{◌≡◌, ◌-◌, List, drop, map, ap, subst, sym, take, ◌∙◌}
use Rattle.gp_base.specs.declared.records.RawBlock.{RawBlock}
use Rattle.gmon_data.specs.Content.{WideRec, IsAdded, wide_block, with_records}
use Rattle.gmon_data.proofs.ContentLemmas.{on_ok}
use Rattle.gmon_data.proofs.RecordLemmas.{blocks_accepted}
use Rattle.gmon_gnu.specs.Making.{block_recs}
use Rattle.gmon_gnu.proofs.state.State.add_counts_of.Goals as goal

pub returns-in-Blocks : goal.returns-in-Blocks
returns-in-Blocks c =
    let s = c.args.self.now in
    let old = c.args.profile.now in
    let new = c.add_blocks.new.self in
    let n = c.in-Blocks.end - c.in-Blocks.start in
    let blocks = take n (drop c.in-Blocks.start s.pairs.cells.items) in
    let is : block_recs s.pairs.cells.items c.args.body ≡ map wide_block blocks = ap (block_recs s.pairs.cells.items) c.in-Blocks.is in
    on_ok c.add_blocks.result c.add_blocks.ensures.added (λ added. subst (λ (recs : List WideRec). IsAdded recs old new) (sym is) (record {
      added = added ∙ ap (λ (pairs : List RawBlock). with_records (map wide_block (take n (drop c.in-Blocks.start pairs))) old) c.as_slice-pairs.ensures.value;
      accepted = blocks_accepted blocks old;
    }))
