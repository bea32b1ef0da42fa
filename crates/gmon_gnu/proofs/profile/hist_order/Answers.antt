use Rattle.std.proofs.Common.{◌<◌, List, length, get_or, ap, subst, sym, ◌∙◌}
use Rattle.std.specs.List.{AllByRecursion}
use Rattle.std.proofs.lemmas.List.{take_all, take_more}
use Rattle.std.proofs.lemmas.Option.{slice_get-get_or}
use Rattle.gmon_gnu.specs.declared.profile.Placed.{Placed}
use Rattle.gmon_gnu.specs.Held.{no_entry}
use Rattle.gmon_gnu.specs.Making.{place_of, placed_entries}
use Rattle.gmon_gnu.proofs.MakingLemmas.{all_joined, all_reordered, next_hist, order_of, places_below}
use Rattle.gmon_gnu.proofs.profile.hist_order.Goals as goal

pub loop-i-preserved : goal.loop-i-preserved
loop-i-preserved c =
    let entries = c.args.entries.now in
    let i = c.loop-i.i in
    let e = get_or entries i no_entry in
    let was = c.loop-i.invariant in
    let pushed = c.in_ok-push_hist.ensures in
    record {
      inside = subst (λ (l : List Placed). AllByRecursion (λ p. p.entry < length entries) l) (sym pushed)
          (all_joined (λ p. p.entry < length entries) _ (place_of c.args.fields.now e.body i) was.inside (places_below c.args.fields.now e.body i (length entries) c.loop-i-test.true));
      all = ap (placed_entries entries) pushed ∙ next_hist c.args.fields.now entries _ i e (slice_get-get_or entries i no_entry c.loop-i-test.true) (take_more entries i no_entry c.loop-i-test.true) was.all;
    }

pub returns-clause-inside : goal.returns-clause-inside
returns-clause-inside c =
    all_reordered (λ p. p.entry < length c.args.entries.now) _ _ c.sort_unstable_by_key.ensures.permutation c.loop-i.invariant.inside

pub returns-clause-all : goal.returns-clause-all
returns-clause-all c =
    search (order_of, take_all, c.sort_unstable_by_key.ensures.permutation, c.loop-i.invariant.all, c.loop-i.i, c.loop-i-test.false)
