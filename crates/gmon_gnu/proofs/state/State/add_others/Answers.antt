use Rattle.std.proofs.Common.{List, get_or, subst, sym}
use Rattle.std.specs.List.{flat_map}
use Rattle.std.proofs.lemmas.Option.{slice_get-get_or}
use Rattle.gmon_data.specs.Content.{IsAdded, IsWithin as IsWithinLimits, with_records}
use Rattle.gmon_data.proofs.LoopLemmas.{item_added, item_within, items_done, joined}
use Rattle.gmon_data.proofs.RecordLemmas.{at_begin}
use Rattle.gmon_gnu.specs.Held.{no_entry}
use Rattle.gmon_gnu.specs.declared.state.Entry.{Entry}
use Rattle.gmon_gnu.specs.Making.{other_recs}
use Rattle.gmon_gnu.proofs.state.State.add_others.Goals as goal

pub loop-i-init : goal.loop-i-init
loop-i-init c = at_begin (flat_map (other_recs c.args.self.now.pairs.cells.items c.args.self.now.arcs.items) c.as_slice-entries.result.now) c.args.profile.now

pub add_other-requires-clause-within : goal.add_other-requires-clause-within
add_other-requires-clause-within c =
    let f = other_recs c.args.self.now.pairs.cells.items c.args.self.now.arcs.items in
    let entries = c.as_slice-entries.result.now in
    let i = c.loop-i.i in
    let old = c.args.profile.now in
    item_within (joined f) entries i old c.loop-i.profile c.loop-i.invariant (get_or entries i no_entry) (slice_get-get_or entries i no_entry c.loop-i-test.true)
    (subst (λ (es : List Entry). IsWithinLimits (with_records (flat_map f es) old)) (sym c.as_slice-entries.ensures.value) c.requires.within)

pub loop-i-preserved : goal.loop-i-preserved
loop-i-preserved c =
    let f = other_recs c.args.self.now.pairs.cells.items c.args.self.now.arcs.items in
    let entries = c.as_slice-entries.result.now in
    let i = c.loop-i.i in
    item_added (joined f) entries i c.args.profile.now c.loop-i.profile c.loop-i.invariant (get_or entries i no_entry) (slice_get-get_or entries i no_entry c.loop-i-test.true)
    c.add_other.new.profile c.in_ok-add_other.ensures

pub returns : goal.returns
returns c =
    let f = other_recs c.args.self.now.pairs.cells.items c.args.self.now.arcs.items in
    let old = c.args.profile.now in
    subst (λ (es : List Entry). IsAdded (flat_map f es) old c.loop-i.profile) c.as_slice-entries.ensures.value
    (items_done (joined f) c.as_slice-entries.result.now c.loop-i.i old c.loop-i.profile c.loop-i.invariant c.loop-i-test.false)
