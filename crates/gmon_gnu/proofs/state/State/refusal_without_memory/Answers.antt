use Rattle.std.proofs.Common.{◌≡◌, Option, Some, refl, subst, sym, ◌∙◌}
use Rattle.std.specs.Prelude.{IfSome}
use Rattle.gmon_data.specs.Content.{conflict_of, empty_content, wide_records}
use Rattle.gmon_data.specs.declared.refusal.AddRefusal.{AddRefusal}
use Rattle.gmon_data.specs.declared.refusal.AddRefusal.TheVariants as answers
use Rattle.gmon_data.specs.declared.refusal.Unlike.{Unlike}
use Rattle.gmon_gnu.specs.Held.{recs_of}
use Rattle.gmon_gnu.proofs.FirstHistsLemmas.{first_told}
use Rattle.gmon_gnu.proofs.MakingLemmas.{read_spans}
use Rattle.gmon_gnu.proofs.SearchingLemmas.{found_in}
use Rattle.gmon_gnu.proofs.state.State.refusal_without_memory.Goals as goal

abbrev Tells : AddRefusal → Option Unlike → Type 0
Tells refusal o = IfSome o (λ u. refusal ≡ answers.Unlike u)

pub returns-in-Some-clause-refusal : goal.returns-in-Some-clause-refusal
returns-in-Some-clause-refusal c =
    let s = c.args.self.now in
    let spans = read_spans s.fields.items s.counters.cells.items s.pairs.cells.items s.arcs.items s.entries.items s.run c.requires.ranges in
    let found = found_in s.fields.items s.counters.cells.items s.pairs.cells.items s.arcs.items s.entries.items s.run c.requires.held spans _ _ c.as_slice.ensures.value c.as_slice-entries.ensures.value 64 _ c.conflict_among_first.ensures in
    subst (λ (o : Option Unlike). IfSome o (λ u. conflict_of empty_content (wide_records (recs_of s)) ≡ Some u)) (found ∙ c.in-Some.is) (first_told 64 (wide_records (recs_of s)))

pub returns-in-Some-clause-told : goal.returns-in-Some-clause-told
returns-in-Some-clause-told c =
    let s = c.args.self.now in
    let spans = read_spans s.fields.items s.counters.cells.items s.pairs.cells.items s.arcs.items s.entries.items s.run c.requires.ranges in
    let found = found_in s.fields.items s.counters.cells.items s.pairs.cells.items s.arcs.items s.entries.items s.run c.requires.held spans _ _ c.as_slice.ensures.value c.as_slice-entries.ensures.value 64 _ c.conflict_among_first.ensures in
    let told : Tells (answers.Unlike c.in-Some.unlike) (Some c.in-Some.unlike) = refl in
    subst (Tells (answers.Unlike c.in-Some.unlike)) (sym (found ∙ c.in-Some.is)) told

pub returns-in-None-clause-told : goal.returns-in-None-clause-told
returns-in-None-clause-told c =
    let s = c.args.self.now in
    let spans = read_spans s.fields.items s.counters.cells.items s.pairs.cells.items s.arcs.items s.entries.items s.run c.requires.ranges in
    let found = found_in s.fields.items s.counters.cells.items s.pairs.cells.items s.arcs.items s.entries.items s.run c.requires.held spans _ _ c.as_slice.ensures.value c.as_slice-entries.ensures.value 64 _ c.conflict_among_first.ensures in
    subst (Tells answers.OutOfMemory) (sym (found ∙ c.in-None.is)) tt
