use Rattle.std.proofs.Common.{◌≡◌, ◌∙◌, ◌++◌, ◌<◌, ◌≤◌, ℕ, List, ap, arith, length, set, subst, sym, ◌+◌}
use Rattle.std.proofs.lemmas.List.{get_or-set_same, set-set}
use Rattle.folded.specs.Folding.{HasRoom}
use Rattle.folded.specs.Nodes.{IsTreeOf}
use Rattle.folded.specs.Shadow.{Shadow, after_hook, after_ran, empty_shadow}
use Rattle.folded.specs.Stacks.{stacks_of}
use Rattle.folded.specs.Trail.{stack_samples, shadow_of}
use Rattle.folded.specs.declared.tree.Tree.{Tree}
use Rattle.folded.proofs.FollowLemmas.{followed_follows, hook_room, ran_room, room_set}
use Rattle.folded.proofs.tracker.Tracker.follow.Goals as goal

-- the shadow of the hart is set twice, and no other
twice_set : (h : ℕ) (xs ys zs : List Shadow) (s : Shadow) (f : Shadow → Shadow) → h < length xs → ys ≡ set xs h s → zs ≡ set ys h (f (shadow_of ys h)) → zs ≡ set xs h (f s)
twice_set h xs ys zs s f inside once again = grind (arith, get_or-set_same, set-set)

pub returns-clause-follows : goal.returns-clause-follows
returns-clause-follows c = λ t st.
    let h = c.args.hart in
    let note = c.args.note in
    let symbols = c.args.symbols.now in
    let xs = c.args.self.now.shadows.items in
    let s = after_ran note.ran (shadow_of xs h) in
    let was : after_ran note.ran (shadow_of t.shadows h) ≡ s = ap (λ (x : List Shadow). after_ran note.ran (shadow_of x h)) (sym st.shadows) in
    let shadows = twice_set h xs c.sample.new.self.shadows.items _ s (after_hook note.returned) c.requires.hart (c.in_ok-sample.ensures.shadows ∙ c.run.ensures.shadows) c.leave_hook.ensures.shadows in
    let here : shadow_of c.run.new.self.shadows.items h ≡ s = ap (λ (x : List Shadow). shadow_of x h) c.run.ensures.shadows ∙ get_or-set_same xs h s empty_shadow c.requires.hart in
    let old = subst (λ (x : Tree). IsTreeOf (stacks_of symbols t.samples) x) (sym c.run.ensures.tree) st.samples in
    let F : Shadow → Type 0 = λ x. IsTreeOf (stacks_of symbols (t.samples ++ stack_samples note.sample x.frames)) c.sample.new.self.tree in
    let new = subst F here (c.in_ok-sample.ensures.samples t.samples old) in
    followed_follows symbols h note t s _ was (shadows ∙ ap (λ (x : List Shadow). set x h (after_hook note.returned s)) st.shadows)
    (subst (λ (x : Tree). IsTreeOf (stacks_of symbols (t.samples ++ stack_samples note.sample s.frames)) x) (sym c.leave_hook.ensures.tree) new)

pub returns-clause-room : goal.returns-clause-room
returns-clause-room c = λ turns room.
    let h = c.args.hart in
    let note = c.args.note in
    let xs = c.args.self.now.shadows.items in
    let s = after_ran note.ran (shadow_of xs h) in
    let shadows = twice_set h xs c.sample.new.self.shadows.items _ s (after_hook note.returned) c.requires.hart (c.in_ok-sample.ensures.shadows ∙ c.run.ensures.shadows) c.leave_hook.ensures.shadows in
    let here : (shadow_of xs h).over ≤ turns = room h empty_shadow c.requires.hart in
    subst (HasRoom (turns + 1)) (sym shadows)
    (room_set turns xs h (after_hook note.returned s) room (omega (arith, here, ran_room note.ran (shadow_of xs h), hook_room note.returned s)))
