use Rattle.std.proofs.Common.{◌≡◌, ◌∙◌, ◌≤◌, ◌++◌, ◌∷◌, [], ℕ, List, Option, Some, arith, length, map, ap, refl, set, subst, sym}
use Rattle.std.proofs.lemmas.List.{set-get_or, take_all}
use Rattle.folded.specs.Nodes.{IsOn, IsTreeOf, NodesAdded, stack_of_node}
use Rattle.folded.specs.Shadow.{Shadow, empty_shadow}
use Rattle.folded.specs.Stacks.{caller_in, stack_at, stacks_of}
use Rattle.folded.specs.Trail.{shadow_of, stack_samples}
use Rattle.folded.proofs.NodeLemmas.{Stack}
use Rattle.folded.proofs.FollowLemmas.{shadow_read, stacks-none, stacks-some}
use Rattle.folded.proofs.PlaceLemmas.{IsGrown-then}
use Rattle.folded.proofs.TrackLemmas.{on_stays, tracked_next}
use Rattle.folded.proofs.tracker.Tracker.sample.Goals as goal

pub returns-in_default-owner_near-clause-samples : goal.returns-in_default-owner_near-clause-samples
returns-in_default-owner_near-clause-samples c = grind (arith, stacks-none)

pub returns-clause-tracked : goal.returns-clause-tracked
returns-clause-tracked c =
    let symbols = c.args.symbols.now in
    let v = c.args.self.now in
    let h = c.args.hart in
    let s = c.index.result.now in
    let p = c.go_down.new.self in
    let calls = map (caller_in symbols) c.frames-frames.result.now in
    let down = c.in_ok-go_down.ensures in
    let whole : length calls ≤ p.depth = omega (arith, down.placed.depth, ap (λ (x : Stack). length x) down.all.1) in
    let here : IsOn c.go_down.new.tree.nodes.items calls p = record { placed = down.placed; begins = down.all.1 ∙ sym (take_all p.depth calls whole) } in
    let child = c.in_ok-node.ensures.grown in
    let last : NodesAdded c.go_down.new.tree.nodes.items c.add.new.self.nodes.items = record { more = child.more; is = c.add.ensures.nodes ∙ child.nodes } in
    let on : IsOn c.add.new.self.nodes.items (map (caller_in symbols) s.frames) p =
    subst (λ (x : List ℕ). IsOn c.add.new.self.nodes.items (map (caller_in symbols) x) p) c.frames-frames.ensures.frames
    (on_stays c.go_down.new.tree.nodes.items c.add.new.self.nodes.items calls p last here) in
    let grown = IsGrown-then v.tree c.go_down.new.tree c.child.new.self down.grown child in
    let read = shadow_read v.shadows.items h s c.requires.hart c.index.ensures in
    tracked_next symbols v _ h s p c.requires.hart (sym (ap (set v.shadows.items h) (sym read) ∙ set-get_or v.shadows.items h empty_shadow)) refl
    (record { linked = c.add.ensures.linked c.in_ok-node.ensures.linked; functions = c.add.ensures.functions ∙ grown.functions ∙ c.requires.tracked.tree.functions })
    (record { more = grown.more; is = c.add.ensures.nodes ∙ grown.nodes }) on c.requires.tracked

pub returns-clause-samples : goal.returns-clause-samples
returns-clause-samples c = λ samples have.
    let symbols = c.args.symbols.now in
    let v = c.args.self.now in
    let s = c.index.result.now in
    let frames = (shadow_of v.shadows.items c.args.hart).frames in
    let f = c.in-Some-owner_near.f in
    let read = shadow_read v.shadows.items c.args.hart s c.requires.hart c.index.ensures in
    let same_frames : c.frames-frames.result.now ≡ frames = c.frames-frames.ensures.frames ∙ ap (λ (x : Shadow). x.frames) (sym read) in
    let some = sym c.owner_near.ensures ∙ c.in-Some-owner_near.is in
    let grown = IsGrown-then v.tree c.go_down.new.tree c.child.new.self c.in_ok-go_down.ensures.grown c.in_ok-node.ensures.grown in
    let more = c.add.ensures.one_more (stacks_of symbols samples) (grown.samples (stacks_of symbols samples) have) in
    let stack : stack_of_node c.child.new.self.nodes.items c.in_ok-node.node ≡ stack_at symbols frames f =
    c.in_ok-node.ensures.node.1 ∙ ap (λ (x : Stack). x ++ Some f ∷ []) c.in_ok-go_down.ensures.all.1 ∙ ap (λ (x : List ℕ). stack_at symbols x f) same_frames in
    let same : stacks_of symbols (samples ++ stack_samples c.args.pc frames) ≡ stacks_of symbols samples ++ stack_of_node c.child.new.self.nodes.items c.in_ok-node.node ∷ [] =
    ap (λ (o : Option ℕ). stacks_of symbols (samples ++ stack_samples o frames)) c.in-Some.is ∙ stacks-some symbols samples frames c.in-Some.pc f some
    ∙ ap (λ (x : Stack). stacks_of symbols samples ++ x ∷ []) (sym stack) in
    subst (λ (x : List Stack). IsTreeOf x c.add.new.self) (sym same) more
