use Rattle.std.proofs.Common.{◌≡◌, ◌∙◌, ℕ, List, ap, length, refl, set, subst, sym, take}
use Rattle.folded.specs.Nodes.{stack_of_node}
use Rattle.folded.specs.Shadow.{Shadow, after_hook}
use Rattle.folded.proofs.FollowLemmas.{shadow_read}
use Rattle.folded.proofs.TrackLemmas.{Agree, agree_hook, tracked_moved}
use Rattle.folded.proofs.tracker.Tracker.leave_hook.Goals as goal

pub returns : goal.returns
returns c =
    let v = c.args.self.now in
    let h = c.args.hart in
    let s = c.index_mut-shadow.result.now in
    let p = c.index_mut-place.result.now in
    let nodes = v.tree.nodes.items in
    let read = shadow_read v.shadows.items h s c.requires.hart c.index_mut-shadow.ensures.value in
    let agree : Agree s.frames c.leave_hook.new.self.frames = subst (λ (x : Shadow). Agree s.frames x.frames) (sym c.leave_hook.ensures) (agree_hook c.args.to s) in
    let up : stack_of_node nodes c.go_up.new.self.node ≡ take (length c.leave_hook.new.self.frames) (stack_of_node nodes p.node) =
    c.go_up.ensures.stack ∙ ap (λ (x : List ℕ). take (length x) (stack_of_node nodes p.node)) c.frames.ensures.frames in
    record {
      shadows = ap (set v.shadows.items h) (c.leave_hook.ensures ∙ ap (after_hook c.args.to) (sym read));
      tree = refl;
      tracked = tracked_moved h v _ s c.leave_hook.new.self p c.go_up.new.self c.requires.hart read c.index_mut-place.ensures.value agree c.go_up.ensures.placed up refl refl refl;
    }
