use Rattle.std.proofs.Common.{◌≡◌, ◌∙◌, ℕ, List, true, ap, length, refl, set, subst, sym, take}
use Rattle.std.proofs.lemmas.List.{set-get_or}
use Rattle.folded.specs.Nodes.{stack_of_node}
use Rattle.folded.specs.Shadow.{Shadow, after_ran, empty_shadow, keeps_shadow}
use Rattle.folded.specs.Trail.{shadow_of}
use Rattle.folded.proofs.FollowLemmas.{shadow_read, still_ran}
use Rattle.folded.proofs.TrackLemmas.{Agree, agree_ran, tracked_moved}
use Rattle.folded.proofs.tracker.Tracker.run.Goals as goal

pub returns-then-keeps_shadow : goal.returns-then-keeps_shadow
returns-then-keeps_shadow c =
    let xs = c.args.self.now.shadows.items in
    let h = c.args.hart in
    let still : keeps_shadow c.args.ran ≡ true = sym c.keeps_shadow.ensures ∙ c.if-keeps_shadow.true in
    record {
      shadows = sym (ap (set xs h) (still_ran c.args.ran (shadow_of xs h) still) ∙ set-get_or xs h empty_shadow);
      tree = refl;
      tracked = λ symbols was. was;
    }

pub returns : goal.returns
returns c =
    let v = c.args.self.now in
    let h = c.args.hart in
    let s = c.index_mut-shadow.result.now in
    let p = c.index_mut-place.result.now in
    let nodes = v.tree.nodes.items in
    let read = shadow_read v.shadows.items h s c.requires.hart c.index_mut-shadow.ensures.value in
    let agree : Agree s.frames c.run.new.self.frames = subst (λ (x : Shadow). Agree s.frames x.frames) (sym c.run.ensures) (agree_ran c.args.ran s) in
    let up : stack_of_node nodes c.go_up.new.self.node ≡ take (length c.run.new.self.frames) (stack_of_node nodes p.node) =
    c.go_up.ensures.stack ∙ ap (λ (x : List ℕ). take (length x) (stack_of_node nodes p.node)) c.frames.ensures.frames in
    record {
      shadows = ap (set v.shadows.items h) (c.run.ensures ∙ ap (after_ran c.args.ran) (sym read));
      tree = refl;
      tracked = tracked_moved h v _ s c.run.new.self p c.go_up.new.self c.requires.hart read c.index_mut-place.ensures.value agree c.go_up.ensures.placed up refl refl refl;
    }
