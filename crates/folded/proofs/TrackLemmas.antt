-- Each hart's place follows its shadow.
use Rattle.std.proofs.Common.{append-nil, ◌≡◌, ◌∙◌, ◌+◌, ◌-◌, ◌<◌, ◌≤◌, ◌++◌, ◌&&◌, ◌⊎◌, inl, inr, ℕ, zero, suc, Bool, not, nat_lt, eqb, List, [], ◌∷◌, length, get_or, replicate, set, take, map, min, ap, arith, refl, sym, subst, Option, if◌then◌else◌}
use Rattle.std.proofs.lemmas.List.{get_or_default, get_or-replicate, get_or-set_other, get_or-set_same, length-append, length-map, length-replicate, length_push, length-set, length-take, take-map, take-take, take_all, take_at, take_min}
use Rattle.elf32_syms.specs.declared.image.Symbol.{Symbol}
use Rattle.rv_step.specs.Step.{next_of}
use Rattle.prof_machine.specs.declared.notes.Ran.{Ran}
use Rattle.folded.specs.Folding.{IsTracked}
use Rattle.folded.specs.Nodes.{IsOn, IsPlaced, IsTreeFor, NodesAdded, first_place, stack_of_node}
use Rattle.folded.specs.Shadow.{Shadow, after_hook, after_instruction, after_ran, empty_shadow, frames_before, is_call, is_in_frames, is_return, with_call, with_return}
use Rattle.folded.specs.Stacks.{caller_in}
use Rattle.folded.specs.declared.place.Place.{Place}
use Rattle.folded.specs.Trail.{shadow_of}
use Rattle.folded.specs.declared.tracker.Tracker.{Tracker}
use Rattle.folded.proofs.NodeLemmas.{Nodes, Stack, stack_of_none}
use Rattle.folded.proofs.PlaceLemmas.{stack_stays}

-- one list is a front of the other
abbrev pub Agree : {X : Type 0} → List X → List X → Type 0
Agree old new = take (length old) new ≡ take (length new) old

front_of : (to : ℕ) (xs : List ℕ) → (length (frames_before to xs) ≤ length xs) × (frames_before to xs ≡ take (length (frames_before to xs)) xs)
front_of to [] = (omega arith, refl)
front_of to (x ∷ xs) = by (eqb x to && not (is_in_frames to xs)) (front_of to xs)
  where
    by : (b : Bool) → (length (frames_before to xs) ≤ length xs) × (frames_before to xs ≡ take (length (frames_before to xs)) xs)
        → (length (if b then [] else x ∷ frames_before to xs) ≤ length (x ∷ xs)) × ((if b then [] else x ∷ frames_before to xs) ≡ take (length (if b then [] else x ∷ frames_before to xs)) (x ∷ xs))
    by b later = grind arith

agree_call : (to : ℕ) (s : Shadow) → Agree s.frames (with_call to s).frames
unfolding with_call
agree_call to s = by (nat_lt (length s.frames) 128)
  where
    by : (b : Bool) → Agree s.frames (if b then record s { frames = s.frames ++ to ∷ [] } else record s { over = s.over + 1 }).frames
    by b = grind (arith, take_at, take_all, length_push)

agree_return : (to : ℕ) (s : Shadow) → Agree s.frames (with_return to s).frames
unfolding with_return
agree_return to s = by (nat_lt 0 s.over)
  where
    by : (b : Bool) → Agree s.frames (if b then record s { over = s.over - 1 } else record s { frames = frames_before to s.frames }).frames
    by b = grind (arith, front_of, take_all)

agree_instruction : (r : Ran) (s : Shadow) → Agree s.frames (after_instruction r s).frames
unfolding after_instruction
agree_instruction r s = by (is_call r.instr) (is_return r.instr)
  where
    by : (b c : Bool) → Agree s.frames (if b then with_call (next_of r.pc) s else (if c then with_return r.next s else s)).frames
    by b c = grind (arith, agree_call, agree_return)

pub agree_ran : (ran : Option Ran) (s : Shadow) → Agree s.frames (after_ran ran s).frames
agree_ran ran s = grind (arith, agree_instruction)

pub agree_hook : (to : Option ℕ) (s : Shadow) → Agree s.frames (after_hook to s).frames
agree_hook to s = grind (arith, agree_return)

agree_map : (f : ℕ → Option ℕ) (old new : List ℕ) → Agree old new → Agree (map f old) (map f new)
agree_map f old new agree = grind (arith, length-map, take-map)

-- ---- a place after its shadow has changed

on_calls : (nodes : Nodes) (old new : Stack) (p q : Place) → Agree old new → IsOn nodes old p → IsPlaced nodes q → stack_of_node nodes q.node ≡ take (length new) (stack_of_node nodes p.node) → IsOn nodes new q
on_calls nodes old new p q agree was placed is =
    let s = stack_of_node nodes p.node in
    let deep : q.depth ≡ min (length new) (length s) = sym placed.depth ∙ ap (λ (x : Stack). length x) is ∙ length-take (length new) s in
    let long : p.depth ≡ length s = sym was.placed.depth in
    let fits : length s ≡ min p.depth (length old) = ap (λ (x : Stack). length x) was.begins ∙ length-take p.depth old in
    let by_depth : stack_of_node nodes q.node ≡ take q.depth old =
    is ∙ sym (take_min (length new) s) ∙ ap (λ (n : ℕ). take n s) (sym deep) ∙ ap (take q.depth) was.begins ∙ take-take q.depth p.depth old (omega (arith, deep, long)) in
    let front : take q.depth old ≡ take q.depth new =
    sym (take-take q.depth (length new) old (omega (arith, deep))) ∙ ap (take q.depth) (sym agree) ∙ take-take q.depth (length old) new (omega (arith, deep, fits)) in
    record { placed = placed; begins = by_depth ∙ front }

pub on_frames : (symbols : List Symbol) (nodes : Nodes) (old new : List ℕ) (p q : Place) → Agree old new → IsOn nodes (map (caller_in symbols) old) p → IsPlaced nodes q
    → stack_of_node nodes q.node ≡ take (length new) (stack_of_node nodes p.node) → IsOn nodes (map (caller_in symbols) new) q
on_frames symbols nodes old new p q agree was placed is = search (on_calls, agree_map, length-map)

-- and after nodes were added
pub on_stays : (nodes new : Nodes) (calls : Stack) (p : Place) → NodesAdded nodes new → IsOn nodes calls p → IsOn new calls p
on_stays nodes new calls p added was = grind (arith, stack_stays, length-append)

-- ---- all harts

pub first_tracked : (symbols : List Symbol) (v : Tracker) (harts : ℕ) → v.shadows.items ≡ replicate harts empty_shadow → v.places.items ≡ replicate harts first_place → IsTreeFor symbols v.tree → IsTracked symbols v
first_tracked symbols v harts shadows places tree = grind (arith, length-replicate, get_or-replicate, stack_of_none)

pub tracked_next : (symbols : List Symbol) (v w : Tracker) (h : ℕ) (s : Shadow) (p : Place) → h < length v.shadows.items → w.shadows.items ≡ set v.shadows.items h s → w.places.items ≡ set v.places.items h p → IsTreeFor symbols w.tree
    → NodesAdded v.tree.nodes.items w.tree.nodes.items → IsOn w.tree.nodes.items (map (caller_in symbols) s.frames) p → IsTracked symbols v → IsTracked symbols w
tracked_next symbols v w h s p inside shadows places tree added on was = record {
  tree = tree;
  harts = ap (λ (x : List Place). length x) places ∙ length-set v.places.items h p ∙ was.harts ∙ sym (ap (λ (x : List Shadow). length x) shadows ∙ length-set v.shadows.items h s);
  places = λ k fits. (
      let short : k < length v.shadows.items = omega (arith, fits, ap (λ (x : List Shadow). length x) shadows, length-set v.shadows.items h s) in
      by k short (same_or_not k h)
      );
}
  where
    by : (k : ℕ) → k < length v.shadows.items → (k ≡ h) ⊎ ((k ≡ h) → ⊥) → IsOn w.tree.nodes.items (map (caller_in symbols) (get_or w.shadows.items k empty_shadow).frames) (get_or w.places.items k first_place)
    by k short (inl same) = grind (arith, get_or-set_same)
    by k short (inr apart) =
        let shadow : get_or w.shadows.items k empty_shadow ≡ get_or v.shadows.items k empty_shadow = ap (λ (x : List Shadow). get_or x k empty_shadow) shadows ∙ get_or-set_other v.shadows.items h k s empty_shadow apart in
        let place : get_or w.places.items k first_place ≡ get_or v.places.items k first_place = ap (λ (x : List Place). get_or x k first_place) places ∙ get_or-set_other v.places.items h k p first_place apart in
        let stays = on_stays v.tree.nodes.items w.tree.nodes.items (map (caller_in symbols) (get_or v.shadows.items k empty_shadow).frames) (get_or v.places.items k first_place) added (was.places k short) in
        subst (λ (x : Shadow). IsOn w.tree.nodes.items (map (caller_in symbols) x.frames) (get_or w.places.items k first_place)) (sym shadow)
        (subst (λ (y : Place). IsOn w.tree.nodes.items (map (caller_in symbols) (get_or v.shadows.items k empty_shadow).frames) y) (sym place) stays)

    same_or_not : (k h : ℕ) → (k ≡ h) ⊎ ((k ≡ h) → ⊥)
    same_or_not zero zero = inl refl
    same_or_not zero (suc h) = inr (λ is. omega (arith, is))
    same_or_not (suc k) zero = inr (λ is. omega (arith, is))
    same_or_not (suc k) (suc h) = more (same_or_not k h)
      where
        more : (k ≡ h) ⊎ ((k ≡ h) → ⊥) → (suc k ≡ suc h) ⊎ ((suc k ≡ suc h) → ⊥)
        more this = grind arith

-- the hart's shadow has changed, one of its frames being a front of the other's, and its place has gone up with it
pub tracked_moved : (h : ℕ) (v w : Tracker) (s t : Shadow) (p q : Place) → h < length v.shadows.items → shadow_of v.shadows.items h ≡ s → p ≡ get_or v.places.items h p → Agree s.frames t.frames
    → IsPlaced v.tree.nodes.items q → stack_of_node v.tree.nodes.items q.node ≡ take (length t.frames) (stack_of_node v.tree.nodes.items p.node)
    → w.shadows.items ≡ set v.shadows.items h t → w.places.items ≡ set v.places.items h q → w.tree ≡ v.tree → (symbols : List Symbol) → IsTracked symbols v → IsTracked symbols w
tracked_moved h v w s t p q inside read place agree placed is shadows places same symbols was =
    grind (arith, get_or_default, on_frames, tracked_next, append-nil)
