-- The equations of the flow have one solution.
use Rattle.std.proofs.Common.{◌≡◌, ◌<◌, ℕ, zero, suc, ◌+◌, Bool, true, false, List, refl, ap, sym, ◌∙◌, arith}
use Rattle.std.specs.Prelude.{slice_index}
use Rattle.std.proofs.lemmas.Grind.{same_number_lists}
use Rattle.call_cycles.specs.Sums.{when}
use Rattle.call_cycles.specs.Graph.{GraphValue, IsGraph, arc_count, component_count, leaves, target_of}
use Rattle.call_cycles.specs.Flow.{FlowValue, IsFlow, part_of, carried_by, carried_from, self_in}
use Rattle.call_cycles.proofs.SumLemmas.{sum_ext}
use Rattle.call_cycles.proofs.NumberingLemmas.{target_within, goes_down}
use Rattle.propagate.specs.Solution.{carried_in}

pub when_ext : (b : Bool) (x y : ℕ) → (b ≡ true → x ≡ y) → when b x ≡ when b y
when_ext true x y same = same refl
when_ext false x y same = refl

pub part_same : (g : GraphValue) (time other : ℕ → ℕ) (i : ℕ) → time (target_of g i) ≡ other (target_of g i) → part_of g time i ≡ part_of g other i
part_same g time other i same = grind arith

-- what a component's arcs carry is known from the components before it
pub carried_same : (g : GraphValue) (is : IsGraph g) (shares : List ℕ) (child other : ℕ → ℕ) (c : ℕ)
    → ((d : ℕ) → d < c → child d ≡ other d)
    → carried_from g (carried_in g shares child) c ≡ carried_from g (carried_in g shares other) c
carried_same g is shares child other c before =
    sum_ext (arc_count g) _ _ (λ i below. when_ext (leaves g c i) _ _ (λ taken. ap (λ (x : ℕ). part_of g (self_in g shares) i + x) (part_same g child other i (there i below taken))))
  where
    there : (i : ℕ) → i < arc_count g → leaves g c i ≡ true → child (target_of g i) ≡ other (target_of g i)
    there i below taken = grind (arith, goes_down)

module _ (g : GraphValue) (shares : List ℕ) (is : IsGraph g) where
  -- the equation of the child times alone
  child_equation : (t : FlowValue) → IsFlow g shares t → (c : ℕ) → c < component_count g
      → slice_index t.child c ≡ carried_from g (carried_in g shares (slice_index t.child)) c
  child_equation t flow c below = flow.child c below ∙ sum_ext (arc_count g) _ _ (λ i h. ap (when (leaves g c i)) (both i h))
    where
      both : (i : ℕ) → i < arc_count g → slice_index t.arc_self i + slice_index t.arc_child i ≡ part_of g (self_in g shares) i + part_of g (slice_index t.child) i
      both i h = rw (flow.arc_self i h, flow.arc_child i h) (ap (λ (x : ℕ). x + part_of g (slice_index t.child) i) (part_same g (slice_index t.self) (self_in g shares) i (flow.self (target_of g i) (target_within g is i h))))

  module _ (t u : FlowValue) (one : IsFlow g shares t) (two : IsFlow g shares u) where
    same_below : (n : ℕ) (c : ℕ) → c < n → c < component_count g → slice_index t.child c ≡ slice_index u.child c
    same_below zero c low below = absurd (omega arith)
    same_below (suc n) c low below =
        child_equation t one c below
        ∙ carried_same g is shares (slice_index t.child) (slice_index u.child) c (λ d less. same_below n d (omega arith) (omega arith))
        ∙ sym (child_equation u two c below)

    same_child : (c : ℕ) → c < component_count g → slice_index t.child c ≡ slice_index u.child c
    same_child c below = same_below (component_count g) c below below

    same_self : (c : ℕ) → c < component_count g → slice_index t.self c ≡ slice_index u.self c
    same_self c below = one.self c below ∙ sym (two.self c below)

    same_part : (i : ℕ) (x y : ℕ → ℕ) {a b : ℕ} → i < arc_count g → a ≡ part_of g x i → b ≡ part_of g y i → ((c : ℕ) → c < component_count g → x c ≡ y c) → a ≡ b
    same_part i x y below p q same = p ∙ part_same g x y i (same (target_of g i) (target_within g is i below)) ∙ sym q

    same_arc_self : (i : ℕ) → i < arc_count g → slice_index t.arc_self i ≡ slice_index u.arc_self i
    same_arc_self i below = same_part i (slice_index t.self) (slice_index u.self) below (one.arc_self i below) (two.arc_self i below) same_self

    same_arc_child : (i : ℕ) → i < arc_count g → slice_index t.arc_child i ≡ slice_index u.arc_child i
    same_arc_child i below = same_part i (slice_index t.child) (slice_index u.child) below (one.arc_child i below) (two.arc_child i below) same_child

    same_carried : (i : ℕ) → i < arc_count g → carried_by t i ≡ carried_by u i
    same_carried i below = omega (arith, same_arc_self i below, same_arc_child i below)

    same_value : t.self ≡ u.self → t.child ≡ u.child → t.arc_self ≡ u.arc_self → t.arc_child ≡ u.arc_child → t.member_child ≡ u.member_child → t ≡ u
    same_value p q r s m = λ i. record { self = p i; child = q i; arc_self = r i; arc_child = s i; member_child = m i }

    pub one_flow : t ≡ u
    one_flow = grind (arith, same_value, same_number_lists, same_self, same_child, same_arc_self)
