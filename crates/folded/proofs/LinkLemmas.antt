-- Nodes are found by their links.
use Rattle.std.proofs.Common.{◌≡◌, ◌∙◌, ◌+◌, ◌/◌, ◌<◌, ◌≤◌, ◌++◌, ◌⊎◌, inl, inr, ℕ, zero, suc, Bool, true, false, List, [], ◌∷◌, length, get_or, set, ap, arith, cond, refl, sym, subst, Option, None}
use Rattle.std.proofs.lemmas.List.{get_or_default, get_or-set_other, get_or-set_same, get_or_append_left, get_or_push, length-set, length_push}
use Rattle.folded.specs.declared.links.Links.{Links}
use Rattle.folded.specs.declared.links.Side.{Side}
use Rattle.folded.specs.declared.links.Side.TheVariants.{Callees, Low, High}
use Rattle.folded.specs.Links.{AreLinked, IsReached, bits_after, bits_of, link_at, link_of, no_links, node_of, reached, side_after, side_of, with_link}
use Rattle.folded.proofs.NodeLemmas.{Nodes}

abbrev node_at : Nodes → ℕ → ℕ × Option ℕ
node_at nodes i = get_or nodes i (0, None)

-- where the search for a node stands
pub record Seeks (nodes : Nodes) (links : List Links) (caller : ℕ) (function : Option ℕ) (node : ℕ) (side : Side) (bits : ℕ) : Type 0 where
  pub reached : IsReached nodes links caller function node side
  pub rest : bits ≡ bits_after (bits_of function) reached.steps

-- ---- numbers

below_or_same : (k m : ℕ) → (k < m) ⊎ (m ≤ k)
below_or_same k zero = inr (omega arith)
below_or_same zero (suc m) = inl (omega arith)
below_or_same (suc k) (suc m) = by (below_or_same k m)
  where
    by : (k < m) ⊎ (m ≤ k) → (suc k < suc m) ⊎ (suc m ≤ suc k)
    by this = grind arith

none_or_some : (n : ℕ) → (n ≡ 0) ⊎ (0 < n)
none_or_some n = grind arith

-- ---- the way to a node

module _ (nodes : Nodes) (links : List Links) (is : AreLinked nodes links) (caller bits : ℕ) where
  no_side : (b : Bool) → link_at links 0 (cond b High Low) ≡ 0
  no_side b = grind arith

  none_next : (k : ℕ) → reached links caller bits (suc k) ≡ 0 → reached links caller bits (suc (suc k)) ≡ 0
  none_next k none = ap (λ (n : ℕ). link_at links n (side_after bits (suc k))) none ∙ no_side _

  -- behind an empty link there is none
  none_after : (k m : ℕ) → k ≤ m → reached links caller bits (suc k) ≡ 0 → reached links caller bits (suc m) ≡ 0
  none_after k zero le none = let same : suc 0 ≡ suc k = omega (arith, le) in ap (λ (n : ℕ). reached links caller bits n) same ∙ none
  none_after k (suc m) le none = by (λ less. none_after k m less none) (below_or_same k (suc m))
    where
      by : (k ≤ m → reached links caller bits (suc m) ≡ 0) → (k < suc m) ⊎ (suc m ≤ k) → reached links caller bits (suc (suc m)) ≡ 0
      by before (inl less) = none_next m (before (omega (arith, less)))
      by before (inr more) = let same : suc (suc m) ≡ suc k = omega (arith, le, more) in ap (λ (n : ℕ). reached links caller bits n) same ∙ none

-- no node is that of a function and a caller whose search ends at an empty link
pub nowhere : (nodes : Nodes) (links : List Links) (caller : ℕ) (function : Option ℕ) (node : ℕ) (side : Side) → AreLinked nodes links → IsReached nodes links caller function node side → link_at links node side ≡ 0
    → (i : ℕ) → i < length nodes → node_at nodes i ≡ (caller, function) → ⊥
nowhere nodes links caller function node side is r empty i inside same = by (below_or_same way.0 r.steps)
  where
    way : (k : ℕ) × (reached links (node_at nodes i).0 (bits_of (node_at nodes i).1) (suc k) ≡ suc i)
    way = is.found i inside

    here : reached links caller (bits_of function) (suc way.0) ≡ suc i
    here = sym (ap (λ (n : ℕ × Option ℕ). reached links n.0 (bits_of n.1) (suc way.0)) same) ∙ way.1

    none : reached links caller (bits_of function) (suc r.steps) ≡ 0
    none = (λ t. link_at links (sym r.node_is t) (sym r.side_is t)) ∙ empty

    by : (way.0 < r.steps) ⊎ (r.steps ≤ way.0) → ⊥
    by (inl less) = r.passed way.0 i less here same
    by (inr more) = let zero_there = none_after nodes links is caller (bits_of function) r.steps way.0 more none in omega (arith, here, zero_there)

-- ---- the search

pub link_read : (links : List Links) (n : ℕ) (side : Side) (l : Links) → n < length links → l ≡ get_or links n l → link_of side l ≡ link_at links n side
link_read links n side l inside is = ap (link_of side) (is ∙ get_or_default links n l no_links inside)

pub seek_first : (nodes : Nodes) (links : List Links) (caller : ℕ) (function : Option ℕ) → caller ≤ length nodes → Seeks nodes links caller function caller Callees (bits_of function)
seek_first nodes links caller function low = record {
  reached = record {
    inside = low;
    steps = 0;
    node_is = refl;
    side_is = refl;
    some = λ none. absurd (omega (arith, none));
    passed = λ k i less. absurd (omega (arith, less));
  };
  rest = refl;
}

pub seek_next : (nodes : Nodes) (links : List Links) (caller : ℕ) (function : Option ℕ) (node : ℕ) (side : Side) (bits next : ℕ) → AreLinked nodes links → Seeks nodes links caller function node side bits → next ≡ link_at links node side
    → 0 < next → (node_of nodes next ≡ (caller, function) → ⊥) → Seeks nodes links caller function next (side_of bits) (bits / 2)
seek_next nodes links caller function node side bits next is s next_is some other =
    let r = s.reached in
    let here : next ≡ reached links caller (bits_of function) (suc r.steps) = next_is ∙ (λ t. link_at links (r.node_is t) (r.side_is t)) in
    record {
      reached = record {
        inside = subst (λ (n : ℕ). n ≤ length nodes) (sym next_is) (is.inside node side);
        steps = suc r.steps;
        node_is = here;
        side_is = ap side_of s.rest;
        some = λ _. some;
        passed = λ k i less at same. by k i at same (below_or_same k r.steps) less here;
      };
      rest = ap (λ (n : ℕ). n / 2) s.rest;
    }
  where
    by : (k i : ℕ) → reached links caller (bits_of function) (suc k) ≡ suc i → node_at nodes i ≡ (caller, function) → (k < s.reached.steps) ⊎ (s.reached.steps ≤ k) → k < suc s.reached.steps → next ≡ reached links caller (bits_of function) (suc s.reached.steps) → ⊥
    by k i at same this less here = grind arith

-- ---- one more node

put_there : (side : Side) (n : ℕ) (l : Links) → link_of side (with_link side n l) ≡ n
put_there side n l = grind arith

put_or_not : (s side : Side) (n : ℕ) (l : Links) → (s ≡ side) ⊎ (link_of s (with_link side n l) ≡ link_of s l)
put_or_not s side n l = grind arith

pushed_none : (links : List Links) (n : ℕ) → get_or (links ++ no_links ∷ []) n no_links ≡ get_or links n no_links
pushed_none [] zero = refl
pushed_none [] (suc n) = refl
pushed_none (l ∷ links) zero = refl
pushed_none (l ∷ links) (suc n) = pushed_none links n

pub is_or_not : (k h : ℕ) → (k ≡ h) ⊎ ((k ≡ h) → ⊥)
is_or_not zero zero = inl refl
is_or_not zero (suc h) = inr (λ is. omega (arith, is))
is_or_not (suc k) zero = inr (λ is. omega (arith, is))
is_or_not (suc k) (suc h) = more (is_or_not k h)
  where
    more : (k ≡ h) ⊎ ((k ≡ h) → ⊥) → (suc k ≡ suc h) ⊎ ((suc k ≡ suc h) → ⊥)
    more this = grind arith

module _ (nodes : Nodes) (links : List Links) (caller : ℕ) (function : Option ℕ) (node : ℕ) (side : Side) (is : AreLinked nodes links) (r : IsReached nodes links caller function node side) (empty : link_at links node side ≡ 0) where
  abbrev number : ℕ
  number = length nodes + 1

  abbrev longer : List Links
  longer = links ++ no_links ∷ []

  abbrev more : Nodes
  more = nodes ++ (caller, function) ∷ []

  abbrev new : List Links
  new = set longer node (with_link side number (get_or longer node no_links))

  fits : node < length longer
  fits = omega (arith, length_push links no_links, is.numbers, r.inside)

  at_node : get_or new node no_links ≡ with_link side number (get_or longer node no_links)
  at_node = get_or-set_same longer node (with_link side number (get_or longer node no_links)) no_links fits

  new_there : link_at new node side ≡ number
  new_there = ap (link_of side) at_node ∙ put_there side number (get_or longer node no_links)

  -- no other link has changed
  changed : (n : ℕ) (s : Side) → ((n ≡ node) × (s ≡ side)) ⊎ (link_at new n s ≡ link_at links n s)
  changed n s = by (is_or_not n node)
    where
      by : (n ≡ node) ⊎ ((n ≡ node) → ⊥) → ((n ≡ node) × (s ≡ side)) ⊎ (link_at new n s ≡ link_at links n s)
      by (inr apart) = inr (ap (link_of s) (get_or-set_other longer node n (with_link side number (get_or longer node no_links)) no_links apart ∙ pushed_none links n))
      by (inl same) = on (put_or_not s side number (get_or longer node no_links))
        where
          on : (s ≡ side) ⊎ (link_of s (with_link side number (get_or longer node no_links)) ≡ link_of s (get_or longer node no_links)) → ((n ≡ node) × (s ≡ side)) ⊎ (link_at new n s ≡ link_at links n s)
          on this = grind (arith, at_node, pushed_none)

  there : (n : ℕ) (s : Side) → (n ≡ node) × (s ≡ side) → link_at new n s ≡ number
  there n s at = (λ t. link_at new (at.0 t) (at.1 t)) ∙ new_there

  stays : (n : ℕ) (s : Side) → 0 < link_at links n s → link_at new n s ≡ link_at links n s
  stays n s some = by (changed n s)
    where
      by : ((n ≡ node) × (s ≡ side)) ⊎ (link_at new n s ≡ link_at links n s) → link_at new n s ≡ link_at links n s
      by this = grind arith

  reached_still : (c bits k : ℕ) → 0 < reached links c bits (suc k) → reached new c bits (suc k) ≡ reached links c bits (suc k)
  reached_still c bits zero some = stays c Callees some
  reached_still c bits (suc k) some = by (reached_still c bits k) (none_or_some (reached links c bits (suc k)))
    where
      by : (0 < reached links c bits (suc k) → reached new c bits (suc k) ≡ reached links c bits (suc k)) → (reached links c bits (suc k) ≡ 0) ⊎ (0 < reached links c bits (suc k)) → reached new c bits (suc (suc k)) ≡ reached links c bits (suc (suc k))
      by still (inl none) = absurd (omega (arith, some, none_next nodes links is c bits k none))
      by still (inr before) = ap (λ (n : ℕ). link_at new n (side_after bits (suc k))) (still before) ∙ stays (reached links c bits (suc k)) (side_after bits (suc k)) some

  reached_node : (steps : ℕ) → node ≡ reached links caller (bits_of function) steps → (0 < steps → 0 < node) → reached new caller (bits_of function) steps ≡ node
  reached_node zero at some = sym at
  reached_node (suc k) at some = reached_still caller (bits_of function) k (subst (λ (n : ℕ). 0 < n) at (some (omega arith))) ∙ sym at

  root_still : (b : Bool) → link_at links 0 (cond b High Low) ≡ 0 → link_at new 0 (cond b High Low) ≡ 0
  root_still b was = by (changed 0 (cond b High Low))
    where
      by : ((0 ≡ node) × (cond b High Low ≡ side)) ⊎ (link_at new 0 (cond b High Low) ≡ link_at links 0 (cond b High Low)) → link_at new 0 (cond b High Low) ≡ 0
      by this = grind arith

  long : length more ≡ length nodes + 1
  long = length_push nodes (caller, function)

  pub linked_made : AreLinked more new
  linked_made = record {
    numbers = omega (arith, length-set longer node (with_link side number (get_or longer node no_links)), length_push links no_links, is.numbers, long);
    inside = λ n s. inside_at n s (changed n s);
    later = λ n s. later_at n s (changed n s);
    low = root_still false is.low;
    high = root_still true is.high;
    found = λ i fits. found_at i (is_or_not i (length nodes)) (omega (arith, fits, long));
  }
    where
      inside_at : (n : ℕ) (s : Side) → ((n ≡ node) × (s ≡ side)) ⊎ (link_at new n s ≡ link_at links n s) → link_at new n s ≤ length more
      inside_at n s this = grind (arith, there, long)

      later_at : (n : ℕ) (s : Side) → ((n ≡ node) × (s ≡ side)) ⊎ (link_at new n s ≡ link_at links n s) → (link_at new n s ≡ 0) ⊎ (n < link_at new n s)
      later_at n s (inl at) = inr (omega (arith, there n s at, at.0, r.inside))
      later_at n s (inr same) = as_it_was (is.later n s)
        where
          as_it_was : (link_at links n s ≡ 0) ⊎ (n < link_at links n s) → (link_at new n s ≡ 0) ⊎ (n < link_at new n s)
          as_it_was this = grind arith

      found_at : (i : ℕ) → (i ≡ length nodes) ⊎ ((i ≡ length nodes) → ⊥) → i < length nodes + 1 → (k : ℕ) × (reached new (node_at more i).0 (bits_of (node_at more i).1) (suc k) ≡ suc i)
      found_at i (inl last) below = grind (arith, get_or_push, reached_node, new_there)
      found_at i (inr apart) below =
          let less : i < length nodes = before (below_or_same i (length nodes)) in
          let way = is.found i less in
          let some : 0 < reached links (node_at nodes i).0 (bits_of (node_at nodes i).1) (suc way.0) = omega (arith, way.1) in (
            way.0,
            ap (λ (n : ℕ × Option ℕ). reached new n.0 (bits_of n.1) (suc way.0)) (get_or_append_left nodes ((caller, function) ∷ []) (0, None) i less)
                ∙ reached_still (node_at nodes i).0 (bits_of (node_at nodes i).1) way.0 some ∙ way.1,
          )
        where
          before : (i < length nodes) ⊎ (length nodes ≤ i) → i < length nodes
          before this = grind arith
