-- How many functions are reached, and ranks that never rise along arcs.
use Rattle.std.proofs.Common.{◌≡◌, ◌<◌, ◌≤◌, ◌↔◌, ℕ, zero, suc, ◌+◌, Bool, true, false, cond, List, [], ◌∷◌, length, get_or, ap, sym, ◌∙◌, arith}
use Rattle.std.specs.List.{count_by}
use Rattle.std.proofs.lemmas.Bool.{true≢false}
use Rattle.std.proofs.lemmas.List.Sums.{sum_by-cons}
use Rattle.call_cycles.specs.declared.graphs.FunArc.{FunArc}
use Rattle.std.specs.Prelude.{slice_index}
use Rattle.call_cycles.specs.Graph.{no_arc}
use Rattle.call_cycles.specs.Walks.{IsWalk, Reaches}
use Rattle.call_cycles.specs.Leaders.{AreRanks}
use Rattle.call_cycles.proofs.WalkLemmas.{reaches_itself, reaches_on, one_is_at}

-- the list says of each of n functions whether f reaches it
pub record IsReached (n : ℕ) (arcs : List FunArc) (f : ℕ) (marks : List Bool) : Type 0 where
  pub len : length marks ≡ n
  pub each : (h : ℕ) → h < n → (get_or marks h false ≡ true) ↔ Reaches arcs f h

-- f reaches k of n functions
abbrev pub IsCount : ℕ → List FunArc → ℕ → ℕ → Type 0
IsCount n arcs f k = (marks : List Bool) × IsReached n arcs f marks × (k ≡ count_by (λ b. b) marks)

-- a rank falls from a function to those that it reaches, but for those that reach it too
pub record IsRank (n : ℕ) (arcs : List FunArc) (rank : List ℕ) : Type 0 where
  pub len : length rank ≡ n
  pub falls : (f h : ℕ) → f < n → h < n → Reaches arcs f h → slice_index rank h ≤ slice_index rank f
  pub stays : (f h : ℕ) → f < n → h < n → Reaches arcs f h → (slice_index rank h ≡ slice_index rank f) ↔ Reaches arcs h f

count : List Bool → ℕ
count xs = count_by (λ (b : Bool). b) xs

count_cons : (b : Bool) (xs : List Bool) → count (b ∷ xs) ≡ cond b 1 0 + count xs
unfolding count
count_cons b xs = sum_by-cons (λ (c : Bool). cond c 1 0) b xs

bit_le : (a b : Bool) → (a ≡ true → b ≡ true) → cond a 1 0 ≤ cond b 1 0
bit_le a b h = grind (arith, true≢false)

count_le : (xs ys : List Bool) → length xs ≡ length ys → ((i : ℕ) → i < length xs → get_or xs i false ≡ true → get_or ys i false ≡ true) → count xs ≤ count ys
unfolding count
count_le [] [] len h = omega arith
count_le [] (y ∷ ys) len h = absurd (omega arith)
count_le (x ∷ xs) [] len h = absurd (omega arith)
count_le (x ∷ xs) (y ∷ ys) len h =
    let ih = count_le xs ys (omega arith) (λ i below. h (suc i) (omega arith)) in
    omega (arith, bit_le x y (h 0 (omega arith)), count_cons x xs, count_cons y ys)

count_lt : (xs ys : List Bool) (k : ℕ) → length xs ≡ length ys → ((i : ℕ) → i < length xs → get_or xs i false ≡ true → get_or ys i false ≡ true)
    → k < length xs → get_or xs k false ≡ false → get_or ys k false ≡ true → count xs < count ys
count_lt [] ys k len h below off on = absurd (omega arith)
count_lt (x ∷ xs) [] k len h below off on = absurd (omega arith)
count_lt (x ∷ xs) (y ∷ ys) zero len h below off on =
    grind (arith, count_le xs ys (omega arith) (λ i b. h (suc i) (omega arith)), count_cons x xs, count_cons y ys)
count_lt (x ∷ xs) (y ∷ ys) (suc k) len h below off on =
    let ih = count_lt xs ys k (omega arith) (λ i b. h (suc i) (omega arith)) (omega arith) off on in
    omega (arith, bit_le x y (h 0 (omega arith)), count_cons x xs, count_cons y ys)

module _ (n : ℕ) (arcs : List FunArc) (f h a b : ℕ) (f_below : f < n) (h_below : h < n) (at_f : IsCount n arcs f a) (at_h : IsCount n arcs h b) where
  subset : Reaches arcs f h → (i : ℕ) → i < length at_h.0 → get_or at_h.0 i false ≡ true → get_or at_f.0 i false ≡ true
  subset r i below on = grind (arith, reaches_on)

  rank_falls : Reaches arcs f h → b ≤ a
  unfolding count
  rank_falls r = let le = count_le at_h.0 at_f.0 (at_h.1.len ∙ sym at_f.1.len) (subset r) in let p = at_f.2 in let q = at_h.2 in omega arith

  rank_same_back : Reaches arcs f h → b ≡ a → Reaches arcs h f
  unfolding count
  rank_same_back r same = grind (arith, count_lt, subset, reaches_itself)

rank_stays : (n : ℕ) (arcs : List FunArc) (f h a b : ℕ) → f < n → h < n → IsCount n arcs f a → IsCount n arcs h b → Reaches arcs f h → (b ≡ a) ↔ Reaches arcs h f
rank_stays n arcs f h a b f_below h_below at_f at_h r = (
  rank_same_back n arcs f h a b f_below h_below at_f at_h r,
  λ back.
      let one = rank_falls n arcs f h a b f_below h_below at_f at_h r in
      let two = rank_falls n arcs h f b a h_below f_below at_h at_f back in
      omega arith,
)

pub are_ranks : (n : ℕ) (arcs : List FunArc) (rank : List ℕ) → length rank ≡ n → ((f : ℕ) → f < n → IsCount n arcs f (get_or rank f 0)) → IsRank n arcs rank
are_ranks n arcs rank len counts = record {
  len = len;
  falls = λ f h fb hb r. rank_falls n arcs f h _ _ fb hb (counts f fb) (counts h hb) r;
  stays = λ f h fb hb r. rank_stays n arcs f h _ _ fb hb (counts f fb) (counts h hb) r;
}

-- ---- ranks that never rise along arcs

walk_falls : (arcs : List FunArc) (rank : ℕ → ℕ) → ((i : ℕ) → i < length arcs → rank (get_or arcs i no_arc).callee ≤ rank (get_or arcs i no_arc).caller) → (f g : ℕ) (w : List FunArc) → IsWalk arcs f w g → rank g ≤ rank f
walk_falls arcs rank falls f g [] walk = let e : rank f ≡ rank g = ap rank walk in omega arith
walk_falls arcs rank falls f g (a ∷ w) walk =
    let at = one_is_at arcs a walk.0 in
    let rest = walk_falls arcs rank falls a.callee g w walk.2 in
    let from : rank (get_or arcs at.0 no_arc).caller ≡ rank f = ap rank (ap (λ (b : FunArc). b.caller) at.2 ∙ walk.1) in
    let to : rank (get_or arcs at.0 no_arc).callee ≡ rank a.callee = ap (λ (b : FunArc). rank b.callee) at.2 in
    omega arith

pub falls_along : (arcs : List FunArc) (rank : ℕ → ℕ) → ((i : ℕ) → i < length arcs → rank (get_or arcs i no_arc).callee ≤ rank (get_or arcs i no_arc).caller) → (f g : ℕ) → Reaches arcs f g → rank g ≤ rank f
unfolding Reaches
falls_along arcs rank falls f g r = walk_falls arcs rank falls f g r.0 r.1

pub rank_of_ranks : (n : ℕ) (arcs : List FunArc) (ranks : List ℕ) → AreRanks n arcs ranks → IsRank n arcs ranks
rank_of_ranks n arcs ranks are = record {
  len = are.len;
  falls = λ f h fb hb r. falls_along arcs (slice_index ranks) are.falls f h r;
  stays = λ f h fb hb r. (λ same. ((are.joined h f hb fb).0 same).0, λ back. (are.joined h f hb fb).1 (back, r));
}
