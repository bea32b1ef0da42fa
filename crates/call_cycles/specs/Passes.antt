-- A depth-first pass over functions and their arcs, and what holds after each of its steps.
-- Only private functions and invariants speak of it.
use Rattle.std.specs.Prelude.{◌≡◌, ◌≢◌, ◌<◌, ◌≤◌, ◌+◌, ◌-◌, ◌*◌, ◌^◌, ◌==◌, if◌then◌else◌, ℕ, suc, List, [], ◌∷◌, ◌++◌, length, take, drop, fold, replicate, slice_index, slice_index_or, slice_set}
use Rattle.std.proofs.Common.{◌⊎◌}
use Rattle.std.specs.List.{All, AllPairs, Contains, count_by, sum_by}
use Rattle.call_cycles.specs.declared.depth.Pass.{Pass}
use Rattle.call_cycles.specs.declared.graphs.FunArc.{FunArc}
use Rattle.call_cycles.specs.Graph.{no_arc}
use Rattle.call_cycles.specs.Walks.{Reaches}

abbrev pub caller_at : List FunArc → ℕ → ℕ
caller_at arcs i = (slice_index_or arcs i no_arc).caller

abbrev pub callee_at : List FunArc → ℕ → ℕ
callee_at arcs i = (slice_index_or arcs i no_arc).callee

-- the function was seen, and its component isn't known yet
abbrev pub IsOpen : (ℕ → ℕ) → (ℕ → ℕ) → ℕ → Type 0
IsOpen place rank w = (place w ≢ 0) × (rank w ≡ 0)

-- no part begins after p and up to q
abbrev pub NoPart : List ℕ → ℕ → ℕ → Type 0
NoPart parts p q = (b : ℕ) → Contains parts b → p < b → b ≤ q → ⊥

-- the arc was followed: its callee has a component, or is in one part with the caller
abbrev pub IsFollowed : List FunArc → (ℕ → ℕ) → (ℕ → ℕ) → List ℕ → ℕ → Type 0
IsFollowed arcs place rank parts i =
    (rank (callee_at arcs i) ≢ 0)
    ⊎ (IsOpen place rank (callee_at arcs i) × NoPart parts (place (caller_at arcs i)) (place (callee_at arcs i)) × NoPart parts (place (callee_at arcs i)) (place (caller_at arcs i)))

-- all arcs of a function come before the one that is next
abbrev pub AllFollowed : List FunArc → (ℕ → ℕ) → ℕ → Type 0
AllFollowed arcs next w = (i : ℕ) → i < length arcs → caller_at arcs i ≡ w → i < next w

-- Open functions have places, in the order in which they were seen, and the places fall into parts: parts has those with
-- which they begin. The functions of calls have arcs that are still to be followed. Ranks are at most done.
pub record IsSearch (arcs : List FunArc) (place rank next : ℕ → ℕ) (parts calls : List ℕ) (done : ℕ) : Type 0 where
  pub unseen : (w : ℕ) → place w ≡ 0 → rank w ≡ 0
  pub low : (w : ℕ) → rank w ≤ done
  -- an open function reaches those that were seen later, and those of its own part
  pub later : (u w : ℕ) → IsOpen place rank u → IsOpen place rank w → place u ≤ place w → Reaches arcs u w
  pub back : (u w : ℕ) → IsOpen place rank u → IsOpen place rank w → place u ≤ place w → NoPart parts (place u) (place w) → Reaches arcs w u
  -- ranks fall along arcs, and functions of one rank reach one another
  pub closed : (i : ℕ) → i < length arcs → rank (caller_at arcs i) ≢ 0 → (rank (callee_at arcs i) ≢ 0) × (rank (callee_at arcs i) ≤ rank (caller_at arcs i))
  pub together : (u w : ℕ) → rank u ≢ 0 → rank u ≡ rank w → Reaches arcs u w
  pub followed : (i : ℕ) → i < length arcs → IsOpen place rank (caller_at arcs i) → i < next (caller_at arcs i) → IsFollowed arcs place rank parts i
  -- each open function is in a part, and each part begins with a function of calls
  pub cover : (w : ℕ) → IsOpen place rank w → (b : ℕ) × Contains parts b × (b ≤ place w)
  pub begins : (b : ℕ) → Contains parts b → (u : ℕ) × Contains calls u × (place u ≡ b)
  pub calls_open : All (IsOpen place rank) calls
  pub calls_rise : AllPairs (λ u w. place u < place w) calls
  pub finished : (w : ℕ) → IsOpen place rank w → (Contains calls w → ⊥) → AllFollowed arcs next w

-- where the arcs of each of n functions begin: its own are not below this number, and from it on there are only its own and those of later functions
pub record AreFirst (n : ℕ) (arcs : List FunArc) (first : List ℕ) : Type 0 where
  pub len : length first ≡ n
  pub within : (w : ℕ) → w < n → slice_index first w ≤ length arcs
  pub begins : (i : ℕ) → i < length arcs → slice_index first (caller_at arcs i) ≤ i
  pub from : (w i : ℕ) → w < n → i < length arcs → slice_index first w ≤ i → w ≤ caller_at arcs i

-- what a pass has
pub record PassValue : Type 0 where
  -- the place that each function got when it was seen, counted from 1; 0 for one that wasn't
  pub places : List ℕ
  -- of each function: how many had components when its own was known; 0 where it isn't
  pub ranks : List ℕ
  -- the arc of each function that is followed next
  pub next : List ℕ
  -- the open functions in order of place
  pub path : List ℕ
  pub parts : List ℕ
  pub calls : List ℕ
  -- the functions that have components, in order of rank
  pub order : List ℕ

abbrev pub rank_in : PassValue → ℕ → ℕ
rank_in p = slice_index p.ranks

abbrev pub place_in : PassValue → ℕ → ℕ
place_in p = slice_index p.places

abbrev pub unseen_count : PassValue → ℕ
unseen_count p = count_by (λ k. k == 0) p.places

-- what a pass over n functions keeps
pub record IsPass (n : ℕ) (arcs : List FunArc) (p : PassValue) : Type 0 where
  pub search : IsSearch arcs (place_in p) (rank_in p) (slice_index p.next) p.parts p.calls (length p.order)
  pub places : length p.places ≡ n
  pub ranks : length p.ranks ≡ n
  pub nexts : length p.next ≡ n
  -- no arc of a function comes before the one that is next, where the function wasn't seen
  pub fresh : (i : ℕ) → i < length arcs → place_in p (caller_at arcs i) ≡ 0 → slice_index p.next (caller_at arcs i) ≤ i
  -- from the next arc of a function on there are only its own and those of later functions
  pub from : (w i : ℕ) → w < n → i < length arcs → slice_index p.next w ≤ i → w ≤ caller_at arcs i
  -- the path has just the open functions, each at its place
  pub path_open : (k : ℕ) → k < length p.path → (slice_index p.path k < n) × IsOpen (place_in p) (rank_in p) (slice_index p.path k) × (place_in p (slice_index p.path k) ≡ suc k)
  pub open_path : (w : ℕ) → IsOpen (place_in p) (rank_in p) w → (k : ℕ) × (k < length p.path) × (place_in p w ≡ suc k) × (slice_index p.path k ≡ w)
  pub parts_rise : AllPairs (λ a b. a < b) p.parts
  pub order_within : All (λ f. f < n) p.order
  pub order_ranked : All (λ f. rank_in p f ≢ 0) p.order
  pub order_rises : AllPairs (λ f g. rank_in p f ≤ rank_in p g) p.order
  pub ranked : (w : ℕ) → rank_in p w ≢ 0 → Contains p.order w
  -- each function is unseen, on the path or in the order
  pub all : unseen_count p + length p.path + length p.order ≡ n

-- ---- its steps

abbrev pub pass_of : Pass → PassValue
pass_of a = record {
  places = a.places.items;
  ranks = a.ranks.items;
  next = a.next.items;
  path = a.path.items;
  parts = a.parts.items;
  calls = a.calls.items;
  order = a.order.items;
}

-- no function is seen
abbrev pub start_of : ℕ → List ℕ → PassValue
start_of n first = record { places = replicate n 0; ranks = replicate n 0; next = first; path = []; parts = []; calls = []; order = [] }

-- a function is seen
abbrev pub with_seen : PassValue → ℕ → PassValue
with_seen p f = record {
  places = slice_set p.places f (length p.path + 1);
  ranks = p.ranks;
  next = p.next;
  path = p.path ++ f ∷ [];
  parts = p.parts ++ (length p.path + 1) ∷ [];
  calls = p.calls ++ f ∷ [];
  order = p.order;
}

-- ranks with one rank for some functions
abbrev pub with_rank : List ℕ → List ℕ → ℕ → List ℕ
with_rank ranks functions rank = fold (λ xs f. slice_set xs f rank) ranks functions

-- the functions of the path from a place on become a component
abbrev pub with_component : PassValue → ℕ → PassValue
with_component p from = record {
  places = p.places;
  ranks = with_rank p.ranks (drop from p.path) (length p.order + (length p.path - from));
  next = p.next;
  path = take from p.path;
  parts = take (length p.parts - 1) p.parts;
  calls = p.calls;
  order = p.order ++ drop from p.path;
}

-- The last function of calls is left. If the last part begins with it, this part becomes a component.
abbrev pub left : PassValue → ℕ → PassValue
left p f =
    let q : PassValue = record p { calls = take (length p.calls - 1) p.calls } in
    if slice_index p.parts (length p.parts - 1) == place_in p f then with_component q (place_in p f - 1) else q

-- what leaving a function takes
pub record CanLeave (p : PassValue) (f : ℕ) : Type 0 where
  pub within : f < length p.places
  pub seen : 0 < place_in p f
  pub inside : place_in p f ≤ length p.path
  pub some_part : 0 < length p.parts
  pub path : All (λ g. g < length p.ranks) p.path
  pub few : length p.order + length p.path < 2 ^ 32

-- the list ends in x
abbrev pub EndsIn : List ℕ → ℕ → Type 0
EndsIn xs x = (front : List ℕ) × (xs ≡ front ++ x ∷ [])

-- how much is left to do: functions to be seen, arcs to be followed, and functions to be left
abbrev pub work_left : List FunArc → PassValue → ℕ
work_left arcs p = 2 * unseen_count p + sum_by (λ i. length arcs - i) p.next + length p.calls

-- what was seen in p is seen in q
abbrev pub IsSeenOn : PassValue → PassValue → Type 0
IsSeenOn p q = (w : ℕ) → place_in p w ≢ 0 → place_in q w ≢ 0

-- a step from p to q
pub record IsNext (n : ℕ) (arcs : List FunArc) (p q : PassValue) : Type 0 where
  pub pass : IsPass n arcs q
  pub nearer : work_left arcs q < work_left arcs p
  pub seen : IsSeenOn p q
