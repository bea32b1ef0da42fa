-- How the node of a function that a stack calls is found: a node links to the first one that it calls, and each of
-- these to two later ones, by the next bit of the function's number.
use Rattle.std.specs.Prelude.{◌≡◌, ℕ, zero, suc, ◌+◌, ◌/◌, ◌%◌, ◌==◌, ◌<◌, ◌≤◌, ◌⊎◌, List, length, slice_index_or, unwrap_or, Option, None, if◌then◌else◌}
use Rattle.folded.specs.declared.links.Links.{Links}
use Rattle.folded.specs.declared.links.Side.{Side}
use Rattle.folded.specs.declared.links.Side.TheVariants.{Callees, Low, High}

-- a node's caller and its function, where it is a node
abbrev pub node_of : List (ℕ × Option ℕ) → ℕ → ℕ × Option ℕ
node_of nodes zero = (0, None)
node_of nodes (suc n) = slice_index_or nodes n (0, None)

abbrev pub no_links : Links
no_links = record { callees = 0; low = 0; high = 0 }

abbrev pub link_of : Side → Links → ℕ
link_of Callees l = l.callees
link_of Low l = l.low
link_of High l = l.high

abbrev pub with_link : Side → ℕ → Links → Links
with_link Callees n l = record l { callees = n }
with_link Low n l = record l { low = n }
with_link High n l = record l { high = n }

-- a link of node n, and 0 where it has none
abbrev pub link_at : List Links → ℕ → Side → ℕ
link_at links n side = link_of side (slice_index_or links n no_links)

abbrev pub bits_of : Option ℕ → ℕ
bits_of function = unwrap_or function 0

-- what is left of the bits after so many steps
abbrev pub bits_after : ℕ → ℕ → ℕ
bits_after bits zero = bits
bits_after bits (suc k) = bits_after bits k / 2

abbrev pub side_of : ℕ → Side
side_of bits = if bits % 2 == 1 then High else Low

-- the link that is followed behind so many steps
abbrev pub side_after : ℕ → ℕ → Side
side_after bits zero = Callees
side_after bits (suc k) = side_of (bits_after bits k)

-- the node that is reached by so many steps, and 0 behind the last one
abbrev pub reached : List Links → ℕ → ℕ → ℕ → ℕ
reached links caller bits zero = caller
reached links caller bits (suc k) = link_at links (reached links caller bits k) (side_after bits k)

-- each node is reached from its caller
pub record AreLinked (nodes : List (ℕ × Option ℕ)) (links : List Links) : Type 0 where
  pub numbers : length links ≡ length nodes + 1
  -- links are to nodes, and to later ones
  pub inside : (n : ℕ) (side : Side) → link_at links n side ≤ length nodes
  pub later : (n : ℕ) (side : Side) → (link_at links n side ≡ 0) ⊎ (n < link_at links n side)
  -- the empty stack is called by none
  pub low : link_at links 0 Low ≡ 0
  pub high : link_at links 0 High ≡ 0
  pub found : (i : ℕ) → i < length nodes → (k : ℕ) × (reached links (slice_index_or nodes i (0, None)).0 (bits_of (slice_index_or nodes i (0, None)).1) (suc k) ≡ suc i)

-- so many steps reach this node, whose link on this side is followed next; none was to the node that is sought
pub record IsReached (nodes : List (ℕ × Option ℕ)) (links : List Links) (caller : ℕ) (function : Option ℕ) (node : ℕ) (side : Side) : Type 0 where
  pub inside : node ≤ length nodes
  pub steps : ℕ
  pub node_is : node ≡ reached links caller (bits_of function) steps
  pub side_is : side ≡ side_after (bits_of function) steps
  pub some : 0 < steps → 0 < node
  pub passed : (k i : ℕ) → k < steps → reached links caller (bits_of function) (suc k) ≡ suc i → slice_index_or nodes i (0, None) ≡ (caller, function) → ⊥

-- a link that is empty, or to the node that is sought
abbrev pub EndsAt : List (ℕ × Option ℕ) → ℕ → Option ℕ → ℕ → Type 0
EndsAt nodes caller function link = (link ≡ 0) ⊎ (node_of nodes link ≡ (caller, function))
