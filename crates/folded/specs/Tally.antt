-- What contracts see of folded stacks.
use Rattle.std.specs.Prelude.{◌≡◌, ℕ, ◌+◌, ◌-◌, ◌==◌, ◌^◌, ◌<◌, ◌≤◌, List, length, map, slice_index, slice_index_or, sum_by, Option, All, if◌then◌else◌}
use Rattle.folded.specs.declared.tally.Folded.TheInside.{Inside}
use Rattle.folded.specs.declared.tally.Mark.{Mark}
use Rattle.folded.specs.Nodes.{line_of_node}
use Rattle.folded.specs.Stacks.{inclusive_of, is_function, lines_of}

pub record FoldedValue : Type 0 where
  -- each stack with its number of samples, in the stacks' order
  pub lines : List (List (Option ℕ) × ℕ)
  -- the number of samples
  pub total : ℕ
  -- and of those that have a function, by its number
  pub inclusive : List ℕ

abbrev pub value_of : Inside → FoldedValue
value_of a = record {
  lines = map (line_of_node a.tree) a.order.items;
  total = a.tree.total;
  inclusive = map (λ m. m.count) a.marks.items;
}

-- its lines are those of nodes of its tree, and each function has a number of 32 bits
pub record IsMarked (a : Inside) : Type 0 where
  pub functions : length a.marks.items < 2 ^ 32
  pub order : All (λ n. n ≤ length a.tree.nodes.items) a.order.items

-- it has these stacks, of so many functions
pub record Folds (functions : ℕ) (stacks : List (List (Option ℕ))) (f : FoldedValue) : Type 0 where
  pub lines : f.lines ≡ lines_of stacks
  pub total : f.total ≡ length stacks
  pub functions_are : length f.inclusive ≡ functions
  pub inclusive : (g : ℕ) → g < functions → slice_index f.inclusive g ≡ inclusive_of stacks g

-- the mark of a function
abbrev pub mark_at : List Mark → ℕ → Mark
mark_at marks g = slice_index_or marks g (record { count = 0; places = 0; since = 0 })

-- the samples that have the function of a mark, where so many have passed
abbrev pub counted_by : ℕ → Mark → ℕ
counted_by passed m = m.count + (if m.places == 0 then 0 else passed - m.since)

abbrev pub place_in : ℕ → Option ℕ → ℕ
place_in g f = if is_function g f then 1 else 0

-- on how many places of a stack a function is
abbrev pub places_in : List (Option ℕ) → ℕ → ℕ
places_in stack g = sum_by (place_in g) stack

-- the function has left so many places and come onto so many
pub record HasMoved (passed off on : ℕ) (old new : Mark) : Type 0 where
  pub places : new.places + off ≡ old.places + on
  pub since : new.since ≤ passed
  pub counted : counted_by passed new ≡ counted_by passed old

-- one stack was left for another
pub record HaveMoved (passed : ℕ) (off on : List (Option ℕ)) (old new : List Mark) : Type 0 where
  pub same : length new ≡ length old
  pub moved : (g : ℕ) → g < length old → HasMoved passed (places_in off g) (places_in on g) (mark_at old g) (mark_at new g)

-- the functions are on this stack, where so many samples have passed
pub record AreOn (passed : ℕ) (stack : List (Option ℕ)) (marks : List Mark) : Type 0 where
  pub places : (g : ℕ) → g < length marks → (mark_at marks g).places ≡ places_in stack g
  pub since : (g : ℕ) → g < length marks → (mark_at marks g).since ≤ passed
  pub few : (g : ℕ) → g < length marks → counted_by passed (mark_at marks g) < 2 ^ 62
