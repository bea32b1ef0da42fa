-- A list that is kept in chunks.
-- Only private functions and invariants speak of it.
use Rattle.std.specs.Prelude.{◌≡◌, ℕ, ◌+◌, ◌<◌, ◌≤◌, List, [], ◌∷◌, length, slice_index}
use Rattle.std.specs.List.{flat_map, AllByRecursion}
use Rattle.std.specs.Global.{Vec}
use Rattle.gmon_data.specs.declared.chunks.TheConstants.{CHUNK}

module _ {T : Type 0} where
  -- the items of all chunks, one chunk after the other
  abbrev pub items_of : List (Vec T) → List T
  items_of chunks = flat_map (λ (c : Vec T). c.items) chunks

  -- the number of items before each chunk, where n are before the first one
  abbrev pub starts_from : ℕ → List (Vec T) → List ℕ
  starts_from n [] = []
  starts_from n (c ∷ cs) = n ∷ starts_from (n + length c.items) cs

  -- a chunk has an item, and at most so many
  pub record IsChunk (c : Vec T) : Type 0 where
    pub some : 0 < length c.items
    pub few : length c.items ≤ CHUNK

  -- chunks, and their starts and the number of their items
  pub record IsChunked (chunks : List (Vec T)) (starts : List ℕ) (len : ℕ) : Type 0 where
    pub filled : AllByRecursion IsChunk chunks
    pub placed : starts ≡ starts_from 0 chunks
    pub counted : len ≡ length (items_of chunks)

-- of chunks with these starts, c is the one that has item i: the last that starts at or before it
pub record IsChunkOf (starts : List ℕ) (i c : ℕ) : Type 0 where
  pub inside : c < length starts
  pub from : slice_index starts c ≤ i
  pub to : (k : ℕ) → c < k → k < length starts → i < slice_index starts k
