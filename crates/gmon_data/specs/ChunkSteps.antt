-- What holds between two steps of an insertion into a list in chunks: only its private functions speak of it.
use Rattle.std.specs.Prelude.{ℕ, ◌+◌, ◌<◌, List, ◌++◌, length, map, take, drop, slice_index_or}
use Rattle.std.specs.Global.{Vec}
use Rattle.gmon_data.specs.declared.chunks.TheConstants.{CHUNK}
use Rattle.gmon_data.specs.Chunks.{IsChunkOf}

-- the chunk that has item i has room for one more
abbrev pub HasRoom : {T : Type 0} → List (Vec T) → List ℕ → ℕ → Type 0
HasRoom {T} chunks starts i = (c : ℕ) (w : Vec T) → IsChunkOf starts i c → length (slice_index_or chunks c w).items < CHUNK

-- the starts, where one item more stands before each chunk from c on
abbrev pub starts_with_one_more : ℕ → List ℕ → List ℕ
starts_with_one_more c starts = take c starts ++ map (λ n. n + 1) (drop c starts)
