-- The way to a node, and the text that lines begin with.
use Rattle.std.specs.Prelude.{◌≡◌, ℕ, ◌≤◌, List, ◌++◌, codes, length, replicate, slice_index, take, Option, None}
use Rattle.std.specs.List.{flat_map}
use Rattle.elf32_syms.specs.declared.image.Symbol.{Symbol}
use Rattle.folded.specs.declared.path.Path.{Path}
use Rattle.folded.specs.declared.prefix.Prefix.{Prefix}
use Rattle.folded.specs.Nodes.{HasStack}
use Rattle.folded.specs.Text.{name_in}

abbrev pub first_path : Path
first_path = record { functions = replicate 129 None; nodes = replicate 130 0; len = 0 }

abbrev pub functions_of : Path → List (Option ℕ)
functions_of p = take p.len p.functions

-- each front of the functions is the stack of the node of so many
pub record IsPath (nodes : List (ℕ × Option ℕ)) (p : Path) : Type 0 where
  pub few : p.len ≤ 129
  pub functions : length p.functions ≡ 129
  pub numbers : length p.nodes ≡ 130
  pub first : slice_index p.nodes 0 ≡ 0
  pub stacks : (k : ℕ) → k ≤ p.len → HasStack nodes (slice_index p.nodes k) (take k p.functions)

abbrev pub caller_text : List Symbol → Option ℕ → List ℕ
caller_text symbols f = name_in symbols f ++ codes ";"

-- each front of the callers has its text
pub record IsPrefix (symbols : List Symbol) (p : Prefix) : Type 0 where
  pub few : p.callers ≤ p.path.len
  pub short : p.path.len ≤ 129
  pub functions : length p.path.functions ≡ 129
  pub bytes : length p.bytes ≡ 8192
  pub numbers : length p.ends ≡ 130
  pub room : (k : ℕ) → k ≤ p.callers → slice_index p.ends k ≤ 8192
  pub ascend : (j k : ℕ) → j ≤ k → k ≤ p.callers → slice_index p.ends j ≤ slice_index p.ends k
  pub texts : (k : ℕ) → k ≤ p.callers → take (slice_index p.ends k) p.bytes ≡ flat_map (caller_text symbols) (take k p.path.functions)
