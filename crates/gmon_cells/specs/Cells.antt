-- The cells of a text in which each takes w bytes: those that are whole, and what there is of the next.
use Rattle.std.specs.Prelude.{◌≡◌, ℕ, ◌*◌, ◌/◌, List, drop, length}
use Rattle.gp_base.specs.Bytes.{items_of_text}

abbrev pub cells_of : {X : Type 0} → ℕ → (List ℕ → X) → List ℕ → List X
cells_of w cell bytes = items_of_text w cell (length bytes / w) bytes

abbrev pub torn_of : ℕ → List ℕ → List ℕ
torn_of w bytes = drop (length bytes / w * w) bytes

-- cells and what there is of the next stand for a text
pub record StandsFor {X : Type 0} (w : ℕ) (cell : List ℕ → X) (bytes : List ℕ) (cells : List X) (torn : List ℕ) : Type 0 where
  pub whole : cells ≡ cells_of w cell bytes
  pub rest : torn ≡ torn_of w bytes
