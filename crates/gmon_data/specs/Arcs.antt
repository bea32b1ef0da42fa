-- Arcs in a list, by ascending call site.
-- Only private functions and invariants speak of it.
use Rattle.std.specs.Prelude.{◌≡◌, ℕ, ◌≤◌, false, List, [], ◌∷◌, map, ⊤}
use Rattle.std.specs.List.{AllByRecursion, IsDistinct}
use Rattle.std.specs.Map.{keys_of}
use Rattle.gp_base.specs.declared.records.RawArc.{RawArc}
use Rattle.gmon_data.specs.Content.{same_ends}

-- the pair of an arc, and its calls
abbrev pub entry_of : RawArc → (ℕ × ℕ) × ℕ
entry_of arc = ((arc.from, arc.to), arc.count)

abbrev pub entries_of : List RawArc → List ((ℕ × ℕ) × ℕ)
entries_of arcs = map entry_of arcs

-- no call site is above a later one
abbrev pub IsBySite : List ((ℕ × ℕ) × ℕ) → Type 0
IsBySite [] = ⊤
IsBySite (e ∷ es) = AllByRecursion (λ later. e.0.0 ≤ later.0.0) es × IsBySite es

-- by ascending call site, and each pair once
pub record IsInOrder (es : List ((ℕ × ℕ) × ℕ)) : Type 0 where
  pub by_site : IsBySite es
  pub distinct : IsDistinct same_ends (keys_of es)

-- a pair can stand behind others: none of them is it, nor has a higher call site
abbrev pub IsBehind : ℕ × ℕ → List ((ℕ × ℕ) × ℕ) → Type 0
IsBehind pair es = AllByRecursion (λ e. (e.0.0 ≤ pair.0) × (same_ends pair e.0 ≡ false)) es
