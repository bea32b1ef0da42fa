-- What a system tells, and what calls do to it.
use Rattle.std.specs.Prelude.{◌≡◌, ℕ, ◌<◌, Bool, List, [], ◌++◌, length, take, Option, Some, None, option_map, unwrap_or, Result, MatchResult, MatchOption, ⊤}
use Rattle.std.specs.Io.KnownBytes.{Appends, Consumes, Keeps, IsAtEnd}

-- a call that makes a file or closes one with these bytes, and whether it succeeded
pub data Change : Type 0 where
  Created : List ℕ → Bool → Change
  Closed : List ℕ → Bool → Change

-- bytes that are told, and else none
abbrev pub bytes_of : Option (List ℕ) → List ℕ
bytes_of told = unwrap_or told []

-- the n bytes that were taken of a piece stand behind those that were printed before; after a failure nothing more
abbrev pub Prints : {E : Type 0} → Option (List ℕ) → Option (List ℕ) → List ℕ → Result ℕ E → Type 0
Prints old new piece result = MatchResult result (λ n. new ≡ option_map (λ bytes. bytes ++ take n piece) old) (λ _. new ≡ old)

-- what is told of the one that is open
abbrev pub told_by : {T : Type 0} → (T → Option (List ℕ)) → Option T → Option (List ℕ)
told_by tells None = None
told_by tells (Some one) = tells one

-- a call that reads gave n bytes, none only at the end; or it failed and gave none
abbrev pub Gave : Option (List ℕ) → Option (List ℕ) → List ℕ → Option ℕ → Type 0
Gave old new buf result = MatchOption result (Keeps old new) (λ n. Consumes old new (take n buf) × (n ≡ 0 → 0 < length buf → IsAtEnd new))

-- a call that writes took n bytes of a piece; or it failed and took none
abbrev pub Took : Option (List ℕ) → Option (List ℕ) → List ℕ → Option ℕ → Type 0
Took old new piece result = MatchOption result (Keeps old new) (λ n. Appends old new (take n piece))

-- a call that writes took nothing
abbrev pub TookNone : {E : Type 0} → Result ℕ E → Type 0
TookNone result = MatchResult result (λ n. n ≡ 0) (λ _. ⊤)
