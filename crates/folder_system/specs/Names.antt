-- Names of files and folders.
use Rattle.std.specs.Prelude.{ℕ, List, [], ◌∷◌, ◌++◌, Option, Some, None, codes, decimal, length, ◌==◌, if◌then◌else◌}

-- what stands before the last slash (47) and behind it
abbrev pub split_behind : ℕ → List ℕ → Option (List ℕ × List ℕ) → Option (List ℕ × List ℕ)
split_behind b bs None = if b == 47 then Some ([], bs) else None
split_behind b bs (Some split) = Some (b ∷ split.0, split.1)

abbrev pub split_name : List ℕ → Option (List ℕ × List ℕ)
split_name [] = None
split_name (b ∷ bs) = split_behind b bs (split_name bs)

abbrev pub folder_at : Option (List ℕ × List ℕ) → List ℕ
folder_at None = codes "."
folder_at (Some split) = if length split.0 == 0 then codes "/" else split.0

-- the folder that a name is in
abbrev pub folder_of : List ℕ → List ℕ
folder_of name = folder_at (split_name name)

abbrev pub numbered_at : List ℕ → Option (List ℕ × List ℕ) → ℕ → List ℕ
numbered_at name None n = codes "." ++ name ++ codes ".rvgprof-" ++ decimal n
numbered_at name (Some split) n = split.0 ++ codes "/." ++ split.1 ++ codes ".rvgprof-" ++ decimal n

-- the name beside a name: in the same folder, with a dot before it and a number behind it
abbrev pub numbered : List ℕ → ℕ → List ℕ
numbered name n = numbered_at name (split_name name) n
