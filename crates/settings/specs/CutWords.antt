-- Words FROM/TO, which cut the calls of functions with the name FROM to functions with the name TO.
use Rattle.std.specs.Prelude.{ℕ, ◌==◌, ◌&&◌, nat_lt, Bool, List, length}
use Rattle.std.specs.List.{before_first, after_first}

-- the name before the first slash of a word, and the one behind it; without a slash nothing is behind it
abbrev pub from_of : List ℕ → List ℕ
from_of word = before_first (λ b. b == 47) word

abbrev pub to_of : List ℕ → List ℕ
to_of word = after_first (λ b. b == 47) word

-- the word has both names, of at least one byte each
abbrev pub is_cut_word : List ℕ → Bool
is_cut_word word = nat_lt 0 (length (from_of word)) && nat_lt 0 (length (to_of word))
