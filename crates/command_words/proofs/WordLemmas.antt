-- Lines that are too long.
use Rattle.std.proofs.Common.{◌≡◌, ◌<◌, ℕ, List, [], ◌∷◌, length, None, refl}
use Rattle.std.proofs.lemmas.Bool.{lt-leb}
use Rattle.command_words.specs.Words.{command_of}

pub no_long_line : (words : List (List ℕ)) → 200 < length words → command_of words ≡ None
no_long_line [] long = refl
no_long_line (name ∷ words) long = search lt-leb
