-- The words of the commands.
use Rattle.std.specs.Prelude.{ℕ, List, [], ◌∷◌, Option, find, bytes_eq, codes}
use Rattle.command_words.specs.declared.verbs.Verb.{Verb}
use Rattle.command_words.specs.declared.verbs.Verb.TheVariants.{Show, Syms, Run, Sum, Report, Profile, Demo, Annotate, Folded, Help, Version}

-- the word of a command
abbrev pub verb_word : Verb → List ℕ
verb_word Show = codes "show"
verb_word Syms = codes "syms"
verb_word Run = codes "run"
verb_word Sum = codes "sum"
verb_word Report = codes "report"
verb_word Profile = codes "profile"
verb_word Demo = codes "demo"
verb_word Annotate = codes "annotate"
verb_word Folded = codes "folded"
verb_word Help = codes "--help"
verb_word Version = codes "--version"

abbrev pub all_verbs : List Verb
all_verbs = Show ∷ Syms ∷ Run ∷ Sum ∷ Report ∷ Profile ∷ Demo ∷ Annotate ∷ Folded ∷ Help ∷ Version ∷ []

-- the command that a word names
abbrev pub verb_named : List ℕ → Option Verb
verb_named word = find (λ verb. bytes_eq word (verb_word verb)) all_verbs
