-- The table of options: the words that name them, what they take, how often they may be given, and the commands that
-- take them.
use Rattle.std.specs.Prelude.{ℕ, ◌≤◌, Bool, true, false, List, [], ◌∷◌, Option, Some, None, find, bytes_eq, codes, ⊤, if◌then◌else◌}
use Rattle.std.specs.Option.{option_and_then}
use Rattle.settings.specs.Setup.{IsFraction}
use Rattle.command_words.specs.Numbers.{fraction_within, number_within}
use Rattle.command_words.specs.declared.options.Key.{Key}
use Rattle.command_words.specs.declared.options.Key.TheVariants.{Every, Budget, Rate, Ram, Harts, Quantum, Seed, Image, Gnu, Flat, Graph, Elf, Hist, Hash, Blocks, Exact, Cut, Hide, Inclusive}
use Rattle.command_words.specs.declared.options.Kind.{Kind}
use Rattle.command_words.specs.declared.options.Kind.TheVariants.{Number, Fraction, Word, Flag}
use Rattle.command_words.specs.declared.options.Group.{Group}
use Rattle.command_words.specs.declared.options.Group.TheVariants.{Machine, Runtime, Files, Reports, Program, Stacks}
use Rattle.command_words.specs.declared.verbs.Verb.{Verb}
use Rattle.command_words.specs.declared.verbs.Verb.TheVariants as verbs

-- a line of the table: the word that names an option; what it takes, a number from the least to the most, one of the
-- fractions, a name, or nothing; how often it may be given; what it speaks of, the machine and its clock, the runtime,
-- the files that a run writes, the reports, the demo's program, or the stacks; and its place
pub record OptionRow : Type 0 where
  pub word : List ℕ
  pub kind : Kind
  pub times : ℕ
  pub group : Group
  pub place : ℕ

abbrev pub option_row : List ℕ → Kind → ℕ → Group → ℕ → OptionRow
option_row word kind times group place = record { word = word; kind = kind; times = times; group = group; place = place }

-- the line of an option
abbrev pub row_of_key : Key → OptionRow
row_of_key Every = option_row (codes "--every") (Number 1 2147483647) 1 Machine 0
row_of_key Budget = option_row (codes "--budget") (Number 1 2147483647) 1 Machine 1
row_of_key Rate = option_row (codes "--rate") (Number 1 2147483647) 1 Runtime 2
row_of_key Ram = option_row (codes "--ram") (Number 4 256) 1 Machine 3
row_of_key Harts = option_row (codes "--harts") (Number 1 8) 1 Machine 4
row_of_key Quantum = option_row (codes "--quantum") (Number 1 2147483647) 1 Machine 5
row_of_key Seed = option_row (codes "--seed") (Number 1 2147483647) 1 Machine 6
row_of_key Image = option_row (codes "--image") Word 1 Files 7
row_of_key Gnu = option_row (codes "--gnu") Flag 1 Files 8
row_of_key Flat = option_row (codes "--flat") Flag 1 Reports 9
row_of_key Graph = option_row (codes "--graph") Flag 1 Reports 10
row_of_key Elf = option_row (codes "--elf") Word 1 Program 11
row_of_key Hist = option_row (codes "--hist") Fraction 1 Runtime 12
row_of_key Hash = option_row (codes "--hash") Fraction 1 Runtime 13
row_of_key Blocks = option_row (codes "--blocks") Flag 1 Files 14
row_of_key Exact = option_row (codes "--exact") Flag 1 Reports 15
row_of_key Cut = option_row (codes "-k") Word 16 Reports 16
row_of_key Hide = option_row (codes "--hide") Word 16 Reports 17
row_of_key Inclusive = option_row (codes "--inclusive") Flag 1 Stacks 18

abbrev pub all_keys : List Key
all_keys =
    Every ∷ Budget ∷ Rate ∷ Ram ∷ Harts ∷ Quantum ∷ Seed ∷ Image ∷ Gnu ∷ Flat ∷ Graph ∷ Elf ∷
    Hist ∷ Hash ∷ Blocks ∷ Exact ∷ Cut ∷ Hide ∷ Inclusive ∷ []

-- the option that a word names
abbrev pub key_named : List ℕ → Option Key
key_named word = find (λ key. bytes_eq word (row_of_key key).word) all_keys

abbrev pub kind_of : Key → Kind
kind_of key = (row_of_key key).kind

abbrev pub most_times : Key → ℕ
most_times key = (row_of_key key).times

abbrev pub group_of : Key → Group
group_of key = (row_of_key key).group

abbrev pub key_number : Key → ℕ
key_number key = (row_of_key key).place

-- whether a command takes the options of a group
abbrev pub is_taken : Verb → Group → Bool
is_taken verbs.Run Machine = true
is_taken verbs.Run Runtime = true
is_taken verbs.Run Files = true
is_taken verbs.Report Reports = true
is_taken verbs.Profile Machine = true
is_taken verbs.Profile Runtime = true
is_taken verbs.Profile Files = true
is_taken verbs.Profile Reports = true
is_taken verbs.Demo Machine = true
is_taken verbs.Demo Runtime = true
is_taken verbs.Demo Program = true
is_taken verbs.Folded Machine = true
is_taken verbs.Folded Stacks = true
is_taken verb group = false

-- the option of a command that a word names
abbrev pub option_of : Verb → List ℕ → Option Key
option_of verb word = option_and_then (λ key. if is_taken verb (group_of key) then Some key else None) (key_named word)

abbrev pub is_flag : Kind → Bool
is_flag Flag = true
is_flag kind = false

-- what the word at a position says as the value of an option of a kind: a number, where it is one that the option may
-- have, or its position
abbrev pub value_said : Kind → ℕ → List ℕ → Option ℕ
value_said (Number least most) place word = number_within least most word
value_said Fraction place word = fraction_within word
value_said kind place word = Some place

-- a number that an option of this kind may have
abbrev pub IsNumberOf : Kind → ℕ → Type 0
IsNumberOf (Number least most) n = (least ≤ n) × (n ≤ most)
IsNumberOf Fraction n = IsFraction n
IsNumberOf kind n = ⊤
