-- What the words behind a command say: operands and options.
use Rattle.std.specs.Prelude.{ℕ, ◌+◌, ◌==◌, nat_le, ◌&&◌, Bool, false, List, [], ◌∷◌, length, map, Option, Some, None, slice_index_or, if◌then◌else◌}
use Rattle.std.specs.List.{filter_map, list_all}
use Rattle.std.specs.Option.{option_map, option_and_then}
use Rattle.command_words.specs.declared.options.Key.{Key}
use Rattle.command_words.specs.declared.verbs.Verb.{Verb}
use Rattle.command_words.specs.declared.items.Item.{Item}
use Rattle.command_words.specs.declared.items.Item.TheVariants.{Operand, Given}
use Rattle.command_words.specs.declared.items.Wanted.{Wanted}
use Rattle.command_words.specs.declared.items.Wanted.TheVariants.{Operands, Values}
use Rattle.command_words.specs.Options.{all_keys, option_of, kind_of, key_number, is_flag, most_times, value_said}

-- an option begins with a hyphen
abbrev pub is_option : List ℕ → Bool
is_option [] = false
is_option (c ∷ cs) = c == 45

-- an item before those of the words that follow it
abbrev pub with_item : Item → Option (List Item) → Option (List Item)
with_item item items = option_map (λ more. item ∷ more) items

-- the items of the words from a position on, where each option is one that the command takes: an operand has its
-- position, a flag its own
abbrev mutual
  pub items_from : Verb → ℕ → List (List ℕ) → Option (List Item)
  items_from verb i [] = Some []
  items_from verb i (word ∷ words) =
      if is_option word then
      option_and_then (λ key. if is_flag (kind_of key) then with_item (Given key i) (items_from verb (i + 1) words) else items_from_value verb key (i + 1) words) (option_of verb word)
      else with_item (Operand i) (items_from verb (i + 1) words)

  -- the same where the first word is the value of an option, whatever it begins with
  pub items_from_value : Verb → Key → ℕ → List (List ℕ) → Option (List Item)
  items_from_value verb key i [] = None
  items_from_value verb key i (word ∷ words) = option_and_then (λ value. with_item (Given key value) (items_from verb (i + 1) words)) (value_said (kind_of key) i word)

abbrev pub is_key : Key → Key → Bool
is_key key other = key_number key == key_number other

-- what an item is of what is wanted
abbrev pub wanted_of : Wanted → Item → Option ℕ
wanted_of Operands (Operand i) = Some i
wanted_of Operands (Given key value) = None
wanted_of (Values key) (Operand i) = None
wanted_of (Values key) (Given other value) = if is_key key other then Some value else None

abbrev pub all_wanted : Wanted → List Item → List ℕ
all_wanted wanted items = filter_map (wanted_of wanted) items

-- the positions of the operands
abbrev pub operands : List Item → List ℕ
operands items = all_wanted Operands items

-- what is given to an option, from the first word on
abbrev pub values : Key → List Item → List ℕ
values key items = all_wanted (Values key) items

-- a file and sixteen profiles at most, and each option only as often as it may be given
abbrev pub are_few : List Item → Bool
are_few items = nat_le (length (operands items)) 17 && list_all (λ key. nat_le (length (values key items)) (most_times key)) all_keys

-- the items of the words behind a command's own, which has the position 0
abbrev pub items_of : Verb → List (List ℕ) → Option (List Item)
items_of verb words = option_and_then (λ items. if are_few items then Some items else None) (items_from verb 1 words)

-- the word at a position
abbrev pub nth_word : List (List ℕ) → ℕ → List ℕ
nth_word words i = slice_index_or words i []

-- the words at some positions
abbrev pub words_at : List (List ℕ) → List ℕ → List (List ℕ)
words_at words places = map (nth_word words) places

-- the items of the words from a position on, where an option may wait for the first of them as its value
abbrev pub items_behind : Verb → Option Key → ℕ → List (List ℕ) → Option (List Item)
items_behind verb None i words = items_from verb i words
items_behind verb (Some key) i words = items_from_value verb key i words
