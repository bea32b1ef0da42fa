-- The command that the words of the command line say.
use Rattle.std.specs.Prelude.{◌≡◌, ℕ, Bool, true, not, nat_lt, nat_le, ◌&&◌, ◌<◌, ◌≤◌, List, [], ◌∷◌, length, Option, Some, None, is_some, slice_get, ⊤, if◌then◌else◌}
use Rattle.std.specs.List.{AllByRecursion, list_all}
use Rattle.std.specs.Option.{option_map, option_and_then, unwrap_or}
use Rattle.gp_base.specs.declared.records.Form.{Form}
use Rattle.gp_base.specs.declared.records.Form.TheVariants.{Bsd, Gnu}
use Rattle.settings.specs.CutWords.{is_cut_word}
use Rattle.settings.specs.declared.setup.Plan.{Plan}
use Rattle.settings.specs.declared.setup.Plan.TheVariants.{RoundRobin, Seeded}
use Rattle.settings.specs.declared.setup.Setup.{Setup}
use Rattle.settings.specs.Setup.{IsSetup}
use Rattle.command_words.specs.declared.options.Key.{Key}
use Rattle.command_words.specs.declared.options.Key.TheVariants as keys
use Rattle.command_words.specs.declared.items.Item.{Item}
use Rattle.command_words.specs.declared.verbs.Verb.{Verb}
use Rattle.command_words.specs.declared.verbs.Verb.TheVariants as verbs
use Rattle.command_words.specs.declared.words.Command.{Command}
use Rattle.command_words.specs.declared.words.Command.TheVariants.{Show, Syms, Run, Sum, Report, Profile, Demo, Annotate, Folded, Help, Version}
use Rattle.command_words.specs.declared.words.Selection.{Selection}
use Rattle.command_words.specs.declared.words.Shown.{Shown}
use Rattle.command_words.specs.declared.words.Shown.TheVariants as shows
use Rattle.command_words.specs.Numbers.{number_within}
use Rattle.command_words.specs.Items.{items_of, nth_word, operands, values}
use Rattle.command_words.specs.Verbs.{verb_named}

-- ---- what the options say

-- what is given to an option, if it is
abbrev pub given : Key → List Item → Option ℕ
given key items = slice_get (values key items) 0

abbrev pub is_given : Key → List Item → Bool
is_given key items = is_some (given key items)

-- the same with a default
abbrev pub setting : Key → ℕ → List Item → ℕ
setting key default items = unwrap_or (given key items) default

-- a schedule by its quantum and its seed: round robin with a quantum of 1, unless one of them is given, and not both
abbrev pub plan_asked : Option ℕ → Option ℕ → Option Plan
plan_asked None None = Some (RoundRobin 1)
plan_asked (Some quantum) None = Some (RoundRobin quantum)
plan_asked None (Some seed) = Some (Seeded seed)
plan_asked (Some quantum) (Some seed) = None

-- the machine, its clock and the runtime
abbrev pub setup_of : List Item → Option Setup
setup_of items =
    option_map (λ plan. record {
      every = setting keys.Every 1000 items;
      budget = setting keys.Budget 100000000 items;
      rate = setting keys.Rate 100 items;
      ram_mib = setting keys.Ram 64 items;
      harts = setting keys.Harts 1 items;
      plan = plan;
      hist = setting keys.Hist 2 items;
      hash = setting keys.Hash 2 items;
      blocks = is_given keys.Blocks items;
    }) (plan_asked (given keys.Quantum items) (given keys.Seed items))

-- the form in which a profile is written
abbrev pub form_asked : List Item → Form
form_asked items = if is_given keys.Gnu items then Gnu else Bsd

-- only a file of the GNU form holds execution counts
abbrev pub may_count : Form → Bool → Bool
may_count Bsd blocks = not blocks
may_count Gnu blocks = true

-- a run whose profile is written
abbrev pub written_setup : List Item → Option Setup
written_setup items = option_and_then (λ (setup : Setup). if may_count (form_asked items) setup.blocks then Some setup else None) (setup_of items)

-- the reports that are printed: one alone where it alone is asked for
abbrev pub shown_asked : List Item → Shown
shown_asked items =
    if is_given keys.Flat items && not (is_given keys.Graph items) then shows.Flat else (
    if is_given keys.Graph items && not (is_given keys.Flat items) then shows.Graph else shows.Both)

-- words FROM/TO by their positions
abbrev pub are_cuts : List (List ℕ) → List ℕ → Bool
are_cuts words cuts = list_all (λ place. is_cut_word (nth_word words place)) cuts

-- which reports are printed, and what they leave out
abbrev pub selection_of : List (List ℕ) → List Item → Option Selection
selection_of words items =
    if are_cuts words (values keys.Cut items) then Some (record {
      shown = shown_asked items;
      exact = is_given keys.Exact items;
      cuts = values keys.Cut items;
      hidden = values keys.Hide items;
    }) else None

-- ---- commands

-- one to sixteen files
abbrev pub few : List ℕ → Option (List ℕ)
few files = if nat_lt 0 (length files) && nat_le (length files) 16 then Some files else None

-- What a command says of its operands and options, line by line as the program's help has it: `show GMON`, `syms ELF`,
-- `run ELF GMON`, `sum OUT GMON..`, `report ELF GMON..`, `profile ELF GMON`, `demo FUNCTIONS`, `annotate ELF GMON..`,
-- `folded ELF`, `--help` and `--version`.
abbrev pub command_by : Verb → List (List ℕ) → List Item → List ℕ → Option Command
command_by verbs.Show words items (gmon ∷ []) = Some (Show gmon)
command_by verbs.Syms words items (elf ∷ []) = Some (Syms elf)
command_by verbs.Run words items (elf ∷ gmon ∷ []) = option_map (Run elf gmon (form_asked items) (given keys.Image items)) (written_setup items)
command_by verbs.Sum words items (out ∷ gmons) = option_map (Sum out) (few gmons)
command_by verbs.Report words items (elf ∷ gmons) = option_and_then (λ files. option_map (Report elf files) (selection_of words items)) (few gmons)
command_by verbs.Profile words items (elf ∷ gmon ∷ []) =
    option_and_then (λ setup. option_map (Profile elf gmon (form_asked items) (given keys.Image items) setup) (selection_of words items)) (written_setup items)
command_by verbs.Demo words items (functions ∷ []) =
    option_and_then (λ n. option_map (Demo n (given keys.Elf items)) (setup_of items)) (number_within 1 2000 (nth_word words functions))
command_by verbs.Annotate words items (elf ∷ gmons) = option_map (Annotate elf) (few gmons)
command_by verbs.Folded words items (elf ∷ []) = option_map (Folded elf (is_given keys.Inclusive items)) (setup_of items)
command_by verbs.Help words items [] = Some Help
command_by verbs.Version words items [] = Some Version
command_by verb words items operands = None

-- The command that the words say, if they have a reading: by the first word, and by what those behind it say. No line of
-- more than 200 words has one.
abbrev pub command_of : List (List ℕ) → Option Command
command_of [] = None
command_of (name ∷ words) =
    if nat_le (length (name ∷ words)) 200 then
    option_and_then (λ verb. option_and_then (λ items. command_by verb (name ∷ words) items (operands items)) (items_of verb words)) (verb_named name)
    else None

-- ---- what holds of each command that words say

-- each stands behind those before it
abbrev pub AreRising : List ℕ → Type 0
AreRising [] = ⊤
AreRising (x ∷ xs) = AllByRecursion (λ y. x < y) xs × AreRising xs

abbrev pub AreCuts : List (List ℕ) → Selection → Type 0
AreCuts words selection = are_cuts words selection.cuts ≡ true

-- the numbers of a run are within their limits, and its form holds what it counts
abbrev pub IsRunSetup : Form → Setup → Type 0
IsRunSetup form setup = IsSetup setup × (may_count form setup.blocks ≡ true)

-- its numbers are within their limits, its input files in the order of their words, and what it cuts are words FROM/TO
abbrev pub IsCommandOf : List (List ℕ) → Command → Type 0
IsCommandOf words (Show gmon) = ⊤
IsCommandOf words (Syms elf) = ⊤
IsCommandOf words (Run elf gmon form memory setup) = IsRunSetup form setup
IsCommandOf words (Sum out gmons) = AreRising gmons
IsCommandOf words (Report elf gmons selection) = AreRising (elf ∷ gmons) × AreCuts words selection
IsCommandOf words (Profile elf gmon form memory setup selection) = IsRunSetup form setup × AreCuts words selection
IsCommandOf words (Demo functions elf setup) = (1 ≤ functions) × (functions ≤ 2000) × IsSetup setup
IsCommandOf words (Annotate elf gmons) = AreRising (elf ∷ gmons)
IsCommandOf words (Folded elf inclusive setup) = IsSetup setup
IsCommandOf words Help = ⊤
IsCommandOf words Version = ⊤
