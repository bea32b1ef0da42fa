-- Input files among the operands, which stand in the order of their words, and what holds of each command.
use Rattle.std.proofs.Common.{◌≡◌, ℕ, zero, suc, ◌+◌, ◌<◌, ◌≤◌, Bool, true, false, ◌&&◌, inl, List, [], ◌∷◌, length, drop, Option, Some, None, map, string_bytes, Global, String, refl, ap, ◌∙◌, arith}
use Rattle.std.specs.Prelude.{IfSome, nat_lt, nat_le, if◌then◌else◌}
use Rattle.std.specs.List.{All, AllByRecursion}
use Rattle.std.specs.Option.{option_map, option_and_then}
use Rattle.std.proofs.lemmas.List.Elements.{All-from_recursion}
use Rattle.gp_base.specs.declared.records.Form.{Form}
use Rattle.settings.specs.CutWords.{is_cut_word}
use Rattle.settings.specs.declared.setup.Plan.{Plan}
use Rattle.settings.specs.declared.setup.Setup.{Setup}
use Rattle.settings.specs.Setup.{IsSetup, plan_number}
use Rattle.command_words.specs.declared.options.Key.TheVariants as keys
use Rattle.command_words.specs.declared.items.Item.{Item}
use Rattle.command_words.specs.declared.verbs.Verb.{Verb}
use Rattle.command_words.specs.declared.verbs.Verb.TheVariants as verbs
use Rattle.command_words.specs.declared.words.Command.TheVariants.{Run, Sum, Report, Profile, Demo, Annotate, Folded}
use Rattle.command_words.specs.declared.words.Selection.{Selection}
use Rattle.command_words.specs.Items.{are_few, items_from, items_of, nth_word, operands, values, words_at}
use Rattle.command_words.specs.Numbers.{number_of, number_within}
use Rattle.command_words.specs.Verbs.{verb_named}
use Rattle.command_words.specs.Words.{are_cuts, command_by, command_of, few, form_asked, given, is_given, may_count, plan_asked, selection_of, setting, setup_of, shown_asked, written_setup, AreCuts, AreRising, IsCommandOf, IsRunSetup}
use Rattle.command_words.proofs.ItemLemmas.{AreValues, given_is, limited, of_items, setting_is, values_read}

-- they stand from i on, each behind those before it
pub record IsOrdered (i : ℕ) (ps : List ℕ) : Type 0 where
  pub from : AllByRecursion (λ p. i ≤ p) ps
  pub rising : AreRising ps

weaker : (i j : ℕ) (ps : List ℕ) → i ≤ j → AllByRecursion (λ p. j ≤ p) ps → AllByRecursion (λ p. i ≤ p) ps
weaker i j [] le all = tt
weaker i j (p ∷ ps) le all = (omega (arith, le, all.0), weaker i j ps le all.1)

stricter : (i : ℕ) (ps : List ℕ) → AllByRecursion (λ p. i + 1 ≤ p) ps → AllByRecursion (λ p. i < p) ps
stricter i [] all = tt
stricter i (p ∷ ps) all = (omega (arith, all.0), stricter i ps all.1)

one_later : (i : ℕ) (ps : List ℕ) → IsOrdered (i + 1) ps → IsOrdered i ps
one_later i ps is = record { from = weaker i (i + 1) ps (omega arith) is.from; rising = is.rising }

operands_ordered : (verb : Verb) (i : ℕ) (words : List (List ℕ)) (items : List Item) → items_from verb i words ≡ Some items → IsOrdered i (operands items)
operands_ordered verb =
    of_items verb (λ i items. IsOrdered i (operands items)) (λ i. record { from = tt; rising = tt })
    (λ i items is. record { from = (omega arith, (one_later i (operands items) is).from); rising = (stricter i (operands items) is.from, is.rising) })
    (λ key i items alone is. one_later i (operands items) is)
    (λ key i n word items reads is. one_later i (operands items) is)
    (λ i items is. one_later i (operands items) is)

pub rising_drop : (n : ℕ) (ps : List ℕ) → AreRising ps → AreRising (drop n ps)
rising_drop zero ps rising = rising
rising_drop (suc n) [] rising = tt
rising_drop (suc n) (p ∷ ps) rising = rising_drop n ps rising.1

few_hold : (files : List ℕ) (P : List ℕ → Type 0) → P files → IfSome (few files) P
few_hold files P holds = by (nat_lt 0 (length files) && nat_le (length files) 16)
  where
    by : (b : Bool) → IfSome (if b then Some files else None) P
    by true = holds
    by false = tt

mapped : {A B : Type 0} (f : A → B) (P : B → Type 0) (o : Option A) → IfSome o (λ a. P (f a)) → IfSome (option_map f o) P
mapped f P None holds = tt
mapped f P (Some a) holds = holds

-- ---- what holds of each command that words say

module _ (words : List (List ℕ)) (items : List Item) (are : AreValues items) where
  plan_holds : (quantum seed : Option ℕ) → IfSome quantum (λ n. (1 ≤ n) × (n ≤ 2147483647)) → IfSome seed (λ n. (1 ≤ n) × (n ≤ 2147483647)) → IfSome (plan_asked quantum seed) (λ plan. 1 ≤ plan_number plan)
  plan_holds None None q s = omega arith
  plan_holds (Some quantum) None q s = q.0
  plan_holds None (Some seed) q s = s.0
  plan_holds (Some quantum) (Some seed) q s = tt

  setup_holds : IfSome (setup_of items) IsSetup
  setup_holds = by (plan_asked (given keys.Quantum items) (given keys.Seed items)) (plan_holds (given keys.Quantum items) (given keys.Seed items) (given_is keys.Quantum items are) (given_is keys.Seed items are))
    where
      by : (o : Option Plan) → IfSome o (λ plan. 1 ≤ plan_number plan) → IfSome (option_map (λ plan. record {
        every = setting keys.Every 1000 items;
        budget = setting keys.Budget 100000000 items;
        rate = setting keys.Rate 100 items;
        ram_mib = setting keys.Ram 64 items;
        harts = setting keys.Harts 1 items;
        plan = plan;
        hist = setting keys.Hist 2 items;
        hash = setting keys.Hash 2 items;
        blocks = is_given keys.Blocks items;
      }) o) IsSetup
      by None is = tt
      by (Some plan) is =
          let every = setting_is keys.Every 1000 items are (omega arith, omega arith) in
          let budget = setting_is keys.Budget 100000000 items are (omega arith, omega arith) in
          let rate = setting_is keys.Rate 100 items are (omega arith, omega arith) in
          let ram = setting_is keys.Ram 64 items are (omega arith, omega arith) in
          let harts = setting_is keys.Harts 1 items are (omega arith, omega arith) in
          record {
            some_every = every.0;
            every = every.1;
            some_budget = budget.0;
            budget = budget.1;
            some_rate = rate.0;
            rate = rate.1;
            least_ram = ram.0;
            most_ram = ram.1;
            some_harts = harts.0;
            most_harts = harts.1;
            some_plan = is;
            hist = setting_is keys.Hist 2 items are (inl refl);
            hash = setting_is keys.Hash 2 items are (inl refl);
          }

  written_holds : IfSome (written_setup items) (IsRunSetup (form_asked items))
  written_holds = by (setup_of items) setup_holds
    where
      counted : (setup : Setup) (b : Bool) → may_count (form_asked items) setup.blocks ≡ b → IsSetup setup → IfSome (if b then Some setup else None) (IsRunSetup (form_asked items))
      counted setup true may is = (is, may)
      counted setup false may is = tt

      by : (o : Option Setup) → IfSome o IsSetup → IfSome (option_and_then (λ (setup : Setup). if may_count (form_asked items) setup.blocks then Some setup else None) o) (IsRunSetup (form_asked items))
      by None is = tt
      by (Some setup) is = counted setup (may_count (form_asked items) setup.blocks) refl is

  selection_holds : IfSome (selection_of words items) (AreCuts words)
  selection_holds = by (are_cuts words (values keys.Cut items)) refl
    where
      by : (b : Bool) → are_cuts words (values keys.Cut items) ≡ b → IfSome (if b then Some (record {
        shown = shown_asked items;
        exact = is_given keys.Exact items;
        cuts = values keys.Cut items;
        hidden = values keys.Hide items;
      }) else None) (AreCuts words)
      by true all = all
      by false all = tt

  report_holds : (elf : ℕ) (gmons : List ℕ) (selection : Option Selection) → IfSome selection (AreCuts words) → (files : Option (List ℕ)) → IfSome files (λ fs. AreRising (elf ∷ fs))
      → IfSome (option_and_then (λ fs. option_map (Report elf fs) selection) files) (IsCommandOf words)
  report_holds elf gmons selection cuts None rising = tt
  report_holds elf gmons None cuts (Some files) rising = tt
  report_holds elf gmons (Some selection) cuts (Some files) rising = (rising, cuts)

  profile_holds : (elf gmon : ℕ) (form : Form) (memory : Option ℕ) (selection : Option Selection) → IfSome selection (AreCuts words) → (setup : Option Setup) → IfSome setup (IsRunSetup form)
      → IfSome (option_and_then (λ setup. option_map (Profile elf gmon form memory setup) selection) setup) (IsCommandOf words)
  profile_holds elf gmon form memory selection cuts None is = tt
  profile_holds elf gmon form memory None cuts (Some setup) is = tt
  profile_holds elf gmon form memory (Some selection) cuts (Some setup) is = (is, cuts)

  demo_holds : (elf : Option ℕ) (setup : Option Setup) → IfSome setup IsSetup → (n : Option ℕ) → ((k : ℕ) → n ≡ Some k → (1 ≤ k) × (k ≤ 2000))
      → IfSome (option_and_then (λ k. option_map (Demo k elf) setup) n) (IsCommandOf words)
  demo_holds elf setup is None within = tt
  demo_holds elf None is (Some n) within = tt
  demo_holds elf (Some setup) is (Some n) within = let w = within n refl in (w.0, w.1, is)

  holds_by : (verb : Verb) (ps : List ℕ) → AreRising ps → IfSome (command_by verb words items ps) (IsCommandOf words)
  holds_by verbs.Show [] rising = tt
  holds_by verbs.Show (a ∷ []) rising = tt
  holds_by verbs.Show (a ∷ b ∷ ps) rising = tt
  holds_by verbs.Syms [] rising = tt
  holds_by verbs.Syms (a ∷ []) rising = tt
  holds_by verbs.Syms (a ∷ b ∷ ps) rising = tt
  holds_by verbs.Run [] rising = tt
  holds_by verbs.Run (a ∷ []) rising = tt
  holds_by verbs.Run (a ∷ b ∷ []) rising = mapped (Run a b (form_asked items) (given keys.Image items)) (IsCommandOf words) (written_setup items) written_holds
  holds_by verbs.Run (a ∷ b ∷ c ∷ ps) rising = tt
  holds_by verbs.Sum [] rising = tt
  holds_by verbs.Sum (a ∷ gmons) rising = mapped (Sum a) (IsCommandOf words) (few gmons) (few_hold gmons (λ files. AreRising files) rising.1)
  holds_by verbs.Report [] rising = tt
  holds_by verbs.Report (a ∷ gmons) rising = report_holds a gmons (selection_of words items) selection_holds (few gmons) (few_hold gmons (λ files. AreRising (a ∷ files)) rising)
  holds_by verbs.Profile [] rising = tt
  holds_by verbs.Profile (a ∷ []) rising = tt
  holds_by verbs.Profile (a ∷ b ∷ []) rising = profile_holds a b (form_asked items) (given keys.Image items) (selection_of words items) selection_holds (written_setup items) written_holds
  holds_by verbs.Profile (a ∷ b ∷ c ∷ ps) rising = tt
  holds_by verbs.Demo [] rising = tt
  holds_by verbs.Demo (a ∷ []) rising = demo_holds (given keys.Elf items) (setup_of items) setup_holds (number_within 1 2000 (nth_word words a)) (limited 1 2000 (number_of (nth_word words a)))
  holds_by verbs.Demo (a ∷ b ∷ ps) rising = tt
  holds_by verbs.Annotate [] rising = tt
  holds_by verbs.Annotate (a ∷ gmons) rising = mapped (Annotate a) (IsCommandOf words) (few gmons) (few_hold gmons (λ files. AreRising (a ∷ files)) rising)
  holds_by verbs.Folded [] rising = tt
  holds_by verbs.Folded (a ∷ []) rising = mapped (Folded a (is_given keys.Inclusive items)) (IsCommandOf words) (setup_of items) setup_holds
  holds_by verbs.Folded (a ∷ b ∷ ps) rising = tt
  holds_by verbs.Help [] rising = tt
  holds_by verbs.Help (a ∷ ps) rising = tt
  holds_by verbs.Version [] rising = tt
  holds_by verbs.Version (a ∷ ps) rising = tt

few_kept : (verb : Verb) (behind : List (List ℕ)) (read items : List Item) (words : List (List ℕ)) (b : Bool) → items_from verb 1 behind ≡ Some read → (if b then Some read else None) ≡ Some items
    → IfSome (command_by verb words items (operands items)) (IsCommandOf words)
few_kept verb behind read items words true is kept =
    let same : read ≡ items = cc in
    let from = is ∙ ap (λ (all : List Item). Some all) same in
    holds_by words items (values_read verb 1 behind items from) verb (operands items) (operands_ordered verb 1 behind items from).rising
few_kept verb behind read items words false is kept = absurd cc

pub items_hold : (verb : Verb) (behind : List (List ℕ)) (items : List Item) → items_of verb behind ≡ Some items → (words : List (List ℕ)) → IfSome (command_by verb words items (operands items)) (IsCommandOf words)
items_hold verb behind items is words = by (items_from verb 1 behind) refl is
  where
    by : (o : Option (List Item)) → items_from verb 1 behind ≡ o → option_and_then (λ all. if are_few all then Some all else None) o ≡ Some items → IfSome (command_by verb words items (operands items)) (IsCommandOf words)
    by None read is = absurd cc
    by (Some all) read is = few_kept verb behind all items words (are_few all) read is

pub commands_hold : (words : List (List ℕ)) → IfSome (command_of words) (IsCommandOf words)
commands_hold [] = tt
commands_hold (name ∷ words) = short (nat_le (length (name ∷ words)) 200)
  where
    read : (verb : Verb) (o : Option (List Item)) → items_of verb words ≡ o → IfSome (option_and_then (λ items. command_by verb (name ∷ words) items (operands items)) o) (IsCommandOf (name ∷ words))
    read verb None is = tt
    read verb (Some items) is = items_hold verb words items is (name ∷ words)

    named : (o : Option Verb) → IfSome (option_and_then (λ verb. option_and_then (λ items. command_by verb (name ∷ words) items (operands items)) (items_of verb words)) o) (IsCommandOf (name ∷ words))
    named None = tt
    named (Some verb) = read verb (items_of verb words) refl

    short : (b : Bool) → IfSome (if b then option_and_then (λ verb. option_and_then (λ items. command_by verb (name ∷ words) items (operands items)) (items_of verb words)) (verb_named name) else None) (IsCommandOf (name ∷ words))
    short true = named (verb_named name)
    short false = tt

-- ---- what is cut

both_true : (a b : Bool) → (a && b) ≡ true → (a ≡ true) × (b ≡ true)
both_true true b e = (refl, e)
both_true false b e = absurd cc

each_cut : (words : List (List ℕ)) (places : List ℕ) (names : List (String Global)) → are_cuts words places ≡ true → map string_bytes names ≡ words_at words places
    → AllByRecursion (λ (name : String Global). is_cut_word (string_bytes name) ≡ true) names
each_cut words [] [] all same = tt
each_cut words (place ∷ places) [] all same = tt
each_cut words [] (name ∷ names) all same = absurd cc
each_cut words (place ∷ places) (name ∷ names) all same =
    let first : string_bytes name ≡ nth_word words place = cc in
    let others : map string_bytes names ≡ words_at words places = cc in
    let both = both_true (is_cut_word (nth_word words place)) (are_cuts words places) all in
    (ap is_cut_word first ∙ both.0, each_cut words places names both.1 others)

-- the words at these positions are words FROM/TO
pub cut_words : (words : List (List ℕ)) (places : List ℕ) (names : List (String Global)) → are_cuts words places ≡ true → map string_bytes names ≡ words_at words places → All (λ name. is_cut_word (string_bytes name) ≡ true) names
cut_words words places names all same = All-from_recursion (λ (name : String Global). is_cut_word (string_bytes name) ≡ true) names (each_cut words places names all same)
