-- Items while they are read, and what holds of all that are.
use Rattle.std.proofs.Common.{◌≡◌, ◌<◌, ℕ, zero, suc, ◌+◌, ◌≤◌, Bool, true, false, ◌&&◌, ◌||◌, inl, inr, eqb, List, [], ◌∷◌, ◌++◌, length, get_or, Option, Some, None, refl, ap, sym, subst, ◌∙◌, length-append, drop, take, if◌then◌else◌, arith}
use Rattle.std.specs.Prelude.{IfSome, slice_get, nat_le}
use Rattle.std.specs.List.{AllByRecursion, list_all, cons_option, filter_map}
use Rattle.std.specs.Option.{option_and_then, unwrap_or}
use Rattle.std.proofs.lemmas.List.{append-nil, take-append-drop, take_more}
use Rattle.std.proofs.lemmas.List.Elements.{filter_map-append}
use Rattle.std.proofs.lemmas.Bool.{and_parts, eqb-true, leb-true}
use Rattle.command_words.specs.declared.options.Key.{Key}
use Rattle.command_words.specs.declared.options.Key.TheVariants.{Every, Budget, Rate, Ram, Harts, Quantum, Seed, Image, Gnu, Flat, Graph, Elf, Hist, Hash, Blocks, Exact, Cut, Hide, Inclusive}
use Rattle.command_words.specs.declared.options.Kind.{Kind}
use Rattle.command_words.specs.declared.options.Kind.TheVariants.{Number, Fraction, Word, Flag}
use Rattle.command_words.specs.declared.verbs.Verb.{Verb}
use Rattle.command_words.specs.declared.items.Item.{Item}
use Rattle.command_words.specs.declared.items.Item.TheVariants.{Operand, Given}
use Rattle.command_words.specs.declared.items.Wanted.TheVariants.{Operands, Values}
use Rattle.command_words.specs.Items.{all_wanted, are_few, is_key, is_option, items_from, items_from_value, operands, values, with_item}
use Rattle.command_words.specs.Numbers.{fraction_from, in_limits, number_of, number_within}
use Rattle.command_words.specs.Options.{IsNumberOf, all_keys, is_flag, key_number, kind_of, most_times, option_of, value_said}
use Rattle.command_words.specs.Words.{given, setting}

-- ---- few items

-- each option has its place in the table
key_back : (key : Key) → get_or all_keys (key_number key) Every ≡ key
key_back Every = refl
key_back Budget = refl
key_back Rate = refl
key_back Ram = refl
key_back Harts = refl
key_back Quantum = refl
key_back Seed = refl
key_back Image = refl
key_back Gnu = refl
key_back Flat = refl
key_back Graph = refl
key_back Elf = refl
key_back Hist = refl
key_back Hash = refl
key_back Blocks = refl
key_back Exact = refl
key_back Cut = refl
key_back Hide = refl
key_back Inclusive = refl

same_key : (key other : Key) → is_key key other ≡ true → key ≡ other
same_key key other is = grind arith

number_below : (key : Key) → key_number key < 19
number_below Every = omega arith
number_below Budget = omega arith
number_below Rate = omega arith
number_below Ram = omega arith
number_below Harts = omega arith
number_below Quantum = omega arith
number_below Seed = omega arith
number_below Image = omega arith
number_below Gnu = omega arith
number_below Flat = omega arith
number_below Graph = omega arith
number_below Elf = omega arith
number_below Hist = omega arith
number_below Hash = omega arith
number_below Blocks = omega arith
number_below Exact = omega arith
number_below Cut = omega arith
number_below Hide = omega arith
number_below Inclusive = omega arith

each_passes : {A : Type 0} (p : A → Bool) (xs : List A) (i : ℕ) (d : A) → list_all p xs ≡ true → i < length xs → p (get_or xs i d) ≡ true
each_passes p [] i d all within = absurd (omega arith)
each_passes p (x ∷ xs) zero d all within = (and_parts (p x) (list_all p xs) all).0
each_passes p (x ∷ xs) (suc i) d all within = each_passes p xs i d (and_parts (p x) (list_all p xs) all).1 (omega arith)

pub few_operands : (items : List Item) → are_few items ≡ true → length (all_wanted Operands items) ≤ 18
few_operands items few = let within = leb-true (length (operands items)) 17 (and_parts (nat_le (length (operands items)) 17) _ few).0 in omega (arith, within)

few_times : (key : Key) → most_times key ≤ 18
few_times Every = omega arith
few_times Budget = omega arith
few_times Rate = omega arith
few_times Ram = omega arith
few_times Harts = omega arith
few_times Quantum = omega arith
few_times Seed = omega arith
few_times Image = omega arith
few_times Gnu = omega arith
few_times Flat = omega arith
few_times Graph = omega arith
few_times Elf = omega arith
few_times Hist = omega arith
few_times Hash = omega arith
few_times Blocks = omega arith
few_times Exact = omega arith
few_times Cut = omega arith
few_times Hide = omega arith
few_times Inclusive = omega arith

pub few_values : (key : Key) (items : List Item) → are_few items ≡ true → length (all_wanted (Values key) items) ≤ 18
few_values key items few =
    let test = λ (k : Key). nat_le (length (values k items)) (most_times k) in
    let all = (and_parts (nat_le (length (operands items)) 17) (list_all test all_keys) few).1 in
    let passes = each_passes test all_keys (key_number key) Every all (number_below key) in
    let here : test key ≡ true = subst (λ (k : Key). test k ≡ true) (key_back key) passes in
    omega (arith, leb-true (length (values key items)) (most_times key) here, few_times key)

-- ---- one item after the other

module _ {X : Type 0} (h : X → Option ℕ) where
  pub some_more : (xs : List X) (i : ℕ) (d : X) (n : ℕ) → i < length xs → h (get_or xs i d) ≡ Some n → filter_map h (take (i + 1) xs) ≡ filter_map h (take i xs) ++ n ∷ []
  some_more xs i d n within here =
      ap (filter_map h) (take_more xs i d within) ∙ filter_map-append h (take i xs) (get_or xs i d ∷ [])
      ∙ ap (λ (o : Option ℕ). filter_map h (take i xs) ++ cons_option o []) here

  pub none_more : (xs : List X) (i : ℕ) (d : X) → i < length xs → h (get_or xs i d) ≡ None → filter_map h (take (i + 1) xs) ≡ filter_map h (take i xs)
  none_more xs i d within here =
      ap (filter_map h) (take_more xs i d within) ∙ filter_map-append h (take i xs) (get_or xs i d ∷ [])
      ∙ ap (λ (o : Option ℕ). filter_map h (take i xs) ++ cons_option o []) here ∙ append-nil (filter_map h (take i xs))

  -- what all give is what the first give, and what those behind them give
  all_give : (xs : List X) (i : ℕ) → filter_map h xs ≡ filter_map h (take i xs) ++ filter_map h (drop i xs)
  all_give xs i = ap (filter_map h) (sym (take-append-drop i xs)) ∙ filter_map-append h (take i xs) (drop i xs)

  pub below_all : (xs : List X) (i : ℕ) (d : X) (n : ℕ) → i < length xs → h (get_or xs i d) ≡ Some n → length (filter_map h (take i xs)) < length (filter_map h xs)
  below_all xs i d n within here =
      let more = ap length (some_more xs i d n within here) ∙ length-append (filter_map h (take i xs)) (n ∷ []) in
      let all = ap length (all_give xs (i + 1)) ∙ length-append (filter_map h (take (i + 1) xs)) (filter_map h (drop (i + 1) xs)) in
      omega (arith, more, all)

  pub first_value : (xs : List X) (i : ℕ) (d : X) (n : ℕ) → i < length xs → h (get_or xs i d) ≡ Some n → filter_map h (take i xs) ≡ [] → slice_get (filter_map h xs) 0 ≡ Some n
  first_value xs i d n within here none =
      let first = some_more xs i d n within here ∙ ap (λ (ns : List ℕ). ns ++ n ∷ []) none in
      ap (λ (ns : List ℕ). slice_get ns 0) (all_give xs (i + 1) ∙ ap (λ (ns : List ℕ). ns ++ filter_map h (drop (i + 1) xs)) first)

-- ---- what is read

-- what holds of no items, and of an item more, wherever it stands among the words, holds of all that is read
module _ (verb : Verb) (P : ℕ → List Item → Type 0)
    (none : (i : ℕ) → P i [])
    (operand : (i : ℕ) (items : List Item) → P (i + 1) items → P i (Operand i ∷ items))
    (flag : (key : Key) (i : ℕ) (items : List Item) → is_flag (kind_of key) ≡ true → P (i + 1) items → P i (Given key i ∷ items))
    (value : (key : Key) (i n : ℕ) (word : List ℕ) (items : List Item) → value_said (kind_of key) i word ≡ Some n → P (i + 1) items → P i (Given key n ∷ items))
    (later : (i : ℕ) (items : List Item) → P (i + 1) items → P i items) where
  abbrev Holds : ℕ → Option (List Item) → Type 0
  Holds i o = (items : List Item) → o ≡ Some items → P i items

  with_one : (i : ℕ) (item : Item) (o : Option (List Item)) → ((items : List Item) → P (i + 1) items → P i (item ∷ items)) → Holds (i + 1) o → Holds i (with_item item o)
  with_one i item None more behind items is = absurd cc
  with_one i item (Some rest) more behind items is = grind arith

  of_option : (i : ℕ) (o : Option Key) (words : List (List ℕ)) → Holds (i + 1) (items_from verb (i + 1) words) → ((key : Key) → Holds (i + 1) (items_from_value verb key (i + 1) words))
      → Holds i (option_and_then (λ key. if is_flag (kind_of key) then with_item (Given key i) (items_from verb (i + 1) words) else items_from_value verb key (i + 1) words) o)
  of_option i None words behind valued items is = absurd cc
  of_option i (Some key) words behind valued items is = by (is_flag (kind_of key)) refl is
    where
      by : (b : Bool) → is_flag (kind_of key) ≡ b → (if b then with_item (Given key i) (items_from verb (i + 1) words) else items_from_value verb key (i + 1) words) ≡ Some items → P i items
      by true alone is = with_one i (Given key i) (items_from verb (i + 1) words) (λ rest holds. flag key i rest alone holds) behind items is
      by false alone is = later i items (valued key items is)

  of_word : (i : ℕ) (word : List ℕ) (words : List (List ℕ)) → Holds (i + 1) (items_from verb (i + 1) words) → ((key : Key) → Holds (i + 1) (items_from_value verb key (i + 1) words)) → Holds i (items_from verb i (word ∷ words))
  of_word i word words behind valued items is = by (is_option word) is
    where
      by : (b : Bool) → (if b then option_and_then (λ key. if is_flag (kind_of key) then with_item (Given key i) (items_from verb (i + 1) words) else items_from_value verb key (i + 1) words) (option_of verb word)
          else with_item (Operand i) (items_from verb (i + 1) words)) ≡ Some items → P i items
      by true is = of_option i (option_of verb word) words behind valued items is
      by false is = with_one i (Operand i) (items_from verb (i + 1) words) (λ rest holds. operand i rest holds) behind items is

  of_value : (key : Key) (i : ℕ) (word : List ℕ) (words : List (List ℕ)) → Holds (i + 1) (items_from verb (i + 1) words) → Holds i (items_from_value verb key i (word ∷ words))
  of_value key i word words behind items is = by (value_said (kind_of key) i word) refl is
    where
      by : (o : Option ℕ) → value_said (kind_of key) i word ≡ o → option_and_then (λ value. with_item (Given key value) (items_from verb (i + 1) words)) o ≡ Some items → P i items
      by None reads is = absurd cc
      by (Some n) reads is = with_one i (Given key n) (items_from verb (i + 1) words) (λ rest holds. value key i n word rest reads holds) behind items is

  mutual
    pub of_items : (i : ℕ) (words : List (List ℕ)) → Holds i (items_from verb i words)
    of_items i [] items is = let same : [] ≡ items = cc in subst (P i) same (none i)
    of_items i (word ∷ words) items is = of_word i word words (of_items (i + 1) words) (λ key. of_values key (i + 1) words) items is

    of_values : (key : Key) (i : ℕ) (words : List (List ℕ)) → Holds i (items_from_value verb key i words)
    of_values key i [] items is = absurd cc
    of_values key i (word ∷ words) items is = of_value key i word words (of_items (i + 1) words) items is

-- ---- numbers are within their limits

pub limited : (low high : ℕ) (o : Option ℕ) (n : ℕ) → option_and_then (in_limits low high) o ≡ Some n → (low ≤ n) × (n ≤ high)
limited low high None n is = absurd cc
limited low high (Some k) n is = by (nat_le low k) (nat_le k high) refl refl is
  where
    by : (a b : Bool) → nat_le low k ≡ a → nat_le k high ≡ b → (if a && b then Some k else None) ≡ Some n → (low ≤ n) × (n ≤ high)
    by true true from to is = let same : k ≡ n = cc in subst (λ (m : ℕ). (low ≤ m) × (m ≤ high)) same (leb-true low k from, leb-true k high to)
    by true false from to is = absurd cc
    by false b from to is = absurd cc

fraction_is : (o : Option ℕ) (n : ℕ) → fraction_from o ≡ Some n → IsNumberOf Fraction n
fraction_is None n is = absurd cc
fraction_is (Some k) n is = by (eqb k 2) (eqb k 4) (eqb k 8) (eqb k 16) refl refl refl refl is
  where
    by : (a b c d : Bool) → eqb k 2 ≡ a → eqb k 4 ≡ b → eqb k 8 ≡ c → eqb k 16 ≡ d → (if a || (b || (c || d)) then Some k else None) ≡ Some n → IsNumberOf Fraction n
    by true b c d p q r s is = let same : k ≡ n = cc in subst (IsNumberOf Fraction) same (inl (eqb-true k 2 p))
    by false true c d p q r s is = let same : k ≡ n = cc in subst (IsNumberOf Fraction) same (inr (inl (eqb-true k 4 q)))
    by false false true d p q r s is = let same : k ≡ n = cc in subst (IsNumberOf Fraction) same (inr (inr (inl (eqb-true k 8 r))))
    by false false false true p q r s is = let same : k ≡ n = cc in subst (IsNumberOf Fraction) same (inr (inr (inr (eqb-true k 16 s))))
    by false false false false p q r s is = absurd cc

value_is : (kind : Kind) (i n : ℕ) (word : List ℕ) → value_said kind i word ≡ Some n → IsNumberOf kind n
value_is (Number least most) i n word is = limited least most (number_of word) n is
value_is Fraction i n word is = fraction_is (number_within 2 16 word) n is
value_is Word i n word is = tt
value_is Flag i n word is = tt

flag_is : (kind : Kind) (n : ℕ) → is_flag kind ≡ true → IsNumberOf kind n
flag_is (Number least most) n is = absurd cc
flag_is Fraction n is = absurd cc
flag_is Word n is = tt
flag_is Flag n is = tt

-- what is given to each option is what it may have
pub record AreValues (items : List Item) : Type 0 where
  pub each : (key : Key) → AllByRecursion (λ n. IsNumberOf (kind_of key) n) (values key items)

no_values : AreValues []
no_values = record { each = λ key. tt }

one_more : (other : Key) (n : ℕ) (items : List Item) → IsNumberOf (kind_of other) n → AreValues items → AreValues (Given other n ∷ items)
one_more other n items is rest = record { each = λ key. by key (is_key key other) refl }
  where
    by : (key : Key) (b : Bool) → is_key key other ≡ b → AllByRecursion (λ m. IsNumberOf (kind_of key) m) (cons_option (if b then Some n else None) (values key items))
    by key true same = (subst (λ (k : Key). IsNumberOf (kind_of k) n) (sym (same_key key other same)) is, rest.each key)
    by key false same = rest.each key

pub values_read : (verb : Verb) (i : ℕ) (words : List (List ℕ)) (items : List Item) → items_from verb i words ≡ Some items → AreValues items
values_read verb i words items is =
    of_items verb (λ i items. AreValues items) (λ i. no_values)
    (λ i rest holds. record { each = holds.each })
    (λ key i rest alone holds. one_more key i rest (flag_is (kind_of key) i alone) holds)
    (λ key i n word rest reads holds. one_more key n rest (value_is (kind_of key) i n word reads) holds)
    (λ i rest holds. holds) i words items is

pub given_is : (key : Key) (items : List Item) → AreValues items → IfSome (given key items) (λ n. IsNumberOf (kind_of key) n)
given_is key items are = by (values key items) (are.each key)
  where
    by : (ns : List ℕ) → AllByRecursion (λ n. IsNumberOf (kind_of key) n) ns → IfSome (slice_get ns 0) (λ n. IsNumberOf (kind_of key) n)
    by [] all = tt
    by (n ∷ ns) all = all.0

pub setting_is : (key : Key) (default : ℕ) (items : List Item) → AreValues items → IsNumberOf (kind_of key) default → IsNumberOf (kind_of key) (setting key default items)
setting_is key default items are is = by (given key items) (given_is key items are)
  where
    by : (o : Option ℕ) → IfSome o (λ n. IsNumberOf (kind_of key) n) → IsNumberOf (kind_of key) (unwrap_or o default)
    by None holds = is
    by (Some n) holds = holds
