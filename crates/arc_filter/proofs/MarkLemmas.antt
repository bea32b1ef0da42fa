-- Marks say what the words say.
use Rattle.std.proofs.Common.{◌≡◌, ◌<◌, ℕ, Option, true≢false, zero, suc, Bool, true, false, ◌&&◌, ◌||◌, List, [], ◌∷◌, length, map, Some, None, refl, sym, ap, ◌∙◌, arith}
use Rattle.std.specs.Prelude.{slice_index_or}
use Rattle.std.specs.List.{list_any, range_with_len}
use Rattle.std.proofs.lemmas.List.{length-map}
use Rattle.std.proofs.lemmas.List.Elements.{All-cons, All-nil}
use Rattle.std.proofs.lemmas.List.FromFn.{get_or-map-range_with_len, length-range_with_len}
use Rattle.std.specs.Str.{bytes_eq}
use Rattle.elf32_syms.specs.declared.image.Symbol.{Symbol}
use Rattle.elf32_syms.specs.Owners.{owner_of}
use Rattle.settings.specs.CutWords.{from_of, to_of}
use Rattle.arc_filter.specs.declared.marks.Marks.{Marks}
use Rattle.arc_filter.specs.Cuts.{is_named, is_cut, is_cut_pair}
use Rattle.arc_filter.specs.Marks.{AreMarks, AreOf, callers_marked, is_caller_marked, is_marked, name_marks, sides_named, sides_of}
use Rattle.arc_filter.proofs.PairLemmas.{cut_by_owners, cut_of_functions}

abbrev IsOf : ℕ → Marks → Type 0
IsOf n m = (length m.from.items ≡ n) × (length m.to.items ≡ n)

abbrev Sides : Type 0
Sides = List Bool × List Bool

first_same : (x y : Sides) (xs ys : List Sides) → x ∷ xs ≡ y ∷ ys → x ≡ y
first_same x y xs ys e = cc

rest_same : (x y : Sides) (xs ys : List Sides) → x ∷ xs ≡ y ∷ ys → xs ≡ ys
rest_same x y xs ys e = cc

module _ (symbols : List Symbol) where
  named_long : (name : List ℕ) → length (name_marks symbols name) ≡ length symbols
  named_long name = length-map symbols (λ (s : Symbol). bytes_eq s.name name)

  pub marks_long : (words : List (List ℕ)) (marks : List Marks) → AreMarks symbols words marks → AreOf (length symbols) marks
  marks_long words [] are = All-nil (IsOf (length symbols))
  marks_long [] (m ∷ ms) are = absurd cc
  marks_long (w ∷ ws) (m ∷ ms) are =
      let here = first_same (sides_of m) (sides_named symbols w) (map sides_of ms) (map (sides_named symbols) ws) are in
      let rest = rest_same (sides_of m) (sides_named symbols w) (map sides_of ms) (map (sides_named symbols) ws) are in
      All-cons (IsOf (length symbols)) m ms
      (ap (λ (p : Sides). length p.0) here ∙ named_long (from_of w), ap (λ (p : Sides). length p.1) here ∙ named_long (to_of w))
      (marks_long ws ms rest)

named_at : (symbols : List Symbol) (name : List ℕ) (f : ℕ) → slice_index_or (name_marks symbols name) f false ≡ is_named symbols name f
named_at [] name f = refl
named_at (s ∷ ss) name zero = refl
named_at (s ∷ ss) name (suc f) = named_at ss name f

module _ (symbols : List Symbol) (f g : ℕ) where
  marked_each : (words : List (List ℕ)) (marks : List Marks) → AreMarks symbols words marks → is_marked marks f g ≡ is_cut_pair symbols words f g
  unfolding is_cut_pair
  marked_each [] [] are = refl
  marked_each [] (m ∷ ms) are = absurd cc
  marked_each (w ∷ ws) [] are = absurd cc
  marked_each (w ∷ ws) (m ∷ ms) are = grind (arith, named_at, marked_each ws ms)

  -- calls between two functions that own the addresses
  pub pair_marked : (words : List (List ℕ)) (marks : List Marks) (from to : ℕ) → AreMarks symbols words marks → owner_of symbols from ≡ Some f → owner_of symbols to ≡ Some g → is_marked marks f g ≡ is_cut symbols words from to
  pair_marked words marks from to are caller callee = grind (arith, marked_each, cut_by_owners, cut_of_functions)

none_passes : {X : Type 0} (test : X → Bool) → ((x : X) → test x ≡ false) → (xs : List X) → list_any test xs ≡ false
none_passes test none [] = refl
none_passes test none (x ∷ xs) = rw (none x) (none_passes test none xs)

and_false : (b : Bool) → (b && false) ≡ false
and_false true = refl
and_false false = refl

-- an address that no function owns
pub caller_unknown : (symbols : List Symbol) (words : List (List ℕ)) (from to : ℕ) → owner_of symbols from ≡ None → false ≡ is_cut symbols words from to
caller_unknown symbols words from to none = grind (arith, cut_by_owners, none_passes)

pub callee_unknown : (symbols : List Symbol) (words : List (List ℕ)) (from to : ℕ) → owner_of symbols to ≡ None → false ≡ is_cut symbols words from to
callee_unknown symbols words from to none = grind (arith, cut_by_owners, none_passes)

-- no marks have both functions where none have the caller
none_both : (marks : List Marks) (f g : ℕ) → is_caller_marked marks f ≡ false → is_marked marks f g ≡ false
none_both [] f g none = refl
none_both (m ∷ ms) f g none = by (slice_index_or m.from.items f false) (slice_index_or m.to.items g false) none (none_both ms f g)
  where
    by : (a b : Bool) → (a || is_caller_marked ms f) ≡ false → (is_caller_marked ms f ≡ false → is_marked ms f g ≡ false) → ((a && b) || is_marked ms f g) ≡ false
    by true b is rest = absurd (true≢false is)
    by false b is rest = rest is

-- a caller that no word names
pub caller_unnamed : (symbols : List Symbol) (words : List (List ℕ)) (marks : List Marks) (from to f : ℕ) → AreMarks symbols words marks → owner_of symbols from ≡ Some f → is_caller_marked marks f ≡ false → false ≡ is_cut symbols words from to
caller_unnamed symbols words marks from to f are caller none = by (owner_of symbols to) refl
  where
    by : (callee : Option ℕ) → owner_of symbols to ≡ callee → false ≡ is_cut symbols words from to
    by None is = callee_unknown symbols words from to is
    by (Some g) is = sym (none_both marks f g none) ∙ pair_marked symbols f g words marks from to are caller is

-- what the table says of a function
pub caller_at : (n f : ℕ) (marks : List Marks) (d : Bool) → f < n → slice_index_or (callers_marked n marks) f d ≡ is_caller_marked marks f
caller_at n f marks d below = get_or-map-range_with_len (is_caller_marked marks) 0 n f f d below (omega arith)

pub callers_long : (n : ℕ) (marks : List Marks) → length (callers_marked n marks) ≡ n
callers_long n marks = length-map (range_with_len 0 n) (is_caller_marked marks) ∙ length-range_with_len 0 n
