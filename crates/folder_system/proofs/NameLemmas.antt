-- Where a name is split, and that a name beside is longer than the name.
use Rattle.std.proofs.Common.{◌≡◌, ℕ, ◌+◌, ◌<◌, ◌≤◌, take, drop, get_or, take-append-drop, eqb-true, Bool, true, false, List, [], ◌∷◌, ◌++◌, length, Option, Some, None, Ok, Err, refl, sym, ap, ◌∙◌, suc, arith, length-append}
use Rattle.std.proofs.lemmas.Slice.Eq.{bytes_eq-Decides}
use Rattle.std.specs.Prelude.{bytes_eq, codes, decimal, MatchOption}
use Rattle.std.specs.Prelude.{option_map, Result, IfOk, ◌==◌, if◌then◌else◌}
use Rattle.std.specs.Str.Pattern.{RFindsChar}
use Rattle.std.proofs.lemmas.Str.Pattern.{NoCharPasses-char, drop_at_char}
use Rattle.std.proofs.lemmas.Bool.{ne_eqb}
use Rattle.folder_system.specs.Names.{split_name, split_behind, numbered, numbered_at}
use denote.Ref.{Bor}

-- ---- where a name is split

none_split : (text : List ℕ) → ((i : ℕ) → i < length text → get_or text i 0 ≡ 47 → ⊥) → split_name text ≡ None
none_split [] lacks = refl
none_split (b ∷ bs) lacks =
    let rest : split_name bs ≡ None = none_split bs (λ i l e. lacks (suc i) (omega (arith, l)) e) in
    let other : (b == 47) ≡ false = ne_eqb b 47 (λ e. lacks 0 (omega arith) e) in
    ap (split_behind b bs) rest ∙ ap (λ (t : Bool). if t then Some ([], bs) else None) other

some_split : (front back : List ℕ) → split_name back ≡ None → split_name (front ++ 47 ∷ back) ≡ Some (front, back)
some_split [] back none = ap (split_behind 47 back) none
some_split (b ∷ front) back none = ap (split_behind b (front ++ 47 ∷ back)) (some_split front back none)

-- takes the clause of `rsplit_once` at a slash
pub split_by : (text : List ℕ) (r : Option (Bor (List ℕ) × Bor (List ℕ)))
    → MatchOption r (RFindsChar 47 text None) (λ x. (i : ℕ) × (j : ℕ) × RFindsChar 47 text (Some (i, j)) × (x.0.now ≡ take i text) × (x.1.now ≡ drop j text) × (i ≤ j) × (length x.0.now ≡ i) × (length x.1.now + j ≡ length text))
    → option_map (λ x. (x.0.now, x.1.now)) r ≡ split_name text
split_by text None h = sym (none_split text (λ i. NoCharPasses-char 47 text i h (omega arith)))
split_by text (Some x) h =
    let i = h.0 in
    let j = h.1 in
    let none : split_name (drop j text) ≡ None = none_split (drop j text) (λ k. NoCharPasses-char 47 (drop j text) k h.2.0 (omega arith)) in
    let whole : text ≡ take i text ++ 47 ∷ drop j text = sym (take-append-drop i text) ∙ ap (λ (l : List ℕ). take i text ++ l) (drop_at_char 47 text i j h.2.1 (omega arith)) in
    (λ t. Some (h.3 t, h.4 t)) ∙ sym (some_split (take i text) (drop j text) none) ∙ ap split_name (sym whole)

IsSplit : List ℕ → Option (List ℕ × List ℕ) → Type 0
IsSplit text r = MatchOption r (Unit {0}) (λ split. text ≡ split.0 ++ 47 ∷ split.1)

parts_behind : (b : ℕ) (bs : List ℕ) (t : Bool) → (b == 47) ≡ t → IsSplit (b ∷ bs) (if t then Some ([], bs) else None)
unfolding IsSplit
parts_behind b bs false is = tt
parts_behind b bs true is = ap (λ (v : ℕ). v ∷ bs) (eqb-true b 47 is)

parts_at : (b : ℕ) (bs : List ℕ) (r : Option (List ℕ × List ℕ)) → IsSplit bs r → IsSplit (b ∷ bs) (split_behind b bs r)
unfolding IsSplit
parts_at b bs None h = parts_behind b bs (b == 47) refl
parts_at b bs (Some split) h = ap (λ (l : List ℕ). b ∷ l) h

split_parts : (text : List ℕ) → IsSplit text (split_name text)
unfolding IsSplit
split_parts [] = tt
split_parts (b ∷ bs) = parts_at b bs (split_name bs) (split_parts bs)

-- ---- a name beside

other_at : (name own : List ℕ) (b : Bool) → bytes_eq name own ≡ b → length name < length own → b ≡ false
other_at name own true is longer = absurd (let same : name ≡ own = (bytes_eq-Decides name own).0 is in let long : length name ≡ length own = ap length same in omega (arith, long, longer))
other_at name own false is longer = refl

-- a name is no longer one
other_name : (name own : List ℕ) → length name < length own → bytes_eq name own ≡ false
other_name name own longer = other_at name own (bytes_eq name own) refl longer

long_at : (name : List ℕ) (n : ℕ) (r : Option (List ℕ × List ℕ)) → IsSplit name r → length name < length (numbered_at name r n)
unfolding IsSplit
long_at name n None h = grind (arith, length-append)
long_at name n (Some split) h = grind (arith, length-append)

pub apart : (name : List ℕ) (n : ℕ) (own : List ℕ) → own ≡ numbered name n → bytes_eq name own ≡ false
apart name n own is = grind (arith, long_at, split_parts, other_name)

module _ {S E : Type 0} (text : S → List ℕ) (name : List ℕ) (n : ℕ) (front : List ℕ) where
  pub numbered_whole : (r : Result S E) → split_name name ≡ None → front ≡ codes "." → IfOk r (λ own. text own ≡ front ++ name ++ codes ".rvgprof-" ++ decimal n) → IfOk r (λ own. text own ≡ numbered name n)
  numbered_whole (Ok own) split is whole = grind arith
  numbered_whole (Err e) split is whole = tt

  pub numbered_last : (r : Result S E) (folder last : List ℕ) → split_name name ≡ Some (folder, last) → front ≡ folder ++ codes "/." → IfOk r (λ own. text own ≡ front ++ last ++ codes ".rvgprof-" ++ decimal n) → IfOk r (λ own. text own ≡ numbered name n)
  numbered_last (Ok own) folder last split is whole = grind arith
  numbered_last (Err e) folder last split is whole = tt
