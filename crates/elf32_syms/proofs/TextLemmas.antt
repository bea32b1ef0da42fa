-- The text: what its ends are, and what lies in it.
use Rattle.std.proofs.Common.{◌≡◌, ◌<◌, ◌≤◌, ◌-◌, ◌||◌, ℕ, zero, suc, min, max, Bool, true, false, cond, nat_eq, nat_lt, nat_le, List, [], ◌∷◌, length, map, All, Some, None, unwrap_or, if◌then◌else◌, refl, sym, ◌∙◌, arith}
use Rattle.std.specs.List.{filter, fold, reduce, slice_get}
use Rattle.std.proofs.lemmas.Bool.Decides.{nat_tests}
use Rattle.std.proofs.lemmas.List.Elements.{filter_passes}
use Rattle.elf32_syms.specs.declared.refusal.ElfRefusal.TheVariants.{TextRange}
use Rattle.elf32_syms.specs.declared.sections.Section.{Section}
use Rattle.elf32_syms.specs.Sections.{section_end, is_executable, executables, least_of, highest, text_low, text_high}
use Rattle.elf32_syms.specs.Refusals.{is_too_far, text_refusal}

-- the least and the greatest number, by a fold
fold_min : (x : ℕ) (xs : List ℕ) → fold min x xs ≡ least_of (x ∷ xs)
fold_min x [] = refl
fold_min x (y ∷ ys) = fold_min (min x y) ys ∙ by ys
  where
    by : (ys : List ℕ) → least_of (min x y ∷ ys) ≡ min x (least_of (y ∷ ys))
    by [] = refl
    by (z ∷ zs) = omega arith

fold_max : (x : ℕ) (xs : List ℕ) → fold max x xs ≡ max x (highest xs)
fold_max x [] = omega arith
fold_max x (y ∷ ys) = let e = fold_max (max x y) ys in omega arith

pub reduce_min : (xs : List ℕ) → unwrap_or (reduce min xs) 0 ≡ least_of xs
reduce_min [] = refl
reduce_min (x ∷ xs) = fold_min x xs

pub reduce_max : (xs : List ℕ) → unwrap_or (reduce max xs) 0 ≡ highest xs
reduce_max [] = refl
reduce_max (x ∷ xs) = fold_max x xs

first_low : (x : ℕ) (xs : List ℕ) → least_of (x ∷ xs) ≤ x
first_low x [] = omega arith
first_low x (y ∷ ys) = omega arith

-- an executable section is not empty
executable_some : (s : Section) → is_executable s ≡ true → s.addr < section_end s
unfolding is_executable
executable_some s taken = grind (arith, nat_tests)

-- so the range is empty exactly where there is none
empty_range : (xs : List Section) → All (λ (s : Section). is_executable s ≡ true) xs
    → nat_eq (length xs) 0 ≡ nat_le (highest (map section_end xs)) (least_of (map (λ (s : Section). s.addr) xs))
empty_range [] all = refl
empty_range (x ∷ xs) all = grind (arith, executable_some x (all zero x (omega arith)))

module _ (sections : List Section) where
  -- the refusal, by the two ends
  pub text_judged : text_refusal sections ≡ (if nat_le (text_high sections) (text_low sections) || is_too_far (text_low sections) (text_high sections) then Some (TextRange (text_low sections) (text_high sections)) else None)
  unfolding text_refusal text_low text_high
  text_judged = rw (empty_range (executables sections) (filter_passes is_executable sections)) refl

  module _ (low high : ℕ) (l : low ≡ text_low sections) (h : high ≡ text_high sections) where
    judged : (b : Bool) → (nat_le high low || is_too_far low high) ≡ b → text_refusal sections ≡ (if b then Some (TextRange low high) else None)
    judged b e = text_judged ∙ rw (← l, ← h, e) refl

    pub text_refused : (nat_le high low || is_too_far low high) ≡ true → text_refusal sections ≡ Some (TextRange low high)
    text_refused e = judged true e

    pub text_accepted : (nat_le high low || is_too_far low high) ≡ false → text_refusal sections ≡ None
    text_accepted e = judged false e

  -- what an accepted text's ends are
  pub text_limits : text_refusal sections ≡ None → (text_low sections < text_high sections) × (text_high sections - text_low sections ≤ 16777216) × (text_high sections ≤ 4294963200)
  text_limits none =
      by (nat_le high low) (nat_lt 16777216 (high - low)) (nat_lt 4294963200 high) refl refl refl (sym text_judged ∙ none)
    where
      low : ℕ
      low = text_low sections

      high : ℕ
      high = text_high sections

      by : (a b c : Bool) → nat_le high low ≡ a → nat_lt 16777216 (high - low) ≡ b → nat_lt 4294963200 high ≡ c
          → (if a || (b || c) then Some (TextRange low high) else None) ≡ None → (low < high) × (high - low ≤ 16777216) × (high ≤ 4294963200)
      by false false false o p q h = (grind (arith, nat_tests), grind (arith, nat_tests), grind (arith, nat_tests))
      by true b c o p q h = cc
      by false true c o p q h = cc
      by false false true o p q h = cc

-- what lies in an executable section lies in the text
record Spans (xs : List Section) (s : Section) : Type 0 where
  pub low : least_of (map (λ (x : Section). x.addr) xs) ≤ s.addr
  pub high : section_end s ≤ highest (map section_end xs)
  pub some : 0 < length xs

spans_first : (x : Section) (xs : List Section) → Spans (x ∷ xs) x
spans_first x xs = record { low = first_low x.addr (map (λ (s : Section). s.addr) xs); high = omega arith; some = omega arith }

spans_later : (x s : Section) (xs : List Section) → Spans xs s → Spans (x ∷ xs) s
spans_later x s [] h = absurd (let none = h.some in omega arith)
spans_later x s (y ∷ ys) h = record { low = omega (arith, h.low); high = omega (arith, h.high); some = omega arith }

spans : (xs : List Section) (k : ℕ) (s : Section) → slice_get xs k ≡ Some s → is_executable s ≡ true → Spans (filter is_executable xs) s
spans [] k s h taken = cc
spans (x ∷ xs) zero s h taken = let same : x ≡ s = cc in rw (same, taken) (spans_first s (filter is_executable xs))
spans (x ∷ xs) (suc k) s h taken = by (is_executable x) (spans xs k s h taken)
  where
    by : (b : Bool) → Spans (filter is_executable xs) s → Spans (cond b (x ∷ filter is_executable xs) (filter is_executable xs)) s
    by true rest = spans_later x s (filter is_executable xs) rest
    by false rest = rest

pub section_in_text : (sections : List Section) (k : ℕ) (s : Section) → slice_get sections k ≡ Some s → is_executable s ≡ true
    → (text_low sections ≤ s.addr) × (section_end s ≤ text_high sections)
unfolding text_low text_high
section_in_text sections k s there taken = let h = spans sections k s there taken in (h.low, h.high)
