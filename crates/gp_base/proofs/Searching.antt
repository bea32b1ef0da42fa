-- What a search and a filter tell of the items of a list.
use Rattle.std.proofs.Common.{◌≡◌, ◌<◌, ℕ, zero, suc, Bool, true, false, List, [], ◌∷◌, length, get_or, Some, None, sym, ap, ◌∙◌, inl, inr, arith}
use Rattle.std.specs.List.{find, Contains}
use Rattle.std.proofs.lemmas.Bool.{cases_Bool}

module _ {X : Type 0} (p : X → Bool) where
  -- a search that finds nothing passes over each item
  pub find_none : (xs : List X) → find p xs ≡ None → (k : ℕ) (d : X) → k < length xs → p (get_or xs k d) ≡ false
  find_none [] h k d l = absurd (omega arith)
  find_none (x ∷ xs) h zero d l = grind arith
  find_none (x ∷ xs) h (suc k) d l =
      elim (cases_Bool (p x)) [ inl t ↦ let e = rw t at h in cc | inr f ↦ find_none xs (rw f at h) k d (omega arith) ]

  -- what it finds is an item that passes
  pub find_some : (xs : List X) (y : X) → find p xs ≡ Some y → Contains xs y × (p y ≡ true)
  find_some [] y h = cc
  find_some (x ∷ xs) y h =
      elim (cases_Bool (p x)) [
        | inl t ↦ let e : x ≡ y = (let e = rw t at h in cc) in ((zero, omega arith, e), ap p (sym e) ∙ t)
        | inr f ↦ let rest = find_some xs y (rw f at h) in ((suc rest.0.0, omega (arith, rest.0.1), rest.0.2), rest.1)
      ]
