-- Candidates at ascending addresses of the text are all kept.
use Rattle.std.proofs.Common.{◌≡◌, ℕ, zero, suc, ◌+◌, ◌-◌, ◌<◌, ◌≤◌, true, false, nat_eq, List, [], ◌∷◌, Option, None, Some, ⊎_elim, subst, refl, ◌∙◌, arith}
use Rattle.std.specs.Bool.{⊤}
use Rattle.std.specs.List.{filter, filter_map, range_with_len}
use Rattle.std.proofs.lemmas.Bool.{cases_lt}
use Rattle.std.proofs.lemmas.Bool.Decides.{nat_tests}
use Rattle.elf32_syms.specs.Sections.{text_low, text_high}
use Rattle.elf32_syms.specs.Symbols.{kept_at, kept_entries}
use Rattle.demo_laws.proofs.Reading.{Section, Entry}

-- addresses ascend, and lie between two numbers
abbrev pub Ascend : ℕ → ℕ → List Entry → Type 0
Ascend low high [] = ⊤
Ascend low high (c ∷ cs) = (low ≤ c.addr) × (c.addr < high) × Ascend (c.addr + 1) high cs

-- no candidate stands before the first one
none_before : (addr low high : ℕ) (cs : List Entry) → addr < low → Ascend low high cs → filter (λ (c : Entry). nat_eq c.addr addr) cs ≡ []
none_before addr low high [] h order = refl
none_before addr low high (c ∷ cs) h order = grind (arith, none_before addr (c.addr + 1) high cs (omega arith) order.2)

-- where f gives the kept ones at the addresses from one on, it gives all along these addresses
abbrev IsAlong : List ℕ → (ℕ → Option Entry) → ℕ → ℕ → List Entry → Type 0
IsAlong strings f n low cs = Ascend low (low + n) cs → ((addr : ℕ) → low ≤ addr → f addr ≡ kept_at strings cs addr) → filter_map f (range_with_len low n) ≡ cs

module _ (strings : List ℕ) where
  none_kept : (addr low high : ℕ) (cs : List Entry) → addr < low → Ascend low high cs → kept_at strings cs addr ≡ None
  unfolding kept_at
  none_kept addr low high cs h order = rw (none_before addr low high cs h order) refl

  first_kept : (high : ℕ) (c : Entry) (cs : List Entry) → Ascend (c.addr + 1) high cs → kept_at strings (c ∷ cs) c.addr ≡ Some c
  unfolding kept_at
  first_kept high c cs order =
      let same : nat_eq c.addr c.addr ≡ true = grind (arith, nat_tests) in
      rw (same, none_before c.addr (c.addr + 1) high cs (omega arith) order) refl

  later_kept : (addr : ℕ) (c : Entry) (cs : List Entry) → c.addr < addr → kept_at strings (c ∷ cs) addr ≡ kept_at strings cs addr
  unfolding kept_at
  later_kept addr c cs h = let other : nat_eq c.addr addr ≡ false = grind (arith, nat_tests) in rw other refl

  along : (f : ℕ → Option Entry) (n low : ℕ) (cs : List Entry) → IsAlong strings f n low cs
  along f zero low [] order same = refl
  along f zero low (c ∷ cs) order same = let from = order.0 in let to = order.1 in absurd (omega arith)
  along f (suc n) low [] order same =
      let none : f low ≡ None = same low (omega arith) ∙ none_kept low (low + 1) (low + 1) [] (omega arith) tt in
      rw none (along f n (low + 1) [] tt (λ addr h. same addr (omega arith)))
  along f (suc n) low (c ∷ cs) order same = ⊎_elim (before (along f n (low + 1) (c ∷ cs))) (here (along f n (low + 1) cs)) (cases_lt low c.addr)
    where
      end : low + suc n ≡ low + 1 + n
      end = omega arith

      before : IsAlong strings f n (low + 1) (c ∷ cs) → low < c.addr → filter_map f (range_with_len low (suc n)) ≡ c ∷ cs
      before rest h =
          let none : f low ≡ None = same low (omega arith) ∙ none_kept low c.addr (low + suc n) (c ∷ cs) h (omega arith, order.1, order.2) in
          rw none (rest (subst (λ (to : ℕ). Ascend (low + 1) to (c ∷ cs)) end (omega arith, order.1, order.2)) (λ addr le. same addr (omega arith)))

      here : IsAlong strings f n (low + 1) cs → c.addr ≤ low → filter_map f (range_with_len low (suc n)) ≡ c ∷ cs
      here rest h = grind (arith, first_kept, later_kept)

pub all_kept : (sections : List Section) (strings : List ℕ) (cs : List Entry) → text_low sections ≤ text_high sections → Ascend (text_low sections) (text_high sections) cs → kept_entries sections strings cs ≡ cs
unfolding kept_entries
all_kept sections strings cs h order =
    let end : text_high sections ≡ text_low sections + (text_high sections - text_low sections) = omega arith in
    along strings (kept_at strings cs) (text_high sections - text_low sections) (text_low sections) cs (subst (λ (to : ℕ). Ascend (text_low sections) to cs) end order) (λ addr le. refl)
