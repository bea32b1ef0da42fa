-- The kept candidate is the first of those at its address.
use Rattle.std.proofs.Common.{◌≡◌, ℕ, Bool, true, false, cond, nat_eq, List, [], ◌∷◌, length, get_or, All, Contains, Option, Some, None, MatchOption, if◌then◌else◌, refl, ap, sym, ◌∙◌, inl, inr, arith}
use Rattle.std.specs.List.{filter, fold}
use Rattle.std.specs.Cmp.{IsTotalOrder, IsStrictWeakOrder, nat_cmp_total, then_total, on_total}
use Rattle.std.proofs.lemmas.Bool.{false≢true, cases_Bool, eq-eqb}
use Rattle.std.proofs.lemmas.Cmp.{nat_list_cmp_total}
use Rattle.std.proofs.lemmas.List.{get_or_default}
use Rattle.std.proofs.lemmas.List.Sorted.{ranks_by}
use Rattle.std.proofs.lemmas.List.Elements.{All-head, All-tail, All-cons, All-nil}
use Rattle.elf32_syms.specs.declared.symbols.Entry.{Entry}
use Rattle.elf32_syms.specs.Symbols.{symbol_name, binding_rank, type_rank, rank_cmp, ranks_before, kept_of_two, kept_at}
use Rattle.elf32_syms.proofs.KeptLemmas.{kept_at_holds}

rank_total : (strings : List ℕ) → IsTotalOrder (rank_cmp strings)
rank_total strings =
    then_total (on_total binding_rank nat_cmp_total)
    (then_total (on_total type_rank nat_cmp_total)
    (then_total (on_total (symbol_name strings) nat_list_cmp_total) (on_total (λ (e : Entry). e.number) nat_cmp_total)))

before_order : (strings : List ℕ) → IsStrictWeakOrder (ranks_before strings)
unfolding ranks_before
before_order strings = ranks_by (rank_total strings) (λ (e : Entry). e)

module _ (strings : List ℕ) where
  -- c comes behind none of them
  abbrev IsFirstOf : Entry → List Entry → Type 0
  IsFirstOf c ds = All (λ d. ranks_before strings d c ≡ false) ds

  not_before_itself : (c : Entry) → ranks_before strings c c ≡ false
  not_before_itself c =
      elim (cases_Bool (ranks_before strings c c)) [
        | inl yes_it ↦ (before_order strings).one_way c c yes_it
        | inr not_it ↦ not_it
      ]

  fold_first : (best c : Entry) (ds : List Entry) → fold (kept_of_two strings) (Some best) ds ≡ Some c → (ranks_before strings best c ≡ false) × IsFirstOf c ds
  fold_first best c [] h = let same : best ≡ c = cc in (ap (λ (x : Entry). ranks_before strings x c) same ∙ not_before_itself c, All-nil (λ d. ranks_before strings d c ≡ false))
  fold_first best c (d ∷ ds) h = by (λ x. fold_first x c ds) (ranks_before strings d best) refl h
    where
      by : ((x : Entry) → fold (kept_of_two strings) (Some x) ds ≡ Some c → (ranks_before strings x c ≡ false) × IsFirstOf c ds)
          → (b : Bool) → ranks_before strings d best ≡ b → fold (kept_of_two strings) (if b then Some d else Some best) ds ≡ Some c
          → (ranks_before strings best c ≡ false) × IsFirstOf c (d ∷ ds)
      by rest true e g =
          let r = rest d g in
          ((before_order strings).chain best d c ((before_order strings).one_way d best e) r.0, All-cons (λ x. ranks_before strings x c ≡ false) d ds r.0 r.1)
      by rest false e g =
          let r = rest best g in
          (r.0, All-cons (λ x. ranks_before strings x c ≡ false) d ds ((before_order strings).chain d best c e r.0) r.1)

  all_first : (c : Entry) (ds : List Entry) → fold (kept_of_two strings) None ds ≡ Some c → IsFirstOf c ds
  all_first c [] h = cc
  all_first c (d ∷ ds) h = let r = fold_first d c ds h in All-cons (λ x. ranks_before strings x c ≡ false) d ds r.0 r.1

  some_kept : (best : Entry) (ds : List Entry) → fold (kept_of_two strings) (Some best) ds ≡ None → ⊥
  some_kept best [] h = cc
  some_kept best (d ∷ ds) h = by (λ x. some_kept x ds) (ranks_before strings d best) h
    where
      by : ((x : Entry) → fold (kept_of_two strings) (Some x) ds ≡ None → ⊥) → (b : Bool) → fold (kept_of_two strings) (if b then Some d else Some best) ds ≡ None → ⊥
      by rest true g = rest d g
      by rest false g = rest best g

  none_there : (ds : List Entry) → fold (kept_of_two strings) None ds ≡ None → ds ≡ []
  none_there [] h = refl
  none_there (d ∷ ds) h = absurd (some_kept d ds h)

-- what holds of the items that pass
of_filter : {X : Type 0} (p : X → Bool) (Q : X → Type 0) (xs : List X) → All Q (filter p xs) → All (λ x. p x ≡ true → Q x) xs
of_filter p Q [] all = All-nil (λ x. p x ≡ true → Q x)
of_filter {X} p Q (x ∷ xs) all = by (p x) refl (λ rest. of_filter p Q xs rest) all
  where
    by : (b : Bool) → p x ≡ b → (All Q (filter p xs) → All (λ y. p y ≡ true → Q y) xs) → All Q (cond b (x ∷ filter p xs) (filter p xs)) → All (λ y. p y ≡ true → Q y) (x ∷ xs)
    by true e rest h = All-cons (λ y. p y ≡ true → Q y) x xs (λ _. All-head Q x (filter p xs) h) (rest (All-tail Q x (filter p xs) h))
    by false e rest h = All-cons (λ y. p y ≡ true → Q y) x xs (λ passes. absurd (false≢true (sym e ∙ passes))) (rest h)

pub kept_first : (strings : List ℕ) (cs : List Entry) (addr : ℕ) (o : Option Entry) → kept_at strings cs addr ≡ o
    → MatchOption o (All (λ (d : Entry). d.addr ≡ addr → ⊥) cs) (λ c. Contains cs c × (c.addr ≡ addr) × All (λ (d : Entry). d.addr ≡ addr → ranks_before strings d c ≡ false) cs)
unfolding kept_at
kept_first strings cs addr None h =
    let at : Entry → Bool = λ c. nat_eq c.addr addr in
    let none : All (λ _. ⊥) (filter at cs) = λ k d below. let gone = ap length (none_there strings (filter at cs) h) in absurd (omega arith) in
    let all = of_filter at (λ _. ⊥) cs none in
    λ k d below there. all k d below (eq-eqb (get_or cs k d).addr addr there)
kept_first strings cs addr (Some c) h =
    let at : Entry → Bool = λ c. nat_eq c.addr addr in
    let one = kept_at_holds strings (Contains cs) cs addr c (λ k d below. (k, below, get_or_default cs k (get_or cs k d) d below)) h in
    let all = of_filter at (λ d. ranks_before strings d c ≡ false) cs (all_first strings c (filter at cs) h) in
    (one.0, one.1, λ k d below there. all k d below (eq-eqb (get_or cs k d).addr addr there))
