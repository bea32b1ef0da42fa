-- What a reader has kept, after one piece more.
use Rattle.std.proofs.Common.{◌≡◌, ℕ, zero, suc, ◌-◌, ◌≤◌, Bool, true, false, cond, min, Option, Some, None, List, [], ◌∷◌, ◌++◌, length, take, drop, length-take, length-drop, refl, sym, ap, subst, ◌∙◌, inl, inr, arith}
use Rattle.std.proofs.lemmas.Bool.{cases_lt, le-leb}
use Rattle.std.specs.Option.{is_some}
use Rattle.std.proofs.lemmas.List.{append-nil, take_all, drop_all, take-append-le, drop-append-le, take_min, drop_min}
use Rattle.gmon_cells.specs.Cells as columns
use Rattle.gp_base.specs.declared.refusal.GmonRefusal.{GmonRefusal}
use Rattle.gmon_bsd.specs.Reading.{size_of, header_refusal}
use Rattle.gmon_bsd.specs.Fed.{is_kept, counter_part, arc_part}

-- ---- a front and a rest of two lists, one after the other

take_none : {A : Type 0} (n : ℕ) → take {A = A} n [] ≡ []
take_none zero = refl
take_none (suc n) = refl

drop_none : {A : Type 0} (n : ℕ) → drop {A = A} n [] ≡ []
drop_none zero = refl
drop_none (suc n) = refl

pub take_over : {A : Type 0} (n : ℕ) (xs ys : List A) → take n (xs ++ ys) ≡ take n xs ++ take (n - length xs) ys
take_over {A} n [] ys = let e : n - 0 ≡ n = omega arith in rw (take_none {A = A} n, e) refl
take_over zero (x ∷ xs) ys = let e : 0 - suc (length xs) ≡ 0 = omega arith in rw e refl
take_over {A} (suc n) (x ∷ xs) ys = let e : suc n - suc (length xs) ≡ n - length xs = omega arith in rw e (ap (λ (v : List A). x ∷ v) (take_over n xs ys))

pub drop_over : {A : Type 0} (n : ℕ) (xs ys : List A) → drop n (xs ++ ys) ≡ drop n xs ++ drop (n - length xs) ys
drop_over {A} n [] ys = let e : n - 0 ≡ n = omega arith in rw (drop_none {A = A} n, e) refl
drop_over zero (x ∷ xs) ys = let e : 0 - suc (length xs) ≡ 0 = omega arith in rw e refl
drop_over {A} (suc n) (x ∷ xs) ys = let e : suc n - suc (length xs) ≡ n - length xs = omega arith in rw e (drop_over n xs ys)

-- ---- the parts of a text that goes on

counters_over : (b : Bool) (n : ℕ) (body more : List ℕ) → cond b (take n (body ++ more)) [] ≡ cond b (take n body) [] ++ cond b (take (n - length body) more) []
counters_over true n body more = take_over n body more
counters_over false n body more = refl

arcs_over : (b : Bool) (n : ℕ) (body more : List ℕ) → cond b (drop n (body ++ more)) [] ≡ cond b (drop n body) [] ++ cond b (drop (n - length body) more) []
arcs_over true n body more = drop_over n body more
arcs_over false n body more = refl

counters_empty : (header : List ℕ) → counter_part header 32 [] ≡ []
counters_empty header = by (is_kept header)
  where
    by : (b : Bool) → cond b (take {A = ℕ} (size_of header - 32) []) [] ≡ []
    by true = take_none {A = ℕ} (size_of header - 32)
    by false = refl

arcs_empty : (header : List ℕ) → arc_part header 32 [] ≡ []
arcs_empty header = by (is_kept header)
  where
    by : (b : Bool) → cond b (drop {A = ℕ} (size_of header - 32) []) [] ≡ []
    by true = drop_none {A = ℕ} (size_of header - 32)
    by false = refl

-- the header and both parts of a text that goes on by a piece
pub record GoesOn (bytes piece header body : List ℕ) (at : ℕ) : Type 0 where
  pub header_is : header ≡ take 32 (bytes ++ piece)
  pub counters : counter_part (take 32 bytes) 32 (drop 32 bytes) ++ counter_part header at body ≡ counter_part (take 32 (bytes ++ piece)) 32 (drop 32 (bytes ++ piece))
  pub arcs : arc_part (take 32 bytes) 32 (drop 32 bytes) ++ arc_part header at body ≡ arc_part (take 32 (bytes ++ piece)) 32 (drop 32 (bytes ++ piece))

-- the header isn't whole before
begins : (bytes piece : List ℕ) → length bytes ≤ 32 → GoesOn bytes piece (bytes ++ take (32 - length bytes) piece) (drop (32 - length bytes) piece) 32
begins bytes piece short =
    let all : take 32 bytes ≡ bytes = take_all 32 bytes short in
    let none : drop 32 bytes ≡ [] = drop_all 32 bytes short in
    let header : bytes ++ take (32 - length bytes) piece ≡ take 32 (bytes ++ piece) = ap (λ (v : List ℕ). v ++ take (32 - length bytes) piece) (sym all) ∙ sym (take_over 32 bytes piece) in
    let body : drop (32 - length bytes) piece ≡ drop 32 (bytes ++ piece) = ap (λ (v : List ℕ). v ++ drop (32 - length bytes) piece) (sym none) ∙ sym (drop_over 32 bytes piece) in
    record {
      header_is = header;
      counters = grind (arith, counters_empty);
      arcs = grind (arith, arcs_empty);
    }

-- the header is whole before
goes_on : (bytes piece : List ℕ) → 32 ≤ length bytes → GoesOn bytes piece (take 32 bytes) piece (length bytes)
goes_on bytes piece long =
    let header = take 32 bytes in
    let d = drop 32 bytes in
    let front : header ≡ take 32 (bytes ++ piece) = sym (take-append-le 32 bytes piece long) in
    let rest : d ++ piece ≡ drop 32 (bytes ++ piece) = sym (drop-append-le 32 bytes piece long) in
    let due : size_of header - length bytes ≡ size_of header - 32 - length d = omega (arith, long, length-drop 32 bytes) in
    record {
      header_is = front;
      counters = grind (arith, counters_over);
      arcs = grind (arith, arcs_over);
    }

pub fed_parts : (bytes piece before header body : List ℕ) (at : ℕ) → before ≡ take 32 bytes → header ≡ before ++ take (32 - length before) piece → body ≡ drop (32 - length before) piece
    → (length bytes ≤ 32 → at ≡ 32) → (32 ≤ length bytes → at ≡ length bytes) → GoesOn bytes piece header body at
fed_parts bytes piece before header body at before_is header_is body_is first later =
    elim (cases_lt (length bytes) 32) [
      | inl short ↦
          let all : before ≡ bytes = before_is ∙ take_all 32 bytes (omega arith) in
          let h : bytes ++ take (32 - length bytes) piece ≡ header = ap (λ (v : List ℕ). v ++ take (32 - length v) piece) (sym all) ∙ sym header_is in
          let b : drop (32 - length bytes) piece ≡ body = ap (λ (v : List ℕ). drop (32 - length v) piece) (sym all) ∙ sym body_is in
          let a : 32 ≡ at = sym (first (omega arith)) in
          subst (λ (n : ℕ). GoesOn bytes piece header body n) a
          (subst (λ (v : List ℕ). GoesOn bytes piece header v 32) b (subst (λ (v : List ℕ). GoesOn bytes piece v (drop (32 - length bytes) piece) 32) h (begins bytes piece (omega arith))))
      | inr long ↦
          let whole : 32 - length before ≡ 0 = omega (arith, ap length before_is, length-take 32 bytes) in
          let h : take 32 bytes ≡ header = sym (header_is ∙ ap (λ (n : ℕ). before ++ take n piece) whole ∙ append-nil before ∙ before_is) in
          let b : piece ≡ body = sym (body_is ∙ ap (λ (n : ℕ). drop n piece) whole) in
          let a : length bytes ≡ at = sym (later long) in
          subst (λ (n : ℕ). GoesOn bytes piece header body n) a
          (subst (λ (v : List ℕ). GoesOn bytes piece header v (length bytes)) b (subst (λ (v : List ℕ). GoesOn bytes piece v piece (length bytes)) h (goes_on bytes piece long)))
    ]

-- a column that stood for a part stands for the part of the whole
pub column_on : {X : Type 0} (w : ℕ) (cell : List ℕ → X) (part more part1 whole : List ℕ) (cells0 cells1 : List X) (torn0 torn1 : List ℕ) (cells2 : List X) (torn2 : List ℕ)
    → columns.StandsFor w cell part cells0 torn0 → cells1 ≡ cells0 → torn1 ≡ torn0 → more ≡ part1 → part ++ part1 ≡ whole
    → ((bytes : List ℕ) → columns.StandsFor w cell bytes cells1 torn1 → columns.StandsFor w cell (bytes ++ more) cells2 torn2) → columns.StandsFor w cell whole cells2 torn2
column_on {X} w cell part more part1 whole cells0 cells1 torn0 torn1 cells2 torn2 s cells_are torn_is more_is whole_is fed = grind arith

-- ---- the parts, by the number of bytes that are due to the counters

pub kept_without_fault : (header : List ℕ) (fault : Option GmonRefusal) → 32 ≤ length header → fault ≡ header_refusal header → false ≡ is_some fault → is_kept header ≡ true
kept_without_fault header (Some _) whole is none = absurd cc
kept_without_fault header None whole is _ = rw (sym is, le-leb 32 (length header) whole) refl

pub counters_due : (header : List ℕ) (at n : ℕ) (body : List ℕ) → is_kept header ≡ true → n ≡ min (size_of header - at) (length body) → take n body ≡ counter_part header at body
counters_due header at n body kept n_is = rw (kept, n_is) (take_min (size_of header - at) body)

pub arcs_due : (header : List ℕ) (at n : ℕ) (body : List ℕ) → is_kept header ≡ true → n ≡ min (size_of header - at) (length body) → drop n body ≡ arc_part header at body
arcs_due header at n body kept n_is = rw (kept, n_is) (drop_min (size_of header - at) body)
