-- A list in chunks is bisected by the first items of its chunks, and then in one chunk.
use Rattle.std.proofs.Common.{◌≡◌, ℕ, zero, suc, ◌+◌, ◌-◌, ◌<◌, ◌≤◌, Bool, true, false, List, [], ◌∷◌, length, length-append, get_or, Option, unwrap_or, refl, sym, ap, subst, ◌∙◌, true≢false, ltb, ◌⊎◌, inl, inr, arith}
use Rattle.std.specs.List.{AllWithin}
use Rattle.std.specs.List.Sorted.{IsPartitionedBy, IsPartitionPoint}
use Rattle.std.specs.Fn.{AlwaysReturns, Called, Mut}
use Rattle.std.specs.Global.{Vec}
use Rattle.std.proofs.lemmas.Option.{unwrap_or-slice_get}
use Rattle.std.proofs.lemmas.List.{get_or_read}
use Rattle.gmon_data.specs.Chunks.{items_of}
use Rattle.gmon_data.proofs.ChunkLemmas.{before, item_at, items_before}

-- one call more: what it answers, and that the next ones answer so
pub answers_next : {F X R : Type 0} (g : Mut F X R) {P : X → R → Type 0} (f : F) (a : X) (r : R) (f' : F) → Called g f a r f' → AlwaysReturns g P f → P a r × AlwaysReturns g P f'
answers_next g f a r f' c h = ((h.at (a ∷ []) r f' c).0, record { at = λ xs. (h.at (a ∷ xs) r f' c).1 })

not_true : (b : Bool) → (b ≡ true → ⊥) → b ≡ false
not_true b h = grind arith

lt_or_le : (k n : ℕ) → (k < n) ⊎ (n ≤ k)
lt_or_le k n = by (ltb k n) refl
  where
    by : (b : Bool) → ltb k n ≡ b → (k < n) ⊎ (n ≤ k)
    by b e = grind arith

module _ {T : Type 0} where
  -- the first items of the chunks before base pass, and those of the chunks from base + size on fail
  abbrev pub IsHalved : (T → Bool) → List (Vec T) → ℕ → ℕ → Type 0
  IsHalved p cs base size =
      IsPartitionedBy p (items_of cs) → AllWithin (λ (y : T). p y ≡ true) (items_of cs) 0 (before base cs)
      × AllWithin (λ (y : T). p y ≡ false) (items_of cs) (before (base + size) cs) (length (items_of cs))

  before_rises : (i j : ℕ) (cs : List (Vec T)) → i ≤ j → before i cs ≤ before j cs
  before_rises zero j cs le = omega arith
  before_rises (suc i) zero cs le = absurd (let f : suc i ≤ 0 = le in omega (arith, f))
  before_rises (suc i) (suc j) [] le = omega arith
  before_rises (suc i) (suc j) (c ∷ cs) le = omega (arith, before_rises i j cs (omega (arith, le)))

  before_all : (cs : List (Vec T)) (n : ℕ) → length cs ≤ n → length (items_of cs) ≤ before n cs
  before_all [] n le = omega arith
  before_all (c ∷ cs) zero le = absurd (let f : suc (length cs) ≤ 0 = le in omega (arith, f))
  before_all (c ∷ cs) (suc n) le = omega (arith, before_all cs n (omega (arith, le)), length-append c.items (items_of cs))

  before_next : (c : ℕ) (cs : List (Vec T)) (w : Vec T) → c < length cs → before (c + 1) cs ≡ before c cs + length (get_or cs c w).items
  before_next c [] w lt = absurd (let f : suc c ≤ 0 = lt in omega (arith, f))
  before_next zero (x ∷ xs) w lt = omega arith
  before_next (suc c) (x ∷ xs) w lt = grind (arith, before_next c xs w)

  pub some_chunk : (cs : List (Vec T)) → 0 < length (items_of cs) → 0 < length cs
  some_chunk [] some = some
  some_chunk (c ∷ cs) some = omega arith

  read_at : (cs : List (Vec T)) (c j : ℕ) (w : Vec T) (d : T) → c < length cs → j < length (get_or cs c w).items → get_or (items_of cs) (before c cs + j) d ≡ get_or (get_or cs c w).items j d
  read_at cs c j w d lt inside =
      sym (unwrap_or-slice_get (items_of cs) (before c cs + j) d) ∙ ap (λ (o : Option T). unwrap_or o d) (item_at cs c j w lt inside) ∙ unwrap_or-slice_get (get_or cs c w).items j d

  module _ (p : T → Bool) (cs : List (Vec T)) where
    pub halved_none : (size : ℕ) → length cs ≤ size → IsHalved p cs 0 size
    halved_none size le parted = grind (arith, before_all)

    -- an item of a chunk, as one of all
    chunk_read : (c k : ℕ) (w : Vec T) (d : T) → c < length cs → w ≡ get_or cs c w → k < length w.items → get_or (items_of cs) (before c cs + k) d ≡ get_or w.items k d
    chunk_read c k w d lt read inside = grind (arith, read_at)

    pub chunk_within : (c : ℕ) (w : Vec T) → c < length cs → w ≡ get_or cs c w → before c cs + length w.items ≤ length (items_of cs)
    chunk_within c w lt read = subst (λ (v : Vec T). before c cs + length v.items ≤ length (items_of cs)) (sym read) (items_before cs c w lt)

    first_read : (c : ℕ) (w : Vec T) (x d : T) → c < length cs → w ≡ get_or cs c w → 0 < length w.items → x ≡ get_or w.items 0 x → get_or (items_of cs) (before c cs) d ≡ x
    first_read c w x d lt read some item =
        let place : before c cs ≡ before c cs + 0 = omega arith in
        ap (λ (k : ℕ). get_or (items_of cs) k d) place ∙ chunk_read c 0 w d lt read some ∙ sym (get_or_read w.items 0 x some item d)

    -- the first item of the chunk in the middle passes, or it fails
    pub halved_true : (base size mid size' : ℕ) (w : Vec T) (x : T) → mid + size' ≡ base + size → mid < length cs → w ≡ get_or cs mid w → 0 < length w.items → x ≡ get_or w.items 0 x → p x ≡ true
        → IsHalved p cs base size → IsHalved p cs mid size'
    halved_true base size mid size' w x same lt read some item pass halved parted =
        let within = chunk_within mid w lt read in
        let last : before (mid + size') cs ≡ before (base + size) cs = ap (λ (k : ℕ). before k cs) same in (
          (λ k d from below. parted k (before mid cs) d (omega (arith, below)) (omega (arith, within, some)) (ap p (first_read mid w x d lt read some item) ∙ pass)),
          (λ k d from below. (halved parted).1 k d (omega (arith, from, last)) below),
        )

    pub halved_false : (base size mid size' : ℕ) (w : Vec T) (x : T) → mid ≤ base + size' → mid < length cs → w ≡ get_or cs mid w → 0 < length w.items → x ≡ get_or w.items 0 x → p x ≡ false
        → IsHalved p cs base size → IsHalved p cs base size'
    halved_false base size mid size' w x above lt read some item fail halved parted = (
      (halved parted).0,
      (λ k d from below. not_true (p (get_or (items_of cs) k d))
          (λ pass. true≢false (sym (parted (before mid cs) k d (omega (arith, from, before_rises mid (base + size') cs above)) below pass) ∙ ap p (first_read mid w x d lt read some item) ∙ fail))),
    )

    pub parted_chunk : (c : ℕ) (w : Vec T) → c < length cs → w ≡ get_or cs c w → IsPartitionedBy p (items_of cs) → IsPartitionedBy p w.items
    parted_chunk c w lt read parted i j d le below pass =
        let within = chunk_within c w lt read in
        ap p (sym (chunk_read c i w d lt read (omega (arith, le, below))))
        ∙ parted (before c cs + i) (before c cs + j) d (omega (arith, le)) (omega (arith, within, below)) (ap p (chunk_read c j w d lt read below) ∙ pass)

    -- what holds of each item of a chunk in a range holds of those of all in that range
    in_range : (P : T → Type 0) (c low high : ℕ) (w : Vec T) → c < length cs → w ≡ get_or cs c w → high ≤ length w.items → AllWithin P w.items low high
        → (k : ℕ) (d : T) → before c cs + low ≤ k → k < before c cs + high → P (get_or (items_of cs) k d)
    in_range P c low high w lt read bound all k d from below =
        let place : before c cs + (k - before c cs) ≡ k = omega (arith, from) in
        let here = all (k - before c cs) d (omega (arith, from)) (omega (arith, from, below)) in
        grind (arith, before, chunk_read)

    pub point_at : (base size r : ℕ) (w : Vec T) → size ≤ 1 → base < length cs → w ≡ get_or cs base w → r ≤ length w.items → IsHalved p cs base size
        → IsPartitionPoint (λ (y : T). p y ≡ true) (λ (y : T). p y ≡ false) w.items r → IsPartitionedBy p (items_of cs)
        → IsPartitionPoint (λ (y : T). p y ≡ true) (λ (y : T). p y ≡ false) (items_of cs) (before base cs + r)
    point_at base size r w one lt read bound halved point parted = (
      (λ k d from below. elim (lt_or_le k (before base cs)) [
        | inl low ↦ (halved parted).0 k d from low
        | inr high ↦ in_range (λ (y : T). p y ≡ true) base 0 r w lt read bound point.0 k d (omega (arith, high)) below
      ]),
      (λ k d from below. elim (lt_or_le k (before base cs + length w.items)) [
        | inl low ↦ in_range (λ (y : T). p y ≡ false) base r (length w.items) w lt read (omega arith) point.1 k d from low
        | inr high ↦ (halved parted).1 k d (omega (arith, high, last)) below
      ]),
    )
      where
        last : before (base + size) cs ≤ before base cs + length w.items
        last = grind (arith, before_next)
