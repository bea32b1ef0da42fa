-- Writing a number as bytes and reading it back.
use Rattle.std.proofs.Common.{◌≡◌, ℕ, zero, suc, ◌+◌, ◌*◌, ◌/◌, ◌%◌, ◌^◌, ◌<◌, List, [], ◌∷◌, ◌++◌, length, take, drop, length-take, length-drop, refl, sym, ap, subst, ◌∙◌, arith, ◌≤◌}
use Rattle.std.proofs.Math.Nat.{pow-succ'}
use Rattle.std.proofs.Math.Seq.{drop-cons}
use Rattle.std.proofs.lemmas.List.{get_or-drop, get_or-take, get_or_past, take-append-drop, drop-drop}
use Rattle.byteorder.specs.Endian.{little_from}
use Rattle.gp_base.specs.Bytes.{value_of, le, IsBytes, items_of_text}

pub length-le : (k n : ℕ) → length (le n k) ≡ k
length-le zero n = refl
length-le (suc k) n = ap suc (length-le k (n / 256))

pub IsBytes-rest : (b : ℕ) (bs : List ℕ) → IsBytes (b ∷ bs) → IsBytes bs
IsBytes-rest b bs h i = h (suc i)

-- they are bytes
pub IsBytes-le : (k n : ℕ) → IsBytes (le n k)
IsBytes-le zero n i = omega arith
IsBytes-le (suc k) n zero = omega arith
IsBytes-le (suc k) n (suc i) = IsBytes-le k (n / 256) i

-- k bytes hold each number below 256 ^ k
pub value_of-le : (k n : ℕ) → n < 256 ^ k → value_of (le n k) ≡ n
value_of-le zero n h = omega arith
value_of-le (suc k) n h =
    let high : n / 256 < 256 ^ k = omega (arith, pow-succ' 256 k) in
    omega (arith, value_of-le k (n / 256) high)

-- bytes are those of their number
pub le-value_of : (bs : List ℕ) → IsBytes bs → le (value_of bs) (length bs) ≡ bs
le-value_of [] h = refl
le-value_of (b ∷ bs) h =
    let low : (b + 256 * value_of bs) % 256 ≡ b = omega (arith, h 0) in
    let high : (b + 256 * value_of bs) / 256 ≡ value_of bs = omega (arith, h 0) in
    rw (low, high) (ap (λ (xs : List ℕ). b ∷ xs) (le-value_of bs (IsBytes-rest b bs h)))

-- k bytes hold no other number
pub value_of-below : (bs : List ℕ) → IsBytes bs → value_of bs < 256 ^ length bs
value_of-below [] h = omega arith
value_of-below (b ∷ bs) h =
    rw pow-succ' (omega (arith, h 0, value_of-below bs (IsBytes-rest b bs h)))

-- the number that a reader of fields gives is the value of the field's bytes
pub field_is : (k i : ℕ) (bs : List ℕ) → i + k ≤ length bs → little_from i k bs ≡ value_of (take k (drop i bs))
field_is zero i bs le = refl
field_is (suc k) i bs le = grind (arith, drop-cons, field_is k (suc i) bs (omega arith))

-- each of the items
pub length-cut : {X : Type 0} (w : ℕ) (item : List ℕ → X) (n : ℕ) (bs : List ℕ) → length (items_of_text w item n bs) ≡ n
length-cut w item zero bs = refl
length-cut w item (suc n) bs = ap suc (length-cut w item n (drop w bs))

pub IsBytes-drop : (n : ℕ) (bs : List ℕ) → IsBytes bs → IsBytes (drop n bs)
IsBytes-drop n bs h i = rw get_or-drop (h (n + i))

pub IsBytes-take : (n : ℕ) (bs : List ℕ) → IsBytes bs → IsBytes (take n bs)
IsBytes-take n bs h i = grind (arith, get_or-take, get_or_past, length-take)

-- a number of k bytes at an offset has k bytes
pub field_below : (k at : ℕ) (bs : List ℕ) → IsBytes bs → at + k ≤ length bs → value_of (take k (drop at bs)) < 256 ^ k
field_below k at bs bytes long =
    let field = take k (drop at bs) in
    let len : length field ≡ k = omega (arith, length-take k (drop at bs), length-drop at bs) in
    subst (λ (n : ℕ). value_of field < 256 ^ n) len (value_of-below field (IsBytes-take k (drop at bs) (IsBytes-drop at bs bytes)))

-- what stands from an offset on is the number there, and what follows it
pub field_then : (k at : ℕ) (bs : List ℕ) → IsBytes bs → at + k ≤ length bs → le (value_of (take k (drop at bs))) k ++ drop (at + k) bs ≡ drop at bs
field_then k at bs bytes long =
    let field = take k (drop at bs) in
    let len : length field ≡ k = omega (arith, length-take k (drop at bs), length-drop at bs) in
    let front : le (value_of field) k ≡ field = ap (le (value_of field)) (sym len) ∙ le-value_of field (IsBytes-take k (drop at bs) (IsBytes-drop at bs bytes)) in
    ap (λ (v : List ℕ). v ++ drop (at + k) bs) front ∙ ap (λ (v : List ℕ). field ++ v) (sym (drop-drop k at bs)) ∙ take-append-drop k (drop at bs)
