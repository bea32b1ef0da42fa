-- A piece written over a list: how long it is then, and what stands where.
use Rattle.std.proofs.Common.{◌≡◌, ℕ, zero, suc, ◌+◌, ◌-◌, ◌*◌, ◌<◌, ◌≤◌, List, [], ◌∷◌, ◌++◌, length, take, drop, get_or, set, slice_get, refl, sym, ap, ◌∙◌, arith, append_assoc, length-append, length-take, drop-cons, zero-add}
use Rattle.std.proofs.lemmas.List.{set_split, take-append-drop, take_at, drop_at, drop-drop}
use Rattle.std.specs.List.{flat_map}
use Rattle.std.proofs.lemmas.List.Concat.{flat_map-append}
use Rattle.gp_base.specs.Bytes.{with_piece_at}
use Rattle.gp_base.proofs.Cutting.{length-spelled}

module _ {X : Type 0} where
  -- the items of parts
  pub get_drop : (d k : ℕ) (xs : List X) → slice_get (drop d xs) k ≡ slice_get xs (d + k)
  get_drop zero k xs = ap (slice_get xs) (sym (zero-add k))
  get_drop (suc d) k [] = refl
  get_drop (suc d) k (x ∷ xs) = grind (arith, get_drop d k xs)

  pub get_take : (n k : ℕ) (xs : List X) → k < n → slice_get (take n xs) k ≡ slice_get xs k
  get_take zero k xs h = absurd (omega arith)
  get_take (suc n) k [] h = refl
  get_take (suc n) zero (x ∷ xs) h = refl
  get_take (suc n) (suc k) (x ∷ xs) h = get_take n k xs (omega arith)

  pub get_front : (xs ys : List X) (k : ℕ) → k < length xs → slice_get (xs ++ ys) k ≡ slice_get xs k
  get_front [] ys k h = absurd (omega arith)
  get_front (x ∷ xs) ys zero h = refl
  get_front (x ∷ xs) ys (suc k) h = get_front xs ys k (omega arith)

  pub get_back : (xs ys : List X) (n k : ℕ) → n ≡ length xs → slice_get (xs ++ ys) (n + k) ≡ slice_get ys k
  get_back [] ys n k h = let e : n + k ≡ k = omega arith in ap (slice_get ys) e
  get_back (x ∷ xs) ys n k h = grind (arith, get_back xs ys (length xs) k refl)

  -- the piece stands from `at` on
  pub get_overwritten : (at k : ℕ) (piece xs : List X) → at + length piece ≤ length xs → k < length piece → slice_get (with_piece_at at piece xs) (at + k) ≡ slice_get piece k
  get_overwritten at k piece xs h lt = grind (arith, length-take, get_back, get_front)

  -- and elsewhere all is as before
  pub get_before : (at k : ℕ) (piece xs : List X) → at + length piece ≤ length xs → k < at → slice_get (with_piece_at at piece xs) k ≡ slice_get xs k
  get_before at k piece xs h lt = grind (arith, get_front, length-take, get_take)

  pub get_behind : (at k : ℕ) (piece xs : List X) → at + length piece ≤ length xs → at + length piece ≤ k → slice_get (with_piece_at at piece xs) k ≡ slice_get xs k
  get_behind at k piece xs h past =
      let r = k - (at + length piece) in
      let rest = drop (at + length piece) xs in
      let e : k ≡ at + (length piece + r) = omega arith in
      let back : (at + length piece) + r ≡ k = omega arith in
      let front : at ≡ length (take at xs) = omega (arith, length-take at xs) in
      ap (slice_get (with_piece_at at piece xs)) e
      ∙ get_back (take at xs) (piece ++ rest) at (length piece + r) front
      ∙ get_back piece rest (length piece) r refl
      ∙ get_drop (at + length piece) r xs
      ∙ ap (slice_get xs) back

  -- a piece written over as many items between others
  pub overwritten-middle : (at : ℕ) (xs old piece ys : List X) → length xs ≡ at → length old ≡ length piece
      → with_piece_at at piece (xs ++ (old ++ ys)) ≡ xs ++ (piece ++ ys)
  overwritten-middle at xs old piece ys e same =
      let front : take at (xs ++ (old ++ ys)) ≡ xs = take_at xs (old ++ ys) at e in
      let back : drop (at + length piece) (xs ++ (old ++ ys)) ≡ ys =
      sym (drop-drop (length piece) at (xs ++ (old ++ ys))) ∙ ap (drop (length piece)) (drop_at xs (old ++ ys) at e) ∙ drop_at old ys (length piece) same in
      rw (front, back) refl

-- one of several items of w bytes each, written over in their text
pub overwritten-item : {X : Type 0} (w : ℕ) (spelling : X → List ℕ) → ((x : X) → length (spelling x) ≡ w)
    → (before after : List ℕ) (xs : List X) (i at : ℕ) (x : X) → i < length xs → length before + i * w ≡ at
    → with_piece_at at (spelling x) (before ++ (flat_map spelling xs ++ after)) ≡ before ++ (flat_map spelling (set xs i x) ++ after)
overwritten-item {X} w spelling wide before after xs i at x inside place =
    let old : X = get_or xs i x in
    let front : List ℕ = flat_map spelling (take i xs) in
    let back : List ℕ = flat_map spelling (drop (suc i) xs) in
    let was : flat_map spelling xs ≡ front ++ (spelling old ++ back) =
    ap (flat_map spelling) (sym (take-append-drop i xs) ∙ ap (λ (ys : List X). take i xs ++ ys) (drop-cons xs i x inside)) ∙ flat_map-append spelling (take i xs) (old ∷ drop (suc i) xs) in
    let now : flat_map spelling (set xs i x) ≡ front ++ (spelling x ++ back) =
    ap (flat_map spelling) (set_split xs i x inside) ∙ flat_map-append spelling (take i xs) (x ∷ drop (suc i) xs) in
    let shape : (ys : List ℕ) → before ++ ((front ++ (ys ++ back)) ++ after) ≡ (before ++ front) ++ (ys ++ (back ++ after)) =
    λ ys. simp append_assoc in
    let count : length (take i xs) ≡ i = omega (arith, length-take i xs) in
    let start : length (before ++ front) ≡ at = omega (arith, length-append before front, length-spelled w spelling wide (take i xs), ap (λ (k : ℕ). k * w) count) in
    ap (λ (bs : List ℕ). with_piece_at at (spelling x) (before ++ (bs ++ after))) was
    ∙ ap (with_piece_at at (spelling x)) (shape (spelling old))
    ∙ overwritten-middle at (before ++ front) (spelling old) (spelling x) (back ++ after) start (wide old ∙ sym (wide x))
    ∙ sym (shape (spelling x)) ∙ ap (λ (bs : List ℕ). before ++ (bs ++ after)) (sym now)
