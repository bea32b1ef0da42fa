-- Items of one width, one after the other.
use Rattle.std.proofs.Common.{◌≡◌, ◌-◌, ℕ, zero, suc, ◌+◌, ◌*◌, ◌<◌, ◌≤◌, slice_get, Some, List, [], ◌∷◌, ◌++◌, length, take, drop, length-take, length-drop, length-append, refl, sym, ap, ◌∙◌, append_assoc, arith}
use Rattle.std.specs.List.{flat_map, AllByRecursion}
use Rattle.std.proofs.lemmas.List.{take_at, drop_at, take-take, drop-take, drop-drop}
use Rattle.gp_base.specs.Bytes.{items_of_text, IsBytes}
use Rattle.gp_base.proofs.LittleEndian.{IsBytes-take, IsBytes-drop}

take-nil : {A : Type 0} (n : ℕ) → take {A = A} n [] ≡ []
take-nil zero = refl
take-nil (suc n) = refl

-- a front is that of its two parts
pub take-sum : {A : Type 0} (m n : ℕ) (xs : List A) → take m xs ++ take n (drop m xs) ≡ take (m + n) xs
take-sum zero n xs = let e : n ≡ 0 + n = omega arith in ap (λ (k : ℕ). take k xs) e
take-sum {A} (suc m) n [] = take-nil {A = A} n ∙ sym (take-nil {A = A} (suc m + n))
take-sum {A} (suc m) n (x ∷ xs) =
    let e : suc m + n ≡ suc (m + n) = omega arith in
    ap (λ (v : List A). x ∷ v) (take-sum m n xs) ∙ ap (λ (k : ℕ). take k (x ∷ xs)) (sym e)

-- items that were cut out of a text are spelled by it
pub flat_map-cut : {X : Type 0} (w : ℕ) (item : List ℕ → X) (spelling : X → List ℕ) → ((bs : List ℕ) → length bs ≡ w → IsBytes bs → spelling (item bs) ≡ bs)
    → (n : ℕ) (bs : List ℕ) → n * w ≤ length bs → IsBytes bs → flat_map spelling (items_of_text w item n bs) ≡ take (n * w) bs
flat_map-cut w item spelling same zero bs long bytes = let e : 0 ≡ 0 * w = omega arith in ap (λ (k : ℕ). take k bs) e
flat_map-cut w item spelling same (suc n) bs long bytes =
    let e : suc n * w ≡ w + n * w = omega arith in
    let first = same (take w bs) (omega (arith, length-take w bs)) (IsBytes-take w bs bytes) in
    let others = flat_map-cut w item spelling same n (drop w bs) (omega (arith, length-drop w bs)) (IsBytes-drop w bs bytes) in
    ap (λ (v : List ℕ). v ++ flat_map spelling (items_of_text w item n (drop w bs))) first ∙ ap (λ (v : List ℕ). take w bs ++ v) others
    ∙ take-sum w (n * w) bs ∙ ap (λ (k : ℕ). take k bs) (sym e)

-- what spells items is cut into these items
pub cut-flat_map : {X : Type 0} (w : ℕ) (item : List ℕ → X) (spelling : X → List ℕ) (Fits : X → Type 0) → ((x : X) → length (spelling x) ≡ w) → ((x : X) → Fits x → item (spelling x) ≡ x)
    → (xs : List X) (rest : List ℕ) → AllByRecursion Fits xs → items_of_text w item (length xs) (flat_map spelling xs ++ rest) ≡ xs
cut-flat_map w item spelling Fits long back [] rest fits = refl
cut-flat_map {X} w item spelling Fits long back (x ∷ xs) rest fits =
    search (append_assoc, take_at, drop_at, cut-flat_map w item spelling Fits long back xs rest fits.1)

-- how long the spelling of items is
pub length-spelled : {X : Type 0} (w : ℕ) (spelling : X → List ℕ) → ((x : X) → length (spelling x) ≡ w) → (xs : List X) → length (flat_map spelling xs) ≡ length xs * w
length-spelled w spelling long [] = omega arith
length-spelled w spelling long (x ∷ xs) = grind (arith, length-append, length-spelled w spelling long xs)

-- items within a front are those of the whole
pub cut-take : {X : Type 0} (w : ℕ) (item : List ℕ → X) (n k : ℕ) (bs : List ℕ) → n * w ≤ k → items_of_text w item n (take k bs) ≡ items_of_text w item n bs
cut-take w item zero k bs le = refl
cut-take {X} w item (suc n) k bs le =
    let split : k ≡ w + (k - w) = omega arith in
    let rest : drop w (take k bs) ≡ take (k - w) (drop w bs) = ap (λ (m : ℕ). drop w (take m bs)) split ∙ drop-take w (k - w) bs in
    ap (λ (v : List ℕ). item v ∷ items_of_text w item n (drop w (take k bs))) (take-take w k bs (omega arith))
    ∙ ap (λ (v : List ℕ). item (take w bs) ∷ items_of_text w item n v) rest
    ∙ ap (λ (v : List X). item (take w bs) ∷ v) (cut-take w item n (k - w) (drop w bs) (omega arith))

-- item i begins i * w bytes from the begin
pub get_cut : {X : Type 0} (w : ℕ) (item : List ℕ → X) (n i : ℕ) (bs : List ℕ) → i < n → slice_get (items_of_text w item n bs) i ≡ Some (item (take w (drop (i * w) bs)))
get_cut w item zero i bs h = absurd (omega arith)
get_cut w item (suc n) zero bs h = let start : 0 * w ≡ 0 = omega arith in rw start refl
get_cut w item (suc n) (suc i) bs h = grind (arith, drop-drop, get_cut w item n i (drop w bs) (omega arith))

-- what holds of an item of w bytes holds of each
pub all_cut : {X : Type 0} (P : X → Type 0) (w : ℕ) (item : List ℕ → X) → ((bs : List ℕ) → length bs ≡ w → IsBytes bs → P (item bs))
    → (n : ℕ) (bs : List ℕ) → n * w ≤ length bs → IsBytes bs → AllByRecursion P (items_of_text w item n bs)
all_cut P w item each zero bs long bytes = tt
all_cut P w item each (suc n) bs long bytes =
    (each (take w bs) (omega (arith, length-take w bs)) (IsBytes-take w bs bytes), all_cut P w item each n (drop w bs) (omega (arith, length-drop w bs)) (IsBytes-drop w bs bytes))
