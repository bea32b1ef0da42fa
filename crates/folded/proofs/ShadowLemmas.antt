-- Frames before the last one that is an address.
use Rattle.std.proofs.Common.{◌≡◌, ◌∙◌, ◌<◌, ◌||◌, ◌&&◌, ℕ, zero, suc, Bool, true, false, not, eqb, List, [], ◌∷◌, length, take, drop, get_or, ap, arith, refl, if◌then◌else◌}
use Rattle.std.proofs.lemmas.Bool.{eq-eqb}
use Rattle.folded.specs.Shadow.{frames_before, is_in_frames}

no_or : (a b : Bool) → (a || b) ≡ false → (a ≡ false) × (b ≡ false)
no_or a b is = grind arith

or_yes : (a b : Bool) → b ≡ true → (a || b) ≡ true
or_yes a b is = grind arith

-- where there is none
pub frames_before-none : (to : ℕ) (xs : List ℕ) → is_in_frames to xs ≡ false → frames_before to xs ≡ xs
frames_before-none to [] none = refl
frames_before-none to (x ∷ xs) none =
    let p = no_or (eqb x to) (is_in_frames to xs) none in
    ap (λ (b : Bool). if b && not (is_in_frames to xs) then [] else x ∷ frames_before to xs) p.0
    ∙ ap (λ (ys : List ℕ). x ∷ ys) (frames_before-none to xs p.1)

-- one that is there
is_in_at : (to : ℕ) (xs : List ℕ) (k : ℕ) → k < length xs → get_or xs k 0 ≡ to → is_in_frames to xs ≡ true
is_in_at to [] k inside is = absurd (omega (arith, inside))
is_in_at to (x ∷ xs) zero inside is = ap (λ (b : Bool). b || is_in_frames to xs) (eq-eqb x to is)
is_in_at to (x ∷ xs) (suc k) inside is = or_yes (eqb x to) (is_in_frames to xs) (is_in_at to xs k (omega (arith, inside)) is)

pub frames_before-last : (to : ℕ) (xs : List ℕ) (k : ℕ) → k < length xs → get_or xs k 0 ≡ to → is_in_frames to (drop (suc k) xs) ≡ false → take k xs ≡ frames_before to xs
frames_before-last to [] k inside is later = absurd (omega (arith, inside))
frames_before-last to (x ∷ xs) zero inside is later = grind arith
frames_before-last to (x ∷ xs) (suc k) inside is later = grind (arith, is_in_at, frames_before-last to xs k)
