-- Spaces that are put at once into a list of bytes that has room behind its end.
use Rattle.std.proofs.Common.{◌≡◌, ℕ, ◌+◌, ◌≤◌, List, ◌++◌, length, take, ap, ◌∙◌, sym, refl, arith}
use Rattle.std.proofs.lemmas.List.{length-take-le, take-replicate, take-take}
use Rattle.std.proofs.lemmas.Slice.{take-put_mid}
use Rattle.std.proofs.Math.Seq.{take-append-add}
use borrow.Rule.Slice.PartMut.{put_mid}
use Rattle.text_cols.specs.Columns.{spaces}

-- of what was put at place a, the first n items stand behind those before it
pub take-put_mid_front : {X : Type 0} (a k : ℕ) (xs ys : List X) (n : ℕ) → a ≤ length xs → n ≤ length ys → take (a + n) (put_mid a k xs ys) ≡ take a xs ++ take n ys
take-put_mid_front a k xs ys n ha hn =
    let whole : take (a + length ys) (put_mid a k xs ys) ≡ take a xs ++ ys = take-put_mid a k xs ys (a + length ys) refl ha in
    let len : length (take a xs) ≡ a = length-take-le a xs ha in
    let front : take (a + n) (take (a + length ys) (put_mid a k xs ys)) ≡ take (a + n) (put_mid a k xs ys) = take-take (a + n) (a + length ys) (put_mid a k xs ys) (omega arith) in
    let seam : take (a + n) (take a xs ++ ys) ≡ take a xs ++ take n ys = ap (λ (m : ℕ). take (m + n) (take a xs ++ ys)) (sym len) ∙ take-append-add (take a xs) ys n in
    sym front ∙ ap (take (a + n)) whole ∙ seam

-- the spaces among them
pub put_spaces_front : (a k : ℕ) (xs ys : List ℕ) (n m : ℕ) → a ≤ length xs → n ≤ m → ys ≡ spaces m → length ys ≡ m → take (a + n) (put_mid a k xs ys) ≡ take a xs ++ spaces n
put_spaces_front a k xs ys n m ha hn e len = grind (arith, take-put_mid_front, take-replicate)
