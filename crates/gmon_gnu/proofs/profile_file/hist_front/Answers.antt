use Rattle.std.proofs.Common.{◌≡◌, ℕ, List, [], ◌∷◌, ◌++◌, length, take, drop, ap, ◌∙◌, arith}
use Rattle.std.specs.Prelude.{replicate, slice_set}
use Rattle.std.proofs.lemmas.List.{take_at, drop_at, set-append_right}
use Rattle.gmon_gnu.specs.Run.{hist_words}
use Rattle.gmon_gnu.proofs.profile_file.hist_front.Goals as goal

-- so many numbers, a dimension, and an abbreviation behind the tag
joined : (words dim : List ℕ) (a : ℕ) → length words ≡ 16 → length dim ≡ 15 → slice_set (take 16 (words ++ replicate 16 0) ++ (dim ++ drop 15 (drop 16 (words ++ replicate 16 0)))) 31 a ≡ words ++ (dim ++ a ∷ [])
joined words dim a sixteen fifteen =
    let zeros : List ℕ = replicate 16 0 in
    let front = take_at words zeros 16 sixteen in
    let behind : drop 15 (drop 16 (words ++ zeros)) ≡ 0 ∷ [] = ap (drop 15) (drop_at words zeros 16 sixteen) in
    (λ i. slice_set (front i ++ (dim ++ behind i)) 31 a)
    ∙ set-append_right words (dim ++ 0 ∷ []) 16 31 a sixteen (omega arith)
    ∙ ap (λ (l : List ℕ). words ++ l) (set-append_right dim (0 ∷ []) 15 15 a fifteen (omega arith))

pub returns : goal.returns
returns c =
    let h = c.args.hist.now in
    let u = c.args.«unit» in
    let words : c.copy_from_slice.new.self ≡ hist_words h.low h.high (length h.counters) u.rate = c.copy_from_slice.ensures.after ∙ rw c.as_slice.ensures at c.hist_text.ensures in
    let dim : c.copy_from_slice-2.new.self ≡ u.dim = c.copy_from_slice-2.ensures.after in
    ap (λ (l : List ℕ). 0 ∷ l)
    (joined c.copy_from_slice.new.self c.copy_from_slice-2.new.self u.«abbrev» (omega (arith, c.copy_from_slice.ensures.len)) (omega (arith, c.copy_from_slice-2.ensures.len)) ∙ (λ i. words i ++ (dim i ++ u.«abbrev» ∷ [])))
