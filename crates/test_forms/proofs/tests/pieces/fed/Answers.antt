use Rattle.std.proofs.Common.{◌≡◌, ℕ, ◌+◌, List, ◌++◌, length, drop, take, take-append-drop, length-drop, length-take, ap, subst, sym, ◌∙◌, arith}
use Rattle.std.proofs.lemmas.List.{drop-take, take-take, take_all}
use Rattle.gmon_files.specs.FileRead.{StandsFor}
use Rattle.test_forms.proofs.tests.pieces.fed.Goals as goal

-- a front of a list, and a front of what is behind it
take_on : (n k : ℕ) (xs : List ℕ) → take n xs ++ take k (drop n xs) ≡ take (n + k) xs
take_on n k xs = (λ i. sym (take-take n (n + k) xs (omega arith)) i ++ sym (drop-take n k xs) i) ∙ take-append-drop n (take (n + k) xs)

pub loop-fed-preserved : goal.loop-fed-preserved
loop-fed-preserved c =
    let bytes = c.args.bytes.now in
    let was = c.loop-fed.invariant in
    let n = c.loop-fed.fed in
    let k = c.min.result in
    let piece = c.split_at-in-loop-fed.result.0.now in
    let is : piece ≡ take k (drop n bytes) = c.split_at-in-loop-fed.ensures.front ∙ ap (take k) c.split_at.ensures.back in
    let len : length piece ≡ k = c.split_at-in-loop-fed.ensures.front_len in
    let front = ap (λ (v : List ℕ). take n bytes ++ v) is ∙ take_on n k bytes ∙ ap (λ (m : ℕ). take (n + m) bytes) (sym len) in
    record {
      stands = subst (λ (v : List ℕ). StandsFor v c.in_ok-reader.reader) front (c.in_ok-reader.ensures.stands (take n bytes) was.stands);
      len = c.in_ok-reader.ensures.len ∙ ap (λ (m : ℕ). m + length piece) was.len;
      fed = c.in_ok-reader.ensures.fed;
      within = omega (arith, ap length is, length-take k (drop n bytes), length-drop n bytes, c.loop-fed-test.true);
    }

pub returns-clause-stands : goal.returns-clause-stands
returns-clause-stands c = subst (λ (v : List ℕ). StandsFor v c.loop-fed.reader) (take_all c.loop-fed.fed c.args.bytes.now c.loop-fed-test.false) c.loop-fed.invariant.stands
