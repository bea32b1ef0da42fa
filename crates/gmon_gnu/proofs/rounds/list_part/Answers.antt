use Rattle.std.proofs.Common.{◌≡◌, ◌<◌, ◌+◌, ◌*◌, ℕ, List, [], ◌∷◌, ◌++◌, true, false, length, take, sym, ap, ◌∙◌, append-nil, append_assoc, length-append, arith}
use Rattle.std.proofs.lemmas.List.{take_more_set}
use Rattle.std.proofs.lemmas.Option.{get_or_from_slice_get}
use Rattle.gmon_gnu.specs.Pieces.{left_of, part_of}
use Rattle.gmon_gnu.proofs.RoundLemmas.{left_of_more, length-part}
use Rattle.gmon_gnu.proofs.rounds.list_part.Goals as goal

pub loop-k-preserved : goal.loop-k-preserved
loop-k-preserved c =
    let j = c.args.j in
    let es = part_of c.args.size c.args.part c.args.profile.now.blocks in
    let k = c.loop-k.k in
    let e : ℕ × ℕ = (c.part_block-addr.result.0, c.part_block-addr.result.1) in
    let within : k < length es = omega (arith, c.loop-k-test.true, c.part_len-k-end.ensures, c.start_of-start.ensures, length-part (c.args.part * c.args.size) c.args.size c.args.profile.now.blocks) in
    let is = sym (get_or_from_slice_get es k e e (rw c.start_of-start.ensures at c.part_block-addr.ensures.value)) in
    let before = left_of j (take k es) in
    let others = take c.args.listed c.args.few.now in
    let so_far = c.loop-k.invariant in
    elim c.if-has_left.branch [
      | goal.then-has_left w ↦
          let more = left_of_more j es k e true within is (sym c.has_left.ensures ∙ w.if-has_left.true) in
          let longer = sym (length-append before (e ∷ [])) ∙ ap length (sym more) in
          let counted : c.loop-k.left + 1 ≡ c.args.listed + length (left_of j (take (k + 1) es)) = omega (arith, so_far.counted, longer) in
          elim w.if-left-few.branch [
            | goal.then-left-few v ↦
                rw (w.few-is, w.left-is, v.few-is) record {
                  counted = counted;
                  listed = λ _. take_more_set c.loop-k.few c.loop-k.left e v.if-left-few.true ∙ ap (λ (l : List (ℕ × ℕ)). l ++ e ∷ []) (so_far.listed (omega (arith, v.if-left-few.true))) ∙ append_assoc others before (e ∷ []) ∙ ap (λ (l : List (ℕ × ℕ)). others ++ l) (sym more);
                  few = omega (arith, so_far.few);
                }
            | goal.else-left-few v ↦
                rw (w.few-is, w.left-is, v.few-is) record {
                  counted = counted;
                  listed = λ fits. absurd (omega (arith, v.if-left-few.false, fits));
                  few = omega (arith, so_far.few);
                }
          ]
      | goal.else-has_left w ↦
          let more = left_of_more j es k e false within is (sym c.has_left.ensures ∙ w.if-has_left.false) ∙ append-nil before in
          rw (w.few-is, w.left-is) record {
            counted = so_far.counted ∙ ap (λ (l : List (ℕ × ℕ)). c.args.listed + length l) (sym more);
            listed = λ fits. so_far.listed fits ∙ ap (λ (l : List (ℕ × ℕ)). others ++ l) (sym more);
            few = omega (arith, so_far.few);
          }
    ]
