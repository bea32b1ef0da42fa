use Rattle.std.proofs.Common.{ℕ, List, ◌++◌, ap, ◌∙◌, arith, rules}
use Rattle.std.proofs.lemmas.List.{take-replicate}
use Rattle.text_cols.proofs.SpaceLemmas.{put_spaces_front}
use Rattle.text_cols.proofs.columns.Line.put_spaces.Goals as goal

pub returns-then-start-clause-bytes : goal.returns-then-start-clause-bytes
returns-then-start-clause-bytes c = search (put_spaces_front, rules)

pub returns-else-n-le-SPAN-clause-bytes : goal.returns-else-n-le-SPAN-clause-bytes
returns-else-n-le-SPAN-clause-bytes c = c.put.ensures.bytes ∙ ap (λ (s : List ℕ). c.args.self.now ++ s) (take-replicate c.args.n 256 32 (omega arith))
