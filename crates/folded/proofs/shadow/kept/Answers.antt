use Rattle.std.proofs.Common.{arith}
use Rattle.std.proofs.lemmas.List.{take_all}
use Rattle.folded.proofs.ShadowLemmas.{frames_before-last, frames_before-none}
use Rattle.folded.proofs.shadow.kept.Goals as goal

pub returns-then-end-eq0-clause-kept : goal.returns-then-end-eq0-clause-kept
returns-then-end-eq0-clause-kept c = grind (arith, take_all, frames_before-none)

pub returns-else-end-eq0-clause-kept : goal.returns-else-end-eq0-clause-kept
returns-else-end-eq0-clause-kept c = grind (arith, frames_before-last)
