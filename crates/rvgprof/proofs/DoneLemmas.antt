-- A command is carried out exactly where it is accepted, unless a call on the host failed or memory ran out.
use Rattle.std.proofs.Common.{◌≡◌, ◌↔◌, ℕ, List, Result, Err, ◌⊎◌, inl, inr, sym, subst}
use Rattle.std.specs.Result.{IsOk}
use Rattle.host_port.specs.Outside.{Outside}
use Rattle.courses.specs.declared.outcome.Done.{Done}
use Rattle.courses.specs.declared.outcome.Fault.{Fault}
use Rattle.courses.specs.declared.outcome.Fault.TheVariants.{OutOfMemory}
use Rattle.command_words.specs.Words.{command_of}
use Rattle.courses.specs.Answer.{contents_of}
use Rattle.courses.specs.Contract.{WhereTold}
use Rattle.rvgprof.specs.Headline.{Answered}
use Rattle.rvgprof.specs.Completeness.{NoneFailed}
use Rattle.rvgprof.specs.Acceptance.{IsAccepted}
use Rattle.rvgprof.proofs.AcceptanceLemmas.{accepted}
use Rattle.rvgprof.proofs.CompletenessLemmas.{complete}

-- it is carried out exactly where it is accepted, for some contents
pub done_as_accepted : (words : List (List ℕ)) (old new : Outside) (result : Result Done Fault) → Answered words old new result → NoneFailed words old new
    → (result ≡ Err OutOfMemory) ⊎ ((contents : ℕ → List ℕ) × WhereTold old new (λ files. contents ≡ contents_of words files) × (IsOk result ↔ IsAccepted words contents (command_of words)))
done_as_accepted words old new result answered none = elim (complete words old new result answered none) [
  | inl out ↦ inl out
  | inr all ↦ inr (all.contents, all.told, subst (λ (r : Result Done Fault). IsOk r ↔ IsAccepted words all.contents (command_of words)) (sym all.ending) (accepted words all.contents))
]
