use Rattle.std.proofs.Common.{◌≡◌, ℕ, List, Option, Some, inl, inr, sym, subst}
use Rattle.settings.specs.declared.setup.Setup.{Setup}
use Rattle.command_words.specs.declared.words.Command.TheVariants.{Demo}
use Rattle.command_words.specs.Words.{command_of}
use Rattle.demo_laws.specs.Laws.{DemoIsAccepted, DemoStarts}
use Rattle.rvgprof.specs.Acceptance.{IsAccepted}
use Rattle.rvgprof.proofs.DemoWords.{demo_words}
use Rattle.rvgprof.proofs.DoneLemmas.{done_as_accepted}
use Rattle.rvgprof.proofs.laws.demo_is_done.Goals as goal

demo_taken : DemoIsAccepted → DemoStarts → (words : List (List ℕ)) (contents : ℕ → List ℕ) (functions : ℕ) (elf : Option ℕ) (setup : Setup) → command_of words ≡ Some (Demo functions elf setup) → IsAccepted words contents (command_of words)
demo_taken accepted starts words contents functions elf setup is =
    let within = demo_words words functions elf setup is in
    let file = accepted functions within.0 in
    subst (IsAccepted words contents) (sym is) (file.accepted, starts functions setup within.0 within.1 within.2)

pub returns-clause-accepted : goal.returns-clause-accepted
returns-clause-accepted c = demo_taken c.demo_is_accepted.ensures c.demo_starts.ensures

pub returns-clause-done : goal.returns-clause-done
returns-clause-done c = λ words functions elf setup old new result is answered none.
    let takes = demo_taken c.demo_is_accepted.ensures c.demo_starts.ensures words in
    elim (done_as_accepted words old new result answered none) [
      | inl out ↦ inl out
      | inr some ↦ inr (some.2.1 (takes some.0 functions elf setup is))
    ]
