-- The profile of a runtime is that of what was logged.
use Rattle.std.proofs.Common.{◌≡◌, ℕ, List, ap, ◌∙◌}
use Rattle.mcount_arcs.specs.declared.sizes.Sizes.{Sizes}
use Rattle.mcount_arcs.specs.Log.{LogEntry}
use Rattle.mcount_arcs.specs.Value.{GmonValue, StandsFor}
use Rattle.gmon_data.specs.Content.{Content, content_of}
use Rattle.gmon_bsd.specs.Profile.{runtime_records}
use Rattle.gmon_bsd.proofs.ProfileLemmas.{of_what_is_logged}
use Rattle.courses.specs.Answer.{logged_profile}

-- of a runtime that stands for a log
pub profile_written : (v : GmonValue) (z : Sizes) (log : List LogEntry) (rate : ℕ) (p : Content) → StandsFor log v → v.sizes ≡ z
    → p ≡ content_of (runtime_records v rate) → p ≡ logged_profile z log rate
profile_written v z log rate p stands same is = is ∙ of_what_is_logged v log rate stands ∙ ap (λ (y : Sizes). logged_profile y log rate) same
