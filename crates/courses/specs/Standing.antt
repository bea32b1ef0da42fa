-- Where a command stands: what it has done, and the course that is left of it.
-- Only private functions and invariants speak of it.
use Rattle.std.specs.Prelude.{◌≡◌, ℕ, ◌+◌, ◌<◌, false, List, [], ◌++◌}
use Rattle.host_port.specs.Act.{Act}
use Rattle.host_port.specs.Outside.{Outside, Did, KeepsCounts, with_openings}
use Rattle.courses.specs.Course.{Course, reply_to, inputs_of, behind, must_refuse, AllKnown, ComesTo, MayStop}
use Rattle.courses.specs.Answer.{course_of, contents_of}
use Rattle.courses.specs.Contract.{WhereTold}

-- with these contents a course leads over so many inputs and over acts to another
pub record LeadsTo (contents : ℕ → List ℕ) (whole : Course) (opens : ℕ) (done : List Act) (rest : Course) : Type 0 where
  pub reply : reply_to contents whole ≡ behind done (reply_to contents rest)
  pub inputs : inputs_of contents whole ≡ opens + inputs_of contents rest
  pub comes : (n word : ℕ) → ComesTo contents rest n word → ComesTo contents whole (opens + n) word
  pub may_stop : (more : List Act) → MayStop contents rest more → MayStop contents whole (done ++ more)
  pub known : AllKnown contents rest → AllKnown contents whole
  pub undecided : (n : ℕ) → must_refuse contents rest n ≡ false → must_refuse contents whole (opens + n) ≡ false

-- The acts were done and nothing else, no call failed, and this is left of what the words ask for. Inputs were
-- read of words below a position alone.
pub record Stands (words : List (List ℕ)) (old new : Outside) (below : ℕ) (done : List Act) (rest : Course) : Type 0 where
  -- how many inputs were opened
  pub opens : ℕ
  pub did : Did done (with_openings opens old) new
  pub counts : KeepsCounts old new
  pub idle : old.is_writing ≡ false
  pub shut : new.is_writing ≡ false
  -- what was read
  pub read : ℕ → List ℕ
  pub leads : (contents : ℕ → List ℕ) → ((word : ℕ) → word < below → contents word ≡ read word) → LeadsTo contents (course_of words) opens done rest
  pub told : WhereTold old new (λ files. LeadsTo (contents_of words files) (course_of words) opens done rest)

-- the command may run out of memory before it does what comes next, which isn't a refusal that takes none
abbrev pub MayStopHere : (ℕ → List ℕ) → Course → Type 0
MayStopHere contents next = MayStop contents next [] × (must_refuse contents next 0 ≡ false)
