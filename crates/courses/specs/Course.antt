-- The course of a command: the inputs that it reads, what it does, and how it ends. What it answers follows
-- from its course and the contents of its inputs.
use Rattle.std.specs.Prelude.{ℕ, zero, suc, ◌≡◌, ◌≤◌, nat_lt, Bool, true, false, List, [], ◌∷◌, ◌++◌, length, Option, Some, None, Result, Ok, Err, ◌⊎◌, if◌then◌else◌, ⊤}
use Rattle.host_port.specs.Act.{Act}
use Rattle.courses.specs.declared.outcome.Done.{Done}
use Rattle.courses.specs.declared.outcome.Fault.{Fault}
use Rattle.elf32_syms.specs.Refusals.{is_of_header}
use Rattle.gp_base.specs.declared.refusal.GmonRefusal.TheVariants as gmons
use Rattle.courses.specs.declared.outcome.Fault.TheVariants.{BadElf, BadProfile, TooLarge}

pub data Course : Type 0 where
  -- it ends so
  Ends : Result Done Fault → Course
  -- it reads the input that a word names, of at most so many bytes, and goes on by what that holds
  Input : ℕ → ℕ → (List ℕ → Course) → Course
  -- it does acts, and goes on
  Does : List Act → Course → Course
  -- this is known, and it goes on
  Knows : Bool → Course → Course

abbrev pub refusal_course : Fault → Course
refusal_course fault = Ends (Err fault)

-- it does acts one after the other, and goes on
abbrev pub one_by_one : List Act → Course → Course
one_by_one [] next = next
one_by_one (act ∷ acts) next = Does (act ∷ []) (one_by_one acts next)

-- it goes on where nothing is refused
abbrev pub unless : {R : Type 0} → (R → Fault) → Option R → Course → Course
unless fault None next = next
unless fault (Some refusal) next = refusal_course (fault refusal)

pub record Reply : Type 0 where
  pub ending : Result Done Fault
  pub acts : List Act

-- acts, and then a reply
abbrev pub behind : List Act → Reply → Reply
behind acts reply = record { ending = reply.ending; acts = acts ++ reply.acts }

-- how a command ends and what it does, by the contents of its inputs
abbrev pub reply_to : (ℕ → List ℕ) → Course → Reply
reply_to contents (Ends ending) = record { ending = ending; acts = [] }
reply_to contents (Does acts next) = behind acts (reply_to contents next)
reply_to contents (Knows fact next) = reply_to contents next
reply_to contents (Input word limit next) =
    if nat_lt limit (length (contents word)) then record { ending = Err (TooLarge word limit); acts = [] } else reply_to contents (next (contents word))

-- how many inputs it reads
abbrev pub inputs_of : (ℕ → List ℕ) → Course → ℕ
inputs_of contents (Ends ending) = 0
inputs_of contents (Does acts next) = inputs_of contents next
inputs_of contents (Knows fact next) = inputs_of contents next
inputs_of contents (Input word limit next) = suc (if nat_lt limit (length (contents word)) then 0 else inputs_of contents (next (contents word)))

-- it comes to read the input that a word names, behind so many others: none of those is refused
abbrev pub ComesTo : (ℕ → List ℕ) → Course → ℕ → ℕ → Type 0
ComesTo contents (Ends ending) n word = ⊥
ComesTo contents (Does acts next) n word = ComesTo contents next n word
ComesTo contents (Knows fact next) n word = ComesTo contents next n word
ComesTo contents (Input input limit next) zero word = word ≡ input
ComesTo contents (Input input limit next) (suc n) word = (length (contents input) ≤ limit) × ComesTo contents (next (contents input)) n word

-- all that is known on its way is so
abbrev pub AllKnown : (ℕ → List ℕ) → Course → Type 0
AllKnown contents (Ends ending) = ⊤
AllKnown contents (Does acts next) = AllKnown contents next
AllKnown contents (Knows fact next) = (fact ≡ true) × AllKnown contents next
AllKnown contents (Input word limit next) = length (contents word) ≤ limit → AllKnown contents (next (contents word))

-- It may stop for running out of memory, once it has done so much: before an input or an act, or before it refuses.
abbrev pub MayStop : (ℕ → List ℕ) → Course → List Act → Type 0
MayStop contents (Ends (Ok done)) acts = ⊥
MayStop contents (Ends (Err fault)) acts = acts ≡ []
MayStop contents (Does first next) acts = (acts ≡ []) ⊎ ((more : List Act) × (acts ≡ first ++ more) × MayStop contents next more)
MayStop contents (Knows fact next) acts = MayStop contents next acts
MayStop contents (Input word limit next) acts = (acts ≡ []) ⊎ ((length (contents word) ≤ limit) × MayStop contents (next (contents word)) acts)

-- It takes no memory to find it, once the file was read: what is wrong with a profile file, and what a program is refused for
-- by its header alone.
abbrev pub takes_no_memory : Fault → Bool
takes_no_memory (BadElf refusal) = is_of_header refusal
takes_no_memory (BadProfile gmons.OutOfMemory word) = false
takes_no_memory (BadProfile refusal word) = true
takes_no_memory fault = false

-- With so many inputs read to their ends, and nothing done, what comes next is such a refusal.
abbrev pub must_refuse : (ℕ → List ℕ) → Course → ℕ → Bool
must_refuse contents (Ends (Ok done)) n = false
must_refuse contents (Ends (Err fault)) n = takes_no_memory fault
must_refuse contents (Does acts next) n = false
must_refuse contents (Knows fact next) n = must_refuse contents next n
must_refuse contents (Input word limit next) zero = false
must_refuse contents (Input word limit next) (suc n) = if nat_lt limit (length (contents word)) then false else must_refuse contents (next (contents word)) n
