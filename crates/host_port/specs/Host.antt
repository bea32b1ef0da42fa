-- What each call on a host does, by the outside before and after it.
use Rattle.std.specs.Prelude.{◌≡◌, ◌==◌, ℕ, ◌<◌, ◌≤◌, true, false, List, [], ◌∷◌, length, take, drop, Some, Result, IfOk, OnOk, OnErr, IfSome, MatchResult, is_ok, is_err, ◌↔◌}
use Rattle.host_port.specs.Act.{Act, Disk, file_content, Create, Write, Close, Out}
use Rattle.host_port.specs.Act.{Err as Complain}
use Rattle.host_port.specs.Outside.{Outside, Becomes, Did, KeepsInput, Rose, with_openings}
-- where bytes go: to the file that is being written, or to one of the two outputs
use Rattle.host_port.specs.declared.side.Side.{Side}
use Rattle.host_port.specs.declared.side.Side.TheVariants.{File, Output, ErrorOutput}

-- a call of the kind that reads: only read_faults may rise, and exactly where the call failed
pub record Reads {T E : Type 0} (old new : Outside) (result : Result T E) : Type 0 where
  pub own : MatchResult result (λ _. new.read_faults ≡ old.read_faults) (λ _. Rose old.read_faults new.read_faults)
  pub last : new.last_failed ≡ is_err result
  pub write : new.write_faults ≡ old.write_faults
  pub err : new.err_faults ≡ old.err_faults

-- a call of the kind that writes or prints
pub record Writes {T E : Type 0} (old new : Outside) (result : Result T E) : Type 0 where
  pub own : MatchResult result (λ _. new.write_faults ≡ old.write_faults) (λ _. Rose old.write_faults new.write_faults)
  pub last : new.last_failed ≡ is_err result
  pub read : new.read_faults ≡ old.read_faults
  pub err : new.err_faults ≡ old.err_faults

-- calls of that kind, or none, of which the last may have failed
pub record WritesAll {T E : Type 0} (old new : Outside) (result : Result T E) : Type 0 where
  pub own : MatchResult result (λ _. new.write_faults ≡ old.write_faults) (λ _. Rose old.write_faults new.write_faults)
  pub last : OnErr result (new.last_failed ≡ true)
  pub read : new.read_faults ≡ old.read_faults
  pub err : new.err_faults ≡ old.err_faults

-- calls that print on the error output
pub record Complains {T E : Type 0} (old new : Outside) (result : Result T E) : Type 0 where
  pub own : MatchResult result (λ _. new.err_faults ≡ old.err_faults) (λ _. Rose old.err_faults new.err_faults)
  pub read : new.read_faults ≡ old.read_faults
  pub write : new.write_faults ≡ old.write_faults

-- what is told of the files, if they are told
abbrev pub IfTold : Outside → (Disk → Type 0) → Type 0
IfTold o P = IfSome o.disk P

-- the named file is open, and all of it is left; after a failure no input is open
pub record Opens {T E : Type 0} (name : List ℕ) (old new : Outside) (result : Result T E) : Type 0 where
  pub nothing_done : Did [] (with_openings 1 old) new
  pub opened : new.is_open ≡ is_ok result
  pub from_start : OnOk result (new.at_end ≡ false)
  pub rest : OnOk result (IfTold new (λ d. new.rest ≡ Some (file_content name d.files)))

-- n bytes of the rest came into the buffer, none exactly where none was left
pub record Came (n : ℕ) (rest after : List ℕ) : Type 0 where
  pub available : n ≤ length rest
  pub bytes : take n after ≡ take n rest
  pub ended : (n ≡ 0) ↔ (rest ≡ [])

pub record Moves {E : Type 0} (before after : List ℕ) (old new : Outside) (result : Result ℕ E) : Type 0 where
  pub nothing_done : Did [] old new
  pub still_open : OnOk result (new.is_open ≡ true)
  pub at_end : MatchResult result (λ n. new.at_end ≡ (n == 0)) (λ _. new.at_end ≡ old.at_end)
  pub fits : IfOk result (λ n. n ≤ length before)
  pub came : IfOk result (λ n. IfSome old.rest (λ rest. Came n rest after))
  pub rest : MatchResult result (λ n. Becomes (drop n) old.rest new.rest) (λ _. Becomes (λ rest. rest) old.rest new.rest)

-- the named file is empty and being written; after a failure nothing changed, but that no input is open
pub record Creates {T E : Type 0} (name : List ℕ) (old new : Outside) (result : Result T E) : Type 0 where
  pub done : OnOk result (Did (Create name ∷ []) old new)
  pub failed : OnErr result (Did [] old new)
  pub closed_input : new.is_open ≡ false

-- a prefix of the piece, of at least one byte; after a failure nothing
pub record Takes {E : Type 0} (act : List ℕ → Act) (piece : List ℕ) (old new : Outside) (result : Result ℕ E) : Type 0 where
  pub done : IfOk result (λ n. Did (act (take n piece) ∷ []) old new)
  pub some : IfOk result (λ n. 1 ≤ n)
  pub fits : IfOk result (λ n. n ≤ length piece)
  pub failed : OnErr result (Did [] old new)
  pub input : KeepsInput old new

-- no file is being written, also after a failure
pub record Closes (old new : Outside) : Type 0 where
  pub done : Did (Close ∷ []) old new
  pub input : KeepsInput old new

-- the whole piece; after a failure a prefix of it that isn't the whole
pub record TakesAll {T E : Type 0} (act : List ℕ → Act) (piece : List ℕ) (old new : Outside) (result : Result T E) : Type 0 where
  pub done : OnOk result (Did (act piece ∷ []) old new)
  pub part : OnErr result ((n : ℕ) × (n < length piece) × Did (act (take n piece) ∷ []) old new)
  pub input : KeepsInput old new

-- the act by which bytes go to a side
abbrev pub act_of : Side → List ℕ → Act
act_of File bytes = Write bytes
act_of Output bytes = Out bytes
act_of ErrorOutput bytes = Complain bytes

-- only the side's own count may rise, and exactly after a failure
abbrev pub CountsOf : {T E : Type 0} → Side → Outside → Outside → Result T E → Type 0
CountsOf File old new result = WritesAll old new result
CountsOf Output old new result = WritesAll old new result
CountsOf ErrorOutput old new result = Complains old new result

-- what goes to the error output leaves last_failed as it is
abbrev pub KeepsLast : Side → Outside → Outside → Type 0
KeepsLast side old new = side ≡ ErrorOutput → new.last_failed ≡ old.last_failed

-- the whole text went to a side; after a failure a prefix of it that isn't the whole
pub record Puts {T E : Type 0} (side : Side) (text : List ℕ) (old new : Outside) (result : Result T E) : Type 0 where
  pub takes : TakesAll (act_of side) text old new result
  pub counts : CountsOf side old new result
  pub last : KeepsLast side old new
