-- Acts that are due one after the other, of which one may fail.
use Rattle.std.specs.Prelude.{◌≡◌, ℕ, ◌<◌, true, List, [], ◌∷◌, length, take, Result, OnOk, OnErr, ◌⊎◌, ⊤}
use Rattle.host_port.specs.Act.{Act, Write, Close, Out, Err}
use Rattle.host_port.specs.Outside.{Outside, Did, Rose, KeepsCounts}

-- a prefix of the bytes that isn't the whole
abbrev pub IsProperPrefix : List ℕ → List ℕ → Type 0
IsProperPrefix front whole = (n : ℕ) × (n < length whole) × (front ≡ take n whole)

-- what was done of an act that failed: a part of its bytes; a failed close has ended the writing all the same
abbrev pub IsPartOf : Act → Act → Type 0
IsPartOf (Out done) (Out act) = IsProperPrefix done act
IsPartOf (Write done) (Write act) = IsProperPrefix done act
IsPartOf (Err done) (Err act) = IsProperPrefix done act
IsPartOf Close Close = ⊤
IsPartOf done act = ⊥

-- Of the acts that are due one failed. Those before it were done, and of that one nothing or a part.
abbrev pub FailedAt : Act → List Act → List Act → Type 0
FailedAt failed done [] = ⊥
FailedAt failed [] (act ∷ acts) = act ≡ failed
FailedAt failed (first ∷ more) (act ∷ acts) = ((first ≡ act) × FailedAt failed more acts) ⊎ (IsPartOf first act × (more ≡ []) × (act ≡ failed))

-- The call that an act takes failed, and no other that writes or complains; none followed it but calls that
-- complain.
abbrev pub FaultOf : Act → Outside → Outside → Type 0
FaultOf (Err bytes) old new =
    Rose old.err_faults new.err_faults × (new.write_faults ≡ old.write_faults)
FaultOf act old new =
    Rose old.write_faults new.write_faults × (new.err_faults ≡ old.err_faults) × (new.last_failed ≡ true)

-- the same, and none that reads
pub record ActFailed (act : Act) (old new : Outside) : Type 0 where
  pub own : FaultOf act old new
  pub read : new.read_faults ≡ old.read_faults

-- the acts were done in order and nothing else; or one of them failed
pub record Performs {T E : Type 0} (acts : List Act) (old new : Outside) (result : Result T E) : Type 0 where
  pub done : OnOk result (Did acts old new)
  pub kept : OnOk result (KeepsCounts old new)
  pub failed : OnErr result ((done : List Act) × (act : Act) × FailedAt act done acts × Did done old new × ActFailed act old new)
