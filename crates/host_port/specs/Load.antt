-- What reading a whole file answers.
use Rattle.std.specs.Prelude.{◌≡◌, ◌≢◌, ℕ, ◌+◌, ◌<◌, ◌≤◌, true, false, List, [], length, Result, Ok, Err, IfSome, ⊤}
use Rattle.std.specs.Global.{Vec}
use Rattle.host_port.specs.declared.whole_file.LoadRefusal.{LoadRefusal}
use Rattle.host_port.specs.declared.whole_file.LoadRefusal.TheVariants.{ReadFault, TooLarge, OutOfMemory}
use Rattle.host_port.specs.Act.{file_content}
use Rattle.host_port.specs.Outside.{Outside, Did, Rose, KeepsCounts, with_openings}
use Rattle.host_port.specs.Host.{IfTold}

-- the named file was read to its end, and these are its bytes, as far as it is told
pub record IsContent (name : List ℕ) (limit : ℕ) (old new : Outside) (bytes : List ℕ) : Type 0 where
  -- one input was opened
  pub nothing_done : Did [] (with_openings 1 old) new
  pub answer : IfTold new (λ d. bytes ≡ file_content name d.files)
  pub ended : IfSome new.rest (λ rest. rest ≡ [])
  pub within : length bytes ≤ limit
  pub counts : KeepsCounts old new

-- a file with this content is refused so
abbrev pub RefusesFor : List ℕ → ℕ → LoadRefusal → Type 0
RefusesFor content limit TooLarge = limit < length content
RefusesFor content limit ReadFault = ⊤
RefusesFor content limit OutOfMemory = ⊤

-- No more was read than the limit, and one byte more where the file is too large: so that is answered, and no other
-- refusal, once that byte is there.
abbrev pub IsLeftBehind : List ℕ → ℕ → List ℕ → LoadRefusal → Type 0
IsLeftBehind content limit rest TooLarge = length content ≤ limit + 1 + length rest
IsLeftBehind content limit rest ReadFault = length content ≤ limit + length rest
IsLeftBehind content limit rest OutOfMemory = length content ≤ limit + length rest

-- read_faults rises exactly at ReadFault, and no call follows the one that failed
abbrev pub LoadCounts : Outside → Outside → LoadRefusal → Type 0
LoadCounts old new TooLarge = KeepsCounts old new
LoadCounts old new OutOfMemory = KeepsCounts old new
LoadCounts old new ReadFault = Rose old.read_faults new.read_faults × (new.write_faults ≡ old.write_faults) × (new.err_faults ≡ old.err_faults) × (new.last_failed ≡ true)

-- the named file was not read to its end; the host tells so, unless a call failed
pub record IsRefused (name : List ℕ) (limit : ℕ) (old new : Outside) (refusal : LoadRefusal) : Type 0 where
  -- one input was opened
  pub nothing_done : Did [] (with_openings 1 old) new
  pub answer : IfTold new (λ d. RefusesFor (file_content name d.files) limit refusal)
  pub left : IfTold new (λ d. IfSome new.rest (λ rest. IsLeftBehind (file_content name d.files) limit rest refusal))
  pub going : refusal ≢ ReadFault → new.at_end ≡ false
  pub counts : LoadCounts old new refusal

-- what takes pieces has taken some bytes, of which the number is known, and they are the file's; or it was not read
abbrev pub ReadsAll : {T : Type 0} → (List ℕ → T → Type 0) → List ℕ → ℕ → Outside → Outside → Result (T × ℕ) LoadRefusal → Type 0
ReadsAll holds name limit old new (Ok pair) = (bytes : List ℕ) × IsContent name limit old new bytes × holds bytes pair.0 × (pair.1 ≡ length bytes)
ReadsAll holds name limit old new (Err refusal) = IsRefused name limit old new refusal

-- the same of a file's bytes themselves
abbrev pub Loads : List ℕ → ℕ → Outside → Outside → Result (Vec ℕ) LoadRefusal → Type 0
Loads name limit old new (Ok bytes) = IsContent name limit old new bytes.items
Loads name limit old new (Err refusal) = IsRefused name limit old new refusal
