-- What a run prints on the outside, from one world to a later one.
use Rattle.std.specs.Prelude.{◌≡◌, ◌≢◌, ℕ, ◌<◌, ⊤, ◌⊎◌, List, [], ◌∷◌, ◌++◌, length, take, Err}
use Rattle.host_port.specs.Act.{Act}
use Rattle.host_port.specs.Host.{CountsOf, act_of}
use Rattle.host_port.specs.declared.side.Side.{Side}
use Rattle.host_port.specs.declared.side.Side.TheVariants.{File, Output, ErrorOutput}
use Rattle.host_port.specs.Outside.{Outside, Did}
use Rattle.prof_machine.specs.World.{World}

-- what the later world has printed more was printed, and nothing else was done to files and outputs
pub record ArePrinted (w v : World) (old new : Outside) : Type 0 where
  pub more : List Act
  pub behind : v.prints ≡ w.prints ++ more
  pub did : Did more old new

-- The last act, a print on one of the two outputs, failed: of its piece a front was printed that isn't the whole.
-- All acts before it were done, and only the count of faults of its side rose.
pub record IsCutShort (acts : List Act) (old new : Outside) : Type 0 where
  pub before : List Act
  pub side : Side
  pub piece : List ℕ
  pub last : acts ≡ before ++ act_of side piece ∷ []
  pub n : ℕ
  pub part : n < length piece
  pub did : Did (before ++ act_of side (take n piece) ∷ []) old new
  pub counts : CountsOf {T = ⊤} {E = ⊤} side old new (Err tt)
  pub no_file : side ≢ File

-- a print failed: what the later world has printed more was printed but for a rest of its last piece
pub record BreaksOff (w v : World) (old new : Outside) : Type 0 where
  pub more : List Act
  pub behind : v.prints ≡ w.prints ++ more
  pub cut : IsCutShort more old new

-- a print on one of the two outputs failed, and only the count of faults of that side rose
abbrev pub PrintFailed : Outside → Outside → Type 0
PrintFailed old new = CountsOf {T = ⊤} {E = ⊤} Output old new (Err tt) ⊎ CountsOf {T = ⊤} {E = ⊤} ErrorOutput old new (Err tt)
