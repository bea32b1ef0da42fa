-- What a reader keeps of the bytes that were fed to it.
use Rattle.std.specs.Prelude.{◌≡◌, ℕ, List, length}
use Rattle.gp_base.specs.declared.records.Rec.{Rec}
use Rattle.gp_base.specs.Bytes.{IsBytes}
use Rattle.gmon_gnu.specs.Going.{Open, Reads}

-- what a reader has kept: how many bytes were fed, the records so far, what it is in the midst of, and what has
-- come of an item that isn't whole
pub record Kept : Type 0 where
  pub len : ℕ
  pub recs : List Rec
  pub open_now : Open
  pub rest : List ℕ

-- a reader stands for the bytes that were fed to it
pub record StandsFor (bytes : List ℕ) (kept : Kept) : Type 0 where
  pub are_bytes : IsBytes bytes
  pub len : kept.len ≡ length bytes
  pub reads : Reads bytes kept.recs kept.open_now kept.rest
