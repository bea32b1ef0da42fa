-- A record that is skipped, and one that isn't all there.
use Rattle.std.proofs.Common.{◌≡◌, ℕ, ◌-◌, ◌*◌, ◌≤◌, Bool, ltb, not, eqb, List, [], ◌++◌, length, take, drop, Option, Some, None, Result, ap, ◌∙◌, if◌then◌else◌, arith}
use Rattle.std.proofs.lemmas.List.{take-append-drop}
use Rattle.std.specs.Prelude.{IfOk}
use Rattle.gp_base.specs.declared.records.Rec.{Rec}
use Rattle.gp_base.specs.declared.refusal.GmonRefusal.{GmonRefusal}
use Rattle.gp_base.specs.declared.refusal.GmonRefusal.TheVariants.{Short, Version}
use Rattle.gp_base.specs.Bytes.{word_at}
use Rattle.gmon_gnu.specs.declared.state.Begun.{Begun}
use Rattle.gmon_gnu.specs.declared.state.HistFields.{HistFields}
use Rattle.gmon_gnu.specs.Fields.{gnu_version}
use Rattle.gmon_gnu.specs.Reading.{behind_records, refusal_read, header_refusal, gnu_refusal}
use Rattle.gmon_gnu.specs.Begun.{begun_on}
use Rattle.gmon_gnu.specs.Going.{records_on, hist_on, blocks_on}
use Rattle.gmon_gnu.specs.Held.{hist_with}
use Rattle.gmon_gnu.proofs.FedLemmas.{records_of}

-- records in front take no fault away, and have none
pub refusal_behind : (recs : List Rec) (r : Result (List Rec) GmonRefusal) → refusal_read (behind_records recs r) ≡ refusal_read r
refusal_behind recs r = grind arith

-- a record that is all there has no fault
pub hist_skipped : (len : ℕ) (f : HistFields) (count : ℕ) (rest : List ℕ) → count * 2 ≤ length rest → refusal_read (hist_on len (hist_with f []) count rest) ≡ refusal_read (records_on len (drop (count * 2) rest))
hist_skipped len f count rest whole = grind arith

pub blocks_skipped : (len count : ℕ) (rest : List ℕ) → count * 8 ≤ length rest → refusal_read (blocks_on len [] count rest) ≡ refusal_read (records_on len (drop (count * 8) rest))
blocks_skipped len count rest whole = grind arith

-- where the header has no fault
pub past_header : (bytes : List ℕ) → header_refusal bytes ≡ None → gnu_refusal bytes ≡ refusal_read (records_on (length bytes) (drop 20 bytes))
past_header bytes none =
    past (ltb (length bytes) 20) (not (eqb (word_at bytes 4) gnu_version)) (Short (length bytes)) (Version (word_at bytes 4)) _ none
    ∙ ap refusal_read (records_of bytes)
  where
    past : (a b : Bool) (e f : GmonRefusal) (o : Option GmonRefusal) → (if a then Some e else (if b then Some f else None)) ≡ None → (if a then Some e else (if b then Some f else o)) ≡ o
    past a b e f o is = grind arith

pub both_ok : {T : Type 0} (r : Result T GmonRefusal) (P Q R : T → Type 0) → IfOk r P → IfOk r Q → ((x : T) → P x → Q x → R x) → IfOk r R
both_ok r P Q R p q then_r = grind arith

-- what is left of a text behind the front of its first record goes on as that front says
pub front_read : (len : ℕ) (text front rest : List ℕ) (width : ℕ) (begun : Begun) → front ≡ take width text → rest ≡ drop width text
    → ((l : ℕ) (r : List ℕ) → len - length text ≡ l - length (front ++ r) → records_on l (front ++ r) ≡ begun_on l begun r) → refusal_read (records_on len text) ≡ refusal_read (begun_on len begun rest)
front_read len text front rest width begun front_is rest_is says = grind (arith, take-append-drop)
