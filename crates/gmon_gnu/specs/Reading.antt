-- What reading a file of the GNU form answers: the first refusal, or the records.
use Rattle.std.specs.Prelude.{ℕ, zero, suc, ◌-◌, ◌*◌, ◌==◌, nat_lt, nat_le, not, ◌&&◌, List, [], ◌∷◌, ◌++◌, take, drop, length, slice_index, Option, Some, None, Result, Ok, Err, if◌then◌else◌}
use Rattle.gp_base.specs.declared.records.Rec.{Rec}
use Rattle.gp_base.specs.declared.records.Rec.TheVariants.{Hist, Arc, Blocks}
use Rattle.gp_base.specs.declared.records.Records.{Records}
use Rattle.gp_base.specs.declared.records.Form.TheVariants.{Gnu}
use Rattle.gp_base.specs.declared.refusal.GmonRefusal.{GmonRefusal}
use Rattle.gp_base.specs.declared.refusal.GmonRefusal.TheVariants.{Short, Version, Tag, Range}
use Rattle.gp_base.specs.Bytes.{value_of, word_at, items_of_text}
use Rattle.gp_base.specs.Fields.{arc_of, block_of}
use Rattle.gmon_gnu.specs.Fields.{gnu_version}

-- what stands at the front of a text: a refusal, or a record and the text behind it
pub data Front : Type 0 where
  Refused : GmonRefusal → Front
  Found : Rec → List ℕ → Front

-- a histogram by its fields and the text behind them, in a file of `len` bytes, where its tag stands at `at`
abbrev pub hist_of_fields : ℕ → ℕ → ℕ → ℕ → ℕ → ℕ → List ℕ → ℕ → List ℕ → Front
hist_of_fields len at low high count rate dim short behind =
    if nat_lt 0 count && nat_le high low then Refused (Range at low high) else (
    if nat_lt (length behind) (count * 2) then Refused (Short len) else
    Found (Hist (record { low = low; high = high; unit = record { rate = rate; dim = dim; «abbrev» = short }; counters = items_of_text 2 value_of count behind })) (drop (count * 2) behind))

-- the body of a histogram: its fields take 32 bytes
abbrev pub hist_front : ℕ → ℕ → List ℕ → Front
hist_front len at body =
    if nat_lt (length body) 32 then Refused (Short len) else
    hist_of_fields len at (word_at body 0) (word_at body 4) (word_at body 8) (word_at body 12) (take 15 (drop 16 body)) (slice_index (drop 15 (drop 16 body)) 0) (drop 1 (drop 15 (drop 16 body)))

-- the body of an arc: 12 bytes
abbrev pub arc_front : ℕ → List ℕ → Front
arc_front len body =
    if nat_lt (length body) 12 then Refused (Short len) else Found (Arc (arc_of (take 12 body))) (drop 12 body)

-- pairs of an address and a count, by their number and the text behind it
abbrev pub pairs_front : ℕ → ℕ → List ℕ → Front
pairs_front len count behind =
    if nat_lt (length behind) (count * 8) then Refused (Short len) else Found (Blocks (items_of_text 8 block_of count behind)) (drop (count * 8) behind)

-- the body of counts of basic blocks: their number takes 4 bytes
abbrev pub blocks_front : ℕ → List ℕ → Front
blocks_front len body =
    if nat_lt (length body) 4 then Refused (Short len) else pairs_front len (word_at body 0) (drop 4 body)

-- the body of a record by its tag
abbrev pub body_front : ℕ → ℕ → ℕ → List ℕ → Front
body_front len at zero body = hist_front len at body
body_front len at (suc zero) body = arc_front len body
body_front len at (suc (suc zero)) body = blocks_front len body
body_front len at (suc (suc (suc tag))) body = Refused (Tag at (suc (suc (suc tag))))

abbrev pub front_refusal : Front → Option GmonRefusal
front_refusal (Refused refusal) = Some refusal
front_refusal (Found rec behind) = None

-- records in front of what is read behind them
abbrev pub behind_records : List Rec → Result (List Rec) GmonRefusal → Result (List Rec) GmonRefusal
behind_records recs (Ok more) = Ok (recs ++ more)
behind_records recs (Err refusal) = Err refusal

abbrev pub after_front : (List ℕ → Result (List Rec) GmonRefusal) → Front → Result (List Rec) GmonRefusal
after_front more (Refused refusal) = Err refusal
after_front more (Found rec rest) = behind_records (rec ∷ []) (more rest)

-- the records of a text of at most `most` bytes that ends a file of `len` bytes
abbrev pub recs_from : ℕ → ℕ → List ℕ → Result (List Rec) GmonRefusal
recs_from len most [] = Ok []
recs_from len zero (tag ∷ body) = Ok []
recs_from len (suc most) (tag ∷ body) = after_front (λ rest. recs_from len most rest) (body_front len (len - length (tag ∷ body)) tag body)

-- what stands behind the header
abbrev pub file_recs : List ℕ → Result (List Rec) GmonRefusal
file_recs bytes = recs_from (length bytes) (length bytes) (drop 20 bytes)

abbrev pub refusal_read : Result (List Rec) GmonRefusal → Option GmonRefusal
refusal_read (Ok recs) = None
refusal_read (Err refusal) = Some refusal

abbrev pub recs_in : Result (List Rec) GmonRefusal → List Rec
recs_in (Ok recs) = recs
recs_in (Err refusal) = []

-- what is wrong with the header
abbrev pub header_refusal : List ℕ → Option GmonRefusal
header_refusal bytes =
    if nat_lt (length bytes) 20 then Some (Short (length bytes)) else (
    if not (word_at bytes 4 == gnu_version) then Some (Version (word_at bytes 4)) else None)

-- the first fault, in the order in which faults are looked for: the header's, and then those of each record in file order
abbrev pub gnu_refusal : List ℕ → Option GmonRefusal
gnu_refusal bytes =
    if nat_lt (length bytes) 20 then Some (Short (length bytes)) else (
    if not (word_at bytes 4 == gnu_version) then Some (Version (word_at bytes 4)) else
    refusal_read (file_recs bytes))

-- the records in file order
abbrev pub gnu_records : List ℕ → Records
gnu_records bytes = record { form = Gnu; recs = recs_in (file_recs bytes) }
