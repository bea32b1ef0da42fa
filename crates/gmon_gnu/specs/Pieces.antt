-- The bytes of a profile's pieces, as they are written one after the other.
-- Only private functions and invariants speak of it.
use Rattle.std.specs.Prelude.{◌≡◌, ℕ, ◌*◌, ◌^◌, ◌≤◌, Bool, true, false, List, [], ◌∷◌, ◌++◌, length, map, take, drop, get_or, if◌then◌else◌}
use Rattle.std.specs.List.{flat_map, filter, range_with_len}
use Rattle.gp_base.specs.declared.records.Unit as units
use Rattle.gp_base.specs.Bytes.{le}
use Rattle.gmon_data.specs.declared.hist.Hist.{Hist}
use Rattle.gp_base.specs.Fields.{block_bytes}
use Rattle.gmon_gnu.specs.Fields.{magic, gnu_version, spare_bytes}
use Rattle.gmon_gnu.specs.Grammar.{hist_bytes, rec_bytes, blocks_bytes}
use Rattle.gmon_gnu.specs.Run.{hist_words}
use Rattle.gmon_gnu.specs.Splitting.{most_samples, most_calls, piece, pieces_of, largest, hist_piece, raw_hist, arc_piece, arc_rec, has_left, raw_block, round_of}

-- the header, with its spare bytes
abbrev pub header : List ℕ
header = magic ++ (le gnu_version 4 ++ spare_bytes)

-- a histogram's tag and fields up to its counters
abbrev pub hist_header : units.Unit → Hist → List ℕ
hist_header u h = 0 ∷ (hist_words h.low h.high (length h.counters) u.rate ++ (u.dim ++ u.«abbrev» ∷ []))

abbrev pub hist_pieces_text : units.Unit → Hist → List ℕ
hist_pieces_text u h = flat_map (λ j. hist_bytes (raw_hist u (hist_piece h j))) (range_with_len 0 (pieces_of most_samples (largest h.counters)))

abbrev pub arc_text_of : (ℕ × ℕ) × ℕ → List ℕ
arc_text_of e = flat_map (λ j. rec_bytes (arc_rec (arc_piece e j))) (range_with_len 0 (pieces_of most_calls e.1))

-- the tag of counts of blocks, and their number
abbrev pub blocks_front : ℕ → List ℕ
blocks_front number = 2 ∷ le number 4

-- nothing where nothing is left
abbrev pub left_bytes : ℕ → ℕ × ℕ → List ℕ
left_bytes j e = if has_left j e.1 then block_bytes (raw_block (e.0, piece most_calls j e.1)) else []

-- the entries that have something left for round j
abbrev pub left_of : ℕ → List (ℕ × ℕ) → List (ℕ × ℕ)
left_of j blocks = filter (λ e. has_left j e.1) blocks

-- parts of so many entries, of which 32,768 have all
pub record IsPartSize (size : ℕ) (blocks : List (ℕ × ℕ)) : Type 0 where
  pub all : length blocks ≤ 32768 * size
  pub few : size ≤ 2 ^ 26

-- so many entries, or the last ones
abbrev pub part_of : {T : Type 0} → ℕ → ℕ → List T → List T
part_of size part blocks = take size (drop (part * size) blocks)

-- there is a mark for each part, and a part without it has nothing left for round j
pub record AreMarks (j : ℕ) (size : ℕ) (blocks : List (ℕ × ℕ)) (marks : List Bool) : Type 0 where
  pub count : length marks ≡ 32768
  pub unmarked : (part : ℕ) → get_or marks part true ≡ false → left_of j (part_of size part blocks) ≡ []

abbrev pub round_bytes : List (ℕ × ℕ) → ℕ → List ℕ
round_bytes blocks j = blocks_bytes (map raw_block (round_of blocks j))

-- n rounds, from round j on
abbrev pub rounds_text : ℕ → ℕ → List (ℕ × ℕ) → List ℕ
rounds_text j n blocks = flat_map (round_bytes blocks) (range_with_len j n)
