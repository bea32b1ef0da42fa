-- The records that a profile is written as. A number that has no room in its field is split: each piece is as large
-- as the field allows, and the last one has the rest.
use Rattle.std.specs.Prelude.{ℕ, zero, suc, ◌-◌, ◌*◌, ◌/◌, min, max, nat_lt, Bool, true, List, [], ◌∷◌, ◌++◌, map, filter_map, Option, Some, None, if◌then◌else◌}
use Rattle.std.specs.List.{flat_map, range_with_len}
use Rattle.gp_base.specs.declared.records.Unit as units
use Rattle.gp_base.specs.declared.records.RawBlock.{RawBlock}
use Rattle.gp_base.specs.declared.records.RawHist.{RawHist}
use Rattle.gp_base.specs.declared.records.Rec.{Rec}
use Rattle.gp_base.specs.declared.records.Rec.TheVariants as raw
use Rattle.gmon_data.specs.declared.hist.Hist.{Hist}
use Rattle.gmon_data.specs.Content.{Content}

-- the largest numbers of two and of four bytes
abbrev pub most_samples : ℕ
most_samples = 65535

abbrev pub most_calls : ℕ
most_calls = 4294967295

-- piece j, from 0, of a number
abbrev pub piece : ℕ → ℕ → ℕ → ℕ
piece most j n = min most (n - j * most)

-- how many pieces a number takes: one at least
abbrev pub pieces_of : ℕ → ℕ → ℕ
pieces_of most n = suc ((n - 1) / most)

-- n pieces, from piece j on
abbrev pub each_piece : {X : Type 0} → (ℕ → X) → ℕ → ℕ → List X
each_piece f j n = map f (range_with_len j n)

abbrev pub largest : List ℕ → ℕ
largest [] = 0
largest (x ∷ xs) = max x (largest xs)

-- ---- histograms

-- a histogram as histograms whose counters have two bytes: as many as its largest counter takes
abbrev pub hist_piece : Hist → ℕ → Hist
hist_piece h j = record h { counters = map (piece most_samples j) h.counters }

abbrev pub hist_pieces : Hist → List Hist
hist_pieces h = each_piece (hist_piece h) 0 (pieces_of most_samples (largest h.counters))

abbrev pub raw_hist : units.Unit → Hist → RawHist
raw_hist u h = record { low = h.low; high = h.high; «unit» = u; counters = h.counters }

abbrev pub hist_rec : units.Unit → Hist → Rec
hist_rec u h = raw.Hist (raw_hist u h)

-- where there is no unit there is no histogram
abbrev pub hist_recs : Option units.Unit → List Hist → List Rec
hist_recs None hs = []
hist_recs (Some u) hs = map (hist_rec u) (flat_map hist_pieces hs)

-- ---- arcs

-- an arc as arcs whose counts have four bytes
abbrev pub arc_piece : (ℕ × ℕ) × ℕ → ℕ → (ℕ × ℕ) × ℕ
arc_piece e j = (e.0, piece most_calls j e.1)

abbrev pub arc_pieces : (ℕ × ℕ) × ℕ → List ((ℕ × ℕ) × ℕ)
arc_pieces e = each_piece (arc_piece e) 0 (pieces_of most_calls e.1)

abbrev pub arc_rec : (ℕ × ℕ) × ℕ → Rec
arc_rec e = raw.Arc (record { from = e.0.0; to = e.0.1; count = e.1 })

-- ---- counts of basic blocks

-- all addresses are in round 0, and in each further one those that have something left
abbrev pub has_left : ℕ → ℕ → Bool
has_left zero n = true
has_left (suc j) n = nat_lt (suc j * most_calls) n

abbrev pub piece_left : ℕ → ℕ × ℕ → Option (ℕ × ℕ)
piece_left j e = if has_left j e.1 then Some (e.0, piece most_calls j e.1) else None

abbrev pub round_of : List (ℕ × ℕ) → ℕ → List (ℕ × ℕ)
round_of blocks j = filter_map (piece_left j) blocks

-- as many rounds as the largest count takes
abbrev pub rounds_of : List (ℕ × ℕ) → List (List (ℕ × ℕ))
rounds_of [] = []
rounds_of (b ∷ bs) = each_piece (round_of (b ∷ bs)) 0 (pieces_of most_calls (largest (map (λ e. e.1) (b ∷ bs))))

abbrev pub raw_block : ℕ × ℕ → RawBlock
raw_block e = record { addr = e.0; count = e.1 }

abbrev pub blocks_rec : List (ℕ × ℕ) → Rec
blocks_rec es = raw.Blocks (map raw_block es)

-- ---- a profile

abbrev pub profile_recs : Content → List Rec
profile_recs p = hist_recs p.«unit» p.hists ++ (map arc_rec (flat_map arc_pieces p.arcs) ++ map blocks_rec (rounds_of p.blocks))
