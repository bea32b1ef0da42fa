-- The file of a profile, piece by piece.
use Rattle.std.proofs.Common.{◌≡◌, ℕ, ◌<◌, Bool, true, false, List, [], ◌∷◌, ◌++◌, length, map, Option, Some, None, refl, sym, ap, ◌∙◌, append_assoc, if◌then◌else◌, arith}
use Rattle.std.specs.List.{flat_map, range_with_len}
use Rattle.std.proofs.lemmas.List.{map-append, length-map}
use Rattle.std.proofs.lemmas.List.Concat.{flat_map-append}
use Rattle.gp_base.specs.declared.records.Unit as units
use Rattle.gp_base.specs.declared.records.Rec.{Rec}
use Rattle.gp_base.specs.Bytes.{le}
use Rattle.gmon_data.specs.declared.hist.Hist.{Hist}
use Rattle.gmon_data.specs.Content.{Content}
use Rattle.gp_base.specs.Fields.{counter_bytes, block_bytes}
use Rattle.gmon_gnu.specs.Grammar.{rec_bytes, hist_bytes, blocks_bytes}
use Rattle.gmon_gnu.specs.Pieces.{header, hist_header, hist_pieces_text, arc_text_of, left_bytes, rounds_text}
use Rattle.gmon_gnu.specs.ProfileText.{profile_text}
use Rattle.gmon_gnu.specs.Splitting.{most_samples, most_calls, piece, pieces_of, largest, hist_piece, raw_hist, hist_rec, hist_recs, arc_piece, arc_pieces, arc_rec, has_left, round_of, rounds_of, raw_block}

flat_map-map : {X Y : Type 0} (g : Y → List ℕ) (f : X → Y) (xs : List X) → flat_map g (map f xs) ≡ flat_map (λ x. g (f x)) xs
flat_map-map g f [] = refl
flat_map-map g f (x ∷ xs) = ap (λ (t : List ℕ). g (f x) ++ t) (flat_map-map g f xs)

-- records that are the pieces of values
module _ {X Y : Type 0} (rec : Y → Rec) (part : X → ℕ → Y) (count : X → ℕ) where
  abbrev text_of : X → List ℕ
  text_of x = flat_map (λ j. rec_bytes (rec (part x j))) (range_with_len 0 (count x))

  abbrev parts_of : X → List Y
  parts_of x = map (part x) (range_with_len 0 (count x))

  one_text : (x : X) → text_of x ≡ flat_map rec_bytes (map rec (parts_of x))
  one_text x = search flat_map-map

  pub parts_text : (xs : List X) → flat_map text_of xs ≡ flat_map rec_bytes (map rec (flat_map parts_of xs))
  parts_text [] = refl
  parts_text (x ∷ xs) =
      (λ i. one_text x i ++ parts_text xs i)
      ∙ sym (flat_map-append rec_bytes (map rec (parts_of x)) (map rec (flat_map parts_of xs)))
      ∙ ap (flat_map rec_bytes) (sym (map-append rec (parts_of x) (flat_map parts_of xs)))

-- ---- histograms

pub hists_text : (u : units.Unit) (hs : List Hist) → flat_map (hist_pieces_text u) hs ≡ flat_map rec_bytes (hist_recs (Some u) hs)
hists_text u hs = parts_text (hist_rec u) hist_piece (λ (h : Hist). pieces_of most_samples (largest h.counters)) hs

abbrev pub pieces_text : ℕ → List ℕ → List ℕ
pieces_text j counters = flat_map (λ n. counter_bytes (piece most_samples j n)) counters

pub hist_piece_text : (u : units.Unit) (h : Hist) (j : ℕ) → hist_header u h ++ pieces_text j h.counters ≡ hist_bytes (raw_hist u (hist_piece h j))
hist_piece_text u h j = search (append_assoc, length-map, flat_map-map)

-- ---- arcs

pub arcs_text : (es : List ((ℕ × ℕ) × ℕ)) → flat_map arc_text_of es ≡ flat_map rec_bytes (map arc_rec (flat_map arc_pieces es))
arcs_text es = parts_text arc_rec arc_piece (λ (e : (ℕ × ℕ) × ℕ). pieces_of most_calls e.1) es

-- ---- counts of basic blocks

left_text : (j : ℕ) (es : List (ℕ × ℕ)) → flat_map (left_bytes j) es ≡ flat_map block_bytes (map raw_block (round_of es j))
left_text j [] = refl
left_text j (e ∷ es) = by (has_left j e.1) (left_text j es)
  where
    filter_first : Option (ℕ × ℕ) → List (ℕ × ℕ) → List (ℕ × ℕ)
    filter_first (Some x) xs = x ∷ xs
    filter_first None xs = xs

    by : (b : Bool) → flat_map (left_bytes j) es ≡ flat_map block_bytes (map raw_block (round_of es j))
        → (if b then block_bytes (raw_block (e.0, piece most_calls j e.1)) else []) ++ flat_map (left_bytes j) es
        ≡ flat_map block_bytes (map raw_block (filter_first (if b then Some (e.0, piece most_calls j e.1) else None) (round_of es j)))
    by b others = grind arith

pub round_text : (j : ℕ) (es : List (ℕ × ℕ)) (n : ℕ) → n ≡ length (round_of es j) → 2 ∷ (le n 4 ++ flat_map (left_bytes j) es) ≡ blocks_bytes (map raw_block (round_of es j))
round_text j es n is = grind (arith, length-map, left_text)

pub rounds_of_some : (es : List (ℕ × ℕ)) (n : ℕ) → 0 < length es → n ≡ pieces_of most_calls (largest (map (λ e. e.1) es))
    → rounds_text 0 n es ≡ flat_map (λ rs. blocks_bytes (map raw_block rs)) (rounds_of es)
rounds_of_some es n some is = grind (arith, flat_map-map)

pub rounds_of_none : (es : List (ℕ × ℕ)) → length es ≡ 0 → rounds_of es ≡ []
rounds_of_none es is = grind arith

-- what a round puts of an entry
pub left_some : (j : ℕ) (e : ℕ × ℕ) → has_left j e.1 ≡ true → block_bytes (raw_block (e.0, piece most_calls j e.1)) ≡ left_bytes j e
left_some j e left = ap (λ (b : Bool). if b then block_bytes (raw_block (e.0, piece most_calls j e.1)) else []) (sym left)

pub left_none : (j : ℕ) (e : ℕ × ℕ) → has_left j e.1 ≡ false → [] ≡ left_bytes j e
left_none j e none = ap (λ (b : Bool). if b then block_bytes (raw_block (e.0, piece most_calls j e.1)) else []) (sym none)

-- ---- the whole

pub profile_parts : (p : Content) → header ++ (flat_map rec_bytes (hist_recs p.«unit» p.hists) ++ (flat_map arc_text_of p.arcs ++ flat_map (λ rs. blocks_bytes (map raw_block rs)) (rounds_of p.blocks))) ≡ profile_text p
unfolding profile_text
profile_parts p = search (arcs_text, flat_map-append, flat_map-map)
