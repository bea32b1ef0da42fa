-- The grains of one bucket: none below it, all above it, and more from address to address.
use Rattle.std.proofs.Common.{◌≡◌, ℕ, ◌+◌, ◌-◌, ◌*◌, ◌/◌, ◌<◌, ◌≤◌, min, length, get_or, arith}
use Rattle.gmon_data.specs.declared.hist.Hist.{Hist}
use Rattle.elf32_syms.specs.declared.image.Symbol.{Symbol}
use Rattle.symbol_shares.specs.Shares.{bucket_begin, grains_up_to, share_of_bucket}

-- ---- a part of the grains c, of y out of w

none_of : (c w y : ℕ) → y ≡ 0 → c * min w y / w ≡ 0
none_of c w y e = grind arith

all_of : (c w y : ℕ) → 0 < w → w ≤ y → c * min w y / w ≡ c
all_of c w y some le = grind arith

pub quotients_rise : (c y z w : ℕ) → 0 < w → y ≤ z → c * y / w ≤ c * z / w
quotients_rise c y z w some le = grind arith

part_within : (c w y : ℕ) → c * min w y / w ≤ c
part_within c w y = grind arith

-- ---- a bucket's

pub grains-none : (h : Hist) (i x : ℕ) → x * length h.counters ≤ bucket_begin h i → grains_up_to h i x ≡ 0
unfolding grains_up_to
grains-none h i x le = none_of (get_or h.counters i 0 * 1000000) (h.high - h.low) (x * length h.counters - bucket_begin h i) (omega arith)

pub grains-all : (h : Hist) (i x : ℕ) → h.low < h.high → bucket_begin h (i + 1) ≤ x * length h.counters → grains_up_to h i x ≡ get_or h.counters i 0 * 1000000
unfolding grains_up_to
grains-all h i x range le = all_of (get_or h.counters i 0 * 1000000) (h.high - h.low) (x * length h.counters - bucket_begin h i) (omega arith) (omega arith)

pub grains-rise : (h : Hist) (i x y : ℕ) → h.low < h.high → x ≤ y → grains_up_to h i x ≤ grains_up_to h i y
unfolding grains_up_to
grains-rise h i x y range le = grind arith

-- a range that holds no address has no grains anywhere
pub grains-ascend : (h : Hist) (i x y : ℕ) → x ≤ y → grains_up_to h i x ≤ grains_up_to h i y
unfolding grains_up_to
grains-ascend h i x y le = grind arith

pub grains-within : (h : Hist) (i x : ℕ) → grains_up_to h i x ≤ get_or h.counters i 0 * 1000000
unfolding grains_up_to
grains-within h i x = part_within (get_or h.counters i 0 * 1000000) (h.high - h.low) (x * length h.counters - bucket_begin h i)

-- ---- a symbol's share

pub share-below : (h : Hist) (i : ℕ) (s : Symbol) → s.addr < s.end → s.end * length h.counters ≤ bucket_begin h i → share_of_bucket h i s ≡ 0
share-below h i s some le = grind (arith, grains-none)

pub share-above : (h : Hist) (i : ℕ) (s : Symbol) → s.addr < s.end → h.low < h.high → bucket_begin h (i + 1) ≤ s.addr * length h.counters → share_of_bucket h i s ≡ 0
share-above h i s some range le = grind (arith, grains-all)

pub share-within : (h : Hist) (i : ℕ) (s : Symbol) → share_of_bucket h i s ≤ get_or h.counters i 0 * 1000000
share-within h i s = let e = grains-within h i s.end in omega (arith, e)
