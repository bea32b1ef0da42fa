-- Shares and overlaps.
use Rattle.std.proofs.Common.{◌≡◌, ℕ, ◌+◌, ◌-◌, ◌*◌, ◌/◌, ◌<◌, ◌≤◌, get_or, ap, arith}
use Rattle.std.proofs.Math.Nat.{mul-le-mul_right, div-mul-le_self}
use Rattle.std.proofs.lemmas.Nat.{le-div}
use Rattle.gmon_data.specs.declared.hist.Hist.{Hist}
use Rattle.gmon_data.specs.Hists.{IsKept}
use Rattle.elf32_syms.specs.declared.image.Symbol.{Symbol}
use Rattle.symbol_shares.specs.Shares.{place_in_bucket, grains_up_to, share_of_bucket}
use Rattle.symbol_shares.specs.Parts.{IsInside, overlap_of}
use Rattle.symbol_shares.proofs.BucketLemmas.{grains-none, grains-all}

pub share-inside : (h : Hist) (i : ℕ) (s : Symbol) → IsKept h → IsInside h i s → share_of_bucket h i s ≡ 1000000 * get_or h.counters i 0
share-inside h i s kept inside = grind (arith, grains-none, grains-all)

-- the difference of two floors, times what they were divided by
floors-apart : (w a b : ℕ) → 0 < w → a ≤ b → (b / w - a / w) * w + a / w * w ≡ b / w * w
floors-apart w a b some le =
    let rise = le-div (a / w) b w some (let down = div-mul-le_self a w in omega (arith, down, le)) in
    let sum : b / w - a / w + a / w ≡ b / w = omega (arith, rise) in
    let product = ap (λ q. q * w) sum in
    omega (arith, product)

floors-most : (w a b : ℕ) → 0 < w → a ≤ b → (b / w - a / w) * w < b - a + w
floors-most w a b some le = grind arith

floors-least : (w a b : ℕ) → 0 < w → a ≤ b → b - a < (b / w - a / w + 1) * w
floors-least w a b some le = grind (arith, floors-apart)

-- the grains between two places in the bucket
grains-between : (c y z : ℕ) → y ≤ z → c * z - c * y ≡ c * (z - y)
grains-between c y z le = grind arith

module _ (h : Hist) (i : ℕ) (s : Symbol) (kept : IsKept h) (le : s.addr ≤ s.end) where
  abbrev count : ℕ
  count = get_or h.counters i 0 * 1000000

  abbrev width : ℕ
  width = h.high - h.low

  -- places in the bucket
  abbrev from : ℕ
  from = place_in_bucket h i s.addr

  abbrev to : ℕ
  to = place_in_bucket h i s.end

  exact-grains : count * to - count * from ≡ 1000000 * get_or h.counters i 0 * overlap_of h i s
  exact-grains = grind (arith, mul-le-mul_right, grains-between)

  pub share-most : share_of_bucket h i s * (h.high - h.low) < 1000000 * get_or h.counters i 0 * overlap_of h i s + (h.high - h.low)
  unfolding grains_up_to
  share-most = grind (arith, floors-most, exact-grains)

  pub share-least : 1000000 * get_or h.counters i 0 * overlap_of h i s < (share_of_bucket h i s + 1) * (h.high - h.low)
  unfolding grains_up_to
  share-least = grind (arith, floors-least, exact-grains)
