-- What follows from the fractions: a text is whole counters and whole slots, and each address has its own of both.
use Rattle.std.proofs.Common.{◌≡◌, ℕ, ◌+◌, ◌-◌, ◌*◌, ◌/◌, ◌^◌, ◌<◌, ◌≤◌, max, sym, ap, ◌∙◌, arith}
use Rattle.std.proofs.Math.Nat.{add-mul, max_comm, mul-div_cancel, mul-le-mul_left, mul-le-mul_right, mul_assoc, mul_comm}
use Rattle.gp_base.specs.declared.records.Span.{Span}
use Rattle.gp_base.specs.declared.limits.TheConstants.{MAX_TEXT_BYTES, MAX_TEXT_END}
use Rattle.settings.specs.Setup.{IsFraction}
use Rattle.settings.proofs.FractionLemmas.{IsFraction-max}
use Rattle.mcount_arcs.specs.declared.sizes.Sizes.{Sizes}
use Rattle.mcount_arcs.specs.declared.sizes.Width.{Width}
use Rattle.mcount_arcs.specs.Sizes.{AreSizes, IsText, IsWidth, rounded_down, rounded_up, site_of, sizes_of, cell_unit, width_of}

-- the larger of two is a multiple of each
whole_by : (h k : ℕ) → IsFraction h → IsFraction k → max h k ≡ max h k / h * h
whole_by h k is_h is_k = grind arith

-- ---- the ends of a text

-- the ends as they are rounded: no further apart than by one unit more, and still where a text may end
pub record AreEnds (unit low high : ℕ) : Type 0 where
  pub down : rounded_down unit low ≤ low
  pub up : high ≤ rounded_up unit high
  pub size : rounded_up unit high ≤ rounded_down unit low + 16777248
  pub end : rounded_up unit high ≤ MAX_TEXT_END
  pub order : low / unit ≤ (high + (unit - 1)) / unit

pub ends_of : (fraction low high : ℕ) → IsFraction fraction → low < high → high ≤ low + MAX_TEXT_BYTES → high ≤ MAX_TEXT_END → AreEnds (width_of fraction) low high
ends_of fraction low high is some size end = grind arith

twice : (q n : ℕ) → 2 * (q * n) ≡ q * (2 * n)
twice q n = ap (λ m. 2 * m) (mul_comm q n) ∙ sym (mul_assoc 2 n q) ∙ mul_comm (2 * n) q

-- two multiples of a unit lie whole widths apart, where the unit is whole widths
pub covered : (unit w q a b : ℕ) → 0 < w → unit ≡ q * w → a ≤ b → a * unit + w * ((b * unit - a * unit) / w) ≡ b * unit
covered unit w q a b some whole order =
    let c : ℕ = b - a in
    let sum : b ≡ a + c = omega arith in
    let apart : b * unit ≡ a * unit + c * unit = ap (λ n. n * unit) sum ∙ add-mul a c unit in
    let parts : c * unit ≡ c * q * w = ap (λ n. c * n) whole ∙ sym (mul_assoc c q w) in
    let difference : b * unit - a * unit ≡ c * q * w = omega arith in
    grind (arith, mul-div_cancel, mul_comm)

some_of : (w n : ℕ) → 0 < w * n → 1 ≤ n
some_of w n some = grind arith

few_of : (w n : ℕ) → 4 ≤ w → w * n ≤ 16777248 → n ≤ 4194312
few_of w n wide few = omega (arith, mul-le-mul_right n wide)

-- how many widths lie between the ends, where the width is that of one of the fractions
record AreParts (w low high n : ℕ) : Type 0 where
  pub all : low + w * n ≡ high
  pub some : 1 ≤ n
  pub few : n ≤ 4194312

parts_of : (f h low high : ℕ) → IsFraction f → max f h ≡ max f h / f * f → low < high → AreEnds (cell_unit f h) low high
    → AreParts (width_of f) (rounded_down (cell_unit f h) low) (rounded_up (cell_unit f h) high) ((rounded_up (cell_unit f h) high - rounded_down (cell_unit f h) low) / width_of f)
parts_of f h low high is whole some ends =
    let unit = cell_unit f h in
    let w = width_of f in
    let wide : 4 ≤ w = omega arith in
    let widths : unit ≡ max f h / f * w = ap (λ n. 2 * n) whole ∙ twice (max f h / f) f in
    let all = covered unit w (max f h / f) (low / unit) ((high + (unit - 1)) / unit) (omega arith) widths ends.order in
    record {
      all = all;
      some = some_of w _ (omega (arith, all, ends.down, ends.up));
      few = few_of w _ wide (omega (arith, all, ends.size));
    }

pub AreSizes-of : (text : Span) (hist hash : ℕ) → IsText text → IsFraction hist → IsFraction hash → AreSizes (sizes_of text hist hash)
AreSizes-of text hist hash is is_hist is_hash =
    let ends = ends_of (max hist hash) text.low text.high (IsFraction-max hist hash is_hist is_hash) is.some is.size is.end in
    grind (arith, parts_of, whole_by, max_comm)

-- ---- an address and the parts of the text

-- parts begin in the order of their numbers
pub begins_in_order : (w i n : ℕ) → i ≤ n → w * i ≤ w * n
begins_in_order w i n order = mul-le-mul_left w order

-- a text isn't empty
pub some_text : (z : Sizes) → AreSizes z → z.low < z.high
some_text z are = grind arith

-- a call site lies before a later one
pub sites_in_order : (z : Sizes) (a b : ℕ) → a ≤ b → site_of z a ≤ site_of z b
sites_in_order z a b order = omega (arith, begins_in_order (width_of z.hash) a b order)

-- ---- the code's widths

pub part_is : (fraction offset : ℕ) (w : Width) → IsWidth fraction w → offset / 2 ^ w.bits ≡ offset / width_of fraction
part_is fraction offset w is = ap (λ n. offset / n) is.is
