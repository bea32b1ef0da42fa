-- Ranges of addresses, from a low one to below a high one.
use Rattle.std.specs.Prelude.{ℕ, ◌<◌, Bool, nat_lt, nat_le, ◌&&◌, length, ⊤}
use Rattle.gp_base.specs.declared.records.Span.{Span}
use Rattle.gp_base.specs.declared.records.Rec.{Rec}
use Rattle.gp_base.specs.declared.records.Rec.TheVariants.{Hist, Arc, Blocks}

-- the address lies in the span
abbrev pub is_in : Span → ℕ → Bool
is_in span address = nat_le span.low address && nat_lt address span.high

-- the counters of a histogram, if there are any, share a range that isn't empty
abbrev pub HasRange : Rec → Type 0
HasRange (Hist hist) = 0 < length hist.counters → hist.low < hist.high
HasRange (Arc arc) = ⊤
HasRange (Blocks blocks) = ⊤
