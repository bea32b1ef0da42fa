-- Texts that go to one side at once, one after the other.
use Rattle.std.proofs.Common.{ℕ, ◌<◌, List, [], ◌++◌, length, Result, Ok, Err, refl}
use Rattle.host_port.specs.Outside.{Outside}
use Rattle.host_port.specs.Host.{act_of, CountsOf, KeepsLast, Takes, Puts}
use Rattle.host_port.specs.declared.side.Side.{Side}
use Rattle.host_port.proofs.Piecewise.{Along, along_fail}
use Rattle.host_port.proofs.SideLemmas.{side_piecewise, counts_then, counts_kept, counts_fail}
use Rattle.host_port.proofs.BufferLemmas.{adds_then, adds_front, adds_puts, puts_adds}

-- one text, and then another, which may fail
pub puts_then : {T E : Type 0} (side : Side) (a b : List ℕ) (x y z : Outside) (u : T) (r : Result T E) → Puts {T = T} {E = E} side a x y (Ok u) → Puts side b y z r → Puts side (a ++ b) x z r
puts_then side a b x y z u r p q = adds_puts side (a ++ b) x z r [] refl (adds_then side a b [] [] [] x y z u r (puts_adds side a x y (Ok u) p) (puts_adds side b y z r q))

-- what failed within a prefix failed within the whole
pub puts_front : {T E : Type 0} (side : Side) (a b : List ℕ) (x y : Outside) (e : E) → Puts {T = T} side a x y (Err e) → Puts {T = T} side (a ++ b) x y (Err e)
puts_front {T} {E} side a b x y e p = adds_puts {T = T} side (a ++ b) x y (Err e) [] refl (adds_front side a b [] [] x y e (puts_adds {T = T} side a x y (Err e) p))

-- a loop over the parts of one text that failed
pub puts_fail : {T E : Type 0} (side : Side) (piece rest : List ℕ) (old mid new : Outside) (u : T) (e : E) → Along (act_of side) piece rest old mid → 0 < length rest → Takes (act_of side) rest mid new (Err e) → CountsOf {T = ℕ} side mid new (Err e) → KeepsLast side old new → Puts {T = T} side piece old new (Err e)
puts_fail {T} {E} side piece rest old mid new u e far some failed counts last = record {
  takes = along_fail (act_of side) (side_piecewise side) piece rest old mid new e far some failed;
  counts = counts_then side old mid new u (Err e) (counts_kept T E side old mid u far.counts) (counts_fail ℕ T E side mid new e counts);
  last = last;
}
