-- The last segment that fills an address.
use Rattle.std.proofs.Common.{◌≡◌, Bool, true, List, Some, reverse, arith}
use Rattle.std.specs.List.{All, find}
use Rattle.std.proofs.lemmas.List.{get_or-reverse, length-reverse}
use Rattle.std.proofs.lemmas.List.Elements.{All-contains}
use Rattle.gp_base.proofs.Searching.{find_some}
use Rattle.elf32_syms.specs.declared.image.Segment.{Segment}

all_reversed : (P : Segment → Type 0) (segments : List Segment) → All P segments → All P (reverse segments)
all_reversed P segments all k d below = grind (arith, length-reverse, get_or-reverse)

-- the last segment that passes is one of them, and passes
pub last_is_one : (P : Segment → Type 0) (p : Segment → Bool) (segments : List Segment) (s : Segment) → All P segments → find p (reverse segments) ≡ Some s → P s × (p s ≡ true)
last_is_one P p segments s all is =
    let found = find_some p (reverse segments) s is in
    (All-contains P (reverse segments) s (all_reversed P segments all) found.0, found.1)
