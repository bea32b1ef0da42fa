-- What follows from the definition of a sum.
use Rattle.std.specs.Prelude.{◌≡◌, ◌++◌, List, None}
use Rattle.std.specs.List.{All, AllByRecursion}
use Rattle.gmon_data.specs.Content.{WideRec, conflict_of, content_of, empty_content, HasSpan}
use Rattle.gmon_data.specs.Hists.{IsKept}
use Rattle.profile_sum.specs.Sum.{clash_of, sum_of}

-- records can be split between two profiles: where they have no conflict one after the other, what any
-- first ones add up to and what the others add up to have a sum
abbrev pub PartsHaveSum : Type 0
PartsHaveSum = (a b : List WideRec) → All HasSpan (a ++ b) → conflict_of empty_content (a ++ b) ≡ None → clash_of (content_of a) (content_of b) ≡ None

-- and the other way round: lists of records that have no conflict each, and whose contents have a sum, have none one after
-- the other
abbrev pub AlikeAreJoined : Type 0
AlikeAreJoined = (a b : List WideRec) → All HasSpan (a ++ b) → conflict_of empty_content a ≡ None → conflict_of empty_content b ≡ None → clash_of (content_of a) (content_of b) ≡ None
    → conflict_of empty_content (a ++ b) ≡ None

-- the sum of the contents of two lists of records is the content of the one list followed by the other
abbrev pub SumOfContents : Type 0
SumOfContents = (a b : List WideRec) → sum_of (content_of a) (content_of b) ≡ content_of (a ++ b)

-- each histogram of what records add up to has a range and counters, whether the records are alike or not
abbrev pub HistsAreKept : Type 0
HistsAreKept = (recs : List WideRec) → All HasSpan recs → AllByRecursion IsKept (content_of recs).hists
