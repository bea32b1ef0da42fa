-- Files that are added up, each alike with those before it.
use Rattle.std.specs.Prelude.{◌≡◌, ℕ, List, None}
use Rattle.std.specs.List.{AllByRecursion, flat_map}
use Rattle.gp_base.specs.Bytes.{IsBytes}
use Rattle.gmon_data.specs.Content.{conflict_of, empty_content}
use Rattle.gmon_data.specs.Hists.{IsApart, IsKept}
use Rattle.rvgprof.specs.Acceptance.{AreProfileFiles}
use Rattle.command_inputs.specs.Totals.{records_of, total_of}

-- Files of bytes that are each alike with those before them have no conflict among all their records. So the histograms of
-- what they add up to have ranges and counters, and are apart.
abbrev pub AlikeFilesHaveNoConflict : Type 0
AlikeFilesHaveNoConflict = (contents : ℕ → List ℕ) (words : List ℕ) → AreProfileFiles contents words → AllByRecursion (λ word. IsBytes (contents word)) words
    → (conflict_of empty_content (flat_map (λ word. records_of (contents word)) words) ≡ None) × AllByRecursion IsKept (total_of contents words).hists × IsApart (total_of contents words).hists
