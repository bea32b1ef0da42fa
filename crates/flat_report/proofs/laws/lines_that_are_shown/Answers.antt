use Rattle.std.proofs.Common.{◌++◌, ℕ, List, refl, ap}
use Rattle.std.specs.List.{enumerate_from, flat_map}
use Rattle.symbol_shares.specs.Shares.{attributed_of}
use Rattle.flat_report.specs.Entries.{FlatEntry, flat_entries}
use Rattle.flat_report.specs.FlatText.{flat_text, flat_header, line_at}
use Rattle.flat_report.proofs.HiddenLemmas.{none_hidden}
use Rattle.flat_report.proofs.laws.lines_that_are_shown.Goals as goal

pub returns-clause-whole : goal.returns-clause-whole
unfolding flat_text
returns-clause-whole c = λ s.
    ap (λ (es : List (ℕ × FlatEntry)). flat_header s.shares s.rate ++ flat_map (line_at (attributed_of s.shares) s.rate (flat_entries s)) es)
    (none_hidden (λ (e : ℕ × FlatEntry). e.1.name) (enumerate_from 0 (flat_entries s)))

pub returns-clause-less : goal.returns-clause-less
unfolding flat_text
returns-clause-less c = λ s hidden. refl
