-- What cutting calls leaves of a graph and of shares.
use Rattle.std.specs.Prelude.{◌≡◌, ℕ, List, [], length, not, filter}
use Rattle.elf32_syms.specs.declared.image.Symbol.{Symbol}
use Rattle.gmon_data.specs.Content.{Content, IsProfile}
use Rattle.symbol_shares.specs.Shares.{shares_of}
use Rattle.call_cycles.specs.Calls.{calls_between, function_arcs, own_calls}
use Rattle.call_cycles.specs.Sums.{list_of, when}
use Rattle.arc_filter.specs.Cuts.{is_cut_pair, without_cuts}

-- of the function arcs those stay whose two names are no cut, with the same counts and in the same order
abbrev pub ArcsStay : Type 0
ArcsStay = (p : Content) (symbols : List Symbol) (cuts : List (List ℕ))
    → function_arcs (without_cuts p symbols cuts).arcs symbols ≡ filter (λ a. not (is_cut_pair symbols cuts a.caller a.callee)) (function_arcs p.arcs symbols)

-- of the calls of functions by themselves those stay of functions whose name, twice, is no cut
abbrev pub SelfCallsStay : Type 0
SelfCallsStay = (p : Content) (symbols : List Symbol) (cuts : List (List ℕ))
    → own_calls (without_cuts p symbols cuts).arcs symbols ≡ list_of (length symbols) (λ f. when (not (is_cut_pair symbols cuts f f)) (calls_between p.arcs symbols f f))

-- no time is cut: each share, what functions have together, and what is outside of them
abbrev pub TimesStay : Type 0
TimesStay = (p : Content) (symbols : List Symbol) (cuts : List (List ℕ)) → shares_of (without_cuts p symbols cuts).hists symbols ≡ shares_of p.hists symbols

-- what is left is a profile
abbrev pub ProfilesStay : Type 0
ProfilesStay = (p : Content) (symbols : List Symbol) (cuts : List (List ℕ)) → IsProfile p → IsProfile (without_cuts p symbols cuts)

-- with no words it is the whole
abbrev pub NothingIsCut : Type 0
NothingIsCut = (p : Content) (symbols : List Symbol) → without_cuts p symbols [] ≡ p
