-- The least function of each rank leads those of this rank.
use Rattle.std.proofs.Common.{◌<◌, ◌≡◌, ℕ, List, sym, arith}
use Rattle.std.specs.Prelude.{slice_index}
use Rattle.call_cycles.specs.declared.graphs.FunArc.{FunArc}
use Rattle.call_cycles.specs.Sums.{list_of}
use Rattle.call_cycles.specs.Leaders.{AreRanks, AreLeaders, IsLeast, AreLeast}
use Rattle.call_cycles.proofs.ListLemmas.{list_long, list_at}

pub are_least : (n : ℕ) (ranks least leaders : List ℕ) → ((h : ℕ) → h < n → IsLeast n ranks 0 h (slice_index least (slice_index ranks h))) → leaders ≡ list_of n (λ h. slice_index least (slice_index ranks h)) → AreLeast n ranks leaders
are_least n ranks least leaders each is = grind (arith, list_long, list_at)

pub are_leaders : (n : ℕ) (arcs : List FunArc) (ranks leaders : List ℕ) → AreRanks n arcs ranks → AreLeast n ranks leaders → AreLeaders n arcs leaders
are_leaders n arcs ranks leaders are least = record {
  len = least.len;
  each = λ f below.
      let l = least.each f below in
      record {
        within = l.within;
        joined = (are.joined f (slice_index leaders f) below l.within).0 (sym l.same);
        least = λ h low joined. l.lowest h (omega arith) low (sym ((are.joined f h below low).1 joined));
      };
}
