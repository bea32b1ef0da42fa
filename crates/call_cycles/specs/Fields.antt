-- What a graph's fields stand for, and what is true of them.
use Rattle.std.specs.Prelude.{◌≡◌, ◌<◌, ◌^◌, ℕ, length, slice_index}
use Rattle.call_cycles.specs.declared.graphs.Graph.TheInside.{Inside}
use Rattle.call_cycles.specs.Graph.{GraphValue, IsGraph, entering_of, member_count}

abbrev pub value_of : Inside → GraphValue
value_of a = record {
  functions = a.functions;
  arcs = a.arcs.items;
  self_calls = a.self_calls.items;
  component = a.component.items;
  heads = a.heads.items;
}

pub record IsHeld (a : Inside) : Type 0 where
  pub graph : IsGraph (value_of a)
  pub self_calls : length a.self_calls.items ≡ a.functions
  pub members : length a.members.items ≡ length a.heads.items
  pub counted : (c : ℕ) → c < length a.heads.items → slice_index a.members.items c ≡ member_count (value_of a) c
  pub entering : length a.entering.items ≡ length a.heads.items
  pub entered : (c : ℕ) → c < length a.heads.items → slice_index a.entering.items c ≡ entering_of (value_of a) c
  pub few : length a.heads.items < 2 ^ 32
